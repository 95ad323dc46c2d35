-- Edits, and computing checksums, keep the places of a table on the disk.
use Rattle.std.proofs.Common.{◌≡◌, ◌⊎◌, ⊎_elim, ◌<◌, ◌^◌, inl, inr, Some, None, Bool, ℕ, suc, ◌-◌, true, false, List, [], ◌∷◌, length, nat_lt, refl, sym, ap, ◌∙◌, subst}
use Rattle.std.specs.Prelude.{if◌then◌else◌}
use Rattle.std.proofs.lemmas.List.{length-map, length-set}
use Rattle.gptman.specs.Coding.{empty_entry}
use Rattle.gptman.specs.TableWrites.{table_write_fault, IsButSums, IsNotForRoom, RefusesWrite}
use Rattle.gptman.specs.TableWrites.RefusesWrite.{no_memory, not_valid, no_room, disk_failed}
use Rattle.gptman.specs.Commit.{RefusesEdit}
use Rattle.gptman.specs.Commit.RefusesEdit.{not_applied, not_written}
use Rattle.gptman.specs.Crash.{HasRangesOf, IsKeptFor, other_place, StartsFromOne}
use Rattle.gptman_disk.specs.Disk.{DiskState, IsSound, Keeps, LeavesOnly}
use Rattle.gptman.specs.Edit.{after_edit, edit_fault, edited_all}
use Rattle.gptman_disk.specs.Fault.{Fault, io, invalid_partition_number}
use Rattle.gptman_disk.specs.Ranges.{AreClear}
use Rattle.gptman.specs.Layout.{HasLayout, Holds, IsLaidOut, copy_ranges_at}
use Rattle.gptman.specs.Number.{has_number}
use Rattle.gptman.specs.Order.{by_rank, put_in, rank}
use Rattle.gptman.specs.Reading.{CopyPlace, primary, backup}
use Rattle.gptman.specs.Stop.{HoldsOneOf, IsStored, StopsHold}
use Rattle.gptman.specs.Table.{Table, table_of, entries_in, table_in, IsHeaderForm}
use Rattle.gptman.specs.Copy.{IsCoherent}
use Rattle.gptman.specs.Valid.{IsValidity}
use Rattle.gptman.specs.Valid.IsValidity.{shared_guid, bad_boundaries, valid}
use Rattle.gptman.specs.Write.{four_ranges, write_fault}
use Rattle.gptman.specs.declared.codec.entry.GPTPartitionEntry.{GPTPartitionEntry}
use Rattle.gptman.specs.declared.codec.header.GPTHeader.{GPTHeader}
use Rattle.gptman.specs.declared.edit.Edit.{Edit}
use Rattle.gptman.specs.declared.edit.Edit.TheVariants.{Put, Remove, SortEntries, DiskGuid}
use Rattle.gptman.specs.declared.table.GPT.{GPT}
use Rattle.gptman.proofs.Accepted.{layout_fits}
use Rattle.gptman.proofs.FourRanges.{same_ranges}
use Rattle.gptman.proofs.Held.{holds_local}
use Rattle.gptman.proofs.OneGood.{leaves_still}
use Rattle.gptman_disk.proofs.Ranges.{contains_first}
use Rattle.gptman.proofs.Runs.{rose_since}
use Rattle.gptman.proofs.WrittenCopy.{content_of}

-- A header with another disk GUID and other checksums.
abbrev with_sums : GPTHeader → List ℕ → ℕ → ℕ → GPTHeader
with_sums h guid own array = record h { disk_guid = guid; crc32_checksum = own; partition_entry_array_crc32 = array }

-- The same sector size, as many entries, and a header that differs only in the disk GUID and the checksums.
pub record KeepsRanges (g new : GPT) : Type 0 where
  pub sector : new.sector_size ≡ g.sector_size
  pub header : new.header ≡ with_sums g.header new.header.disk_guid new.header.crc32_checksum new.header.partition_entry_array_crc32
  pub long : length (entries_in new) ≡ length (entries_in g)

length-put_in : {X : Type 0} (r : X → ℕ) (x : X) (xs : List X) → length (put_in r x xs) ≡ suc (length xs)
unfolding put_in
length-put_in r x [] = refl
length-put_in {X} r x (y ∷ ys) = (elim (nat_lt (r y) (r x)) as (λ b. length (if b then y ∷ put_in r x ys else x ∷ y ∷ ys) ≡ suc (length (y ∷ ys))) [
  | true ↦ ap suc (length-put_in r x ys)
  | false ↦ refl
])

length-by_rank : {X : Type 0} (r : X → ℕ) (xs : List X) → length (by_rank r xs) ≡ length xs
unfolding by_rank
length-by_rank r [] = refl
length-by_rank r (x ∷ xs) = length-put_in r x (by_rank r xs) ∙ ap suc (length-by_rank r xs)

-- An edit keeps the ranges.
pub edited_keeps : (g : GPT) (edit : Edit) → KeepsRanges g (after_edit g edit)
edited_keeps g (Put i e) = record { sector = refl; header = refl; long = length-set (entries_in g) (i - 1) e }
edited_keeps g (Remove i) = record { sector = refl; header = refl; long = length-set (entries_in g) (i - 1) empty_entry }
edited_keeps g SortEntries = record { sector = refl; header = refl; long = length-by_rank rank (entries_in g) }
edited_keeps g (DiskGuid guid) = record { sector = refl; header = refl; long = refl }

pub edit_keeps : (g mid : GPT) (edit : Edit) → mid ≡ after_edit g edit → KeepsRanges g mid
edit_keeps g mid edit is = subst (KeepsRanges g) (sym is) (edited_keeps g edit)

-- So do new checksums,
pub sums_keep : (g new : GPT) → IsButSums g new → KeepsRanges g new
sums_keep g new is =
    let at : GPTHeader → GPTHeader = λ h. with_sums h h.disk_guid h.crc32_checksum h.partition_entry_array_crc32 in
    record {
      sector = ap (λ (x : GPT). x.sector_size) is.0;
      header = is.1 ∙ (λ i. record g.header { disk_guid = sym (ap (λ (h : GPTHeader). h.disk_guid) is.1) i; crc32_checksum = new.header.crc32_checksum; partition_entry_array_crc32 = new.header.partition_entry_array_crc32 });
      long = ap (λ (x : GPT). length (entries_in x)) is.0;
    }

-- two such changes in sequence,
pub keeps_both : (g mid new : GPT) → KeepsRanges g mid → KeepsRanges mid new → KeepsRanges g new
keeps_both g mid new first second = record {
  sector = second.sector ∙ first.sector;
  header = second.header ∙ ap (λ (h : GPTHeader). with_sums h new.header.disk_guid new.header.crc32_checksum new.header.partition_entry_array_crc32) first.header;
  long = second.long ∙ first.long;
}

-- and a list of edits.
pub list_keeps : (g : GPT) (edits : List Edit) → KeepsRanges g (edited_all g edits)
list_keeps g [] = record { sector = refl; header = refl; long = refl }
list_keeps g (edit ∷ edits) =
    let next = after_edit g edit in keeps_both g next (edited_all next edits) (edited_keeps g edit) (list_keeps next edits)

-- ---- what the places hold is kept

module _ (g new : GPT) (keeps : KeepsRanges g new) where
  abbrev like : GPTHeader
  like = with_sums g.header new.header.disk_guid new.header.crc32_checksum new.header.partition_entry_array_crc32

  pub coherent_still : IsCoherent g.header (entries_in g) → IsCoherent new.header (entries_in new)
  coherent_still is = subst (λ (h : GPTHeader). IsCoherent h (entries_in new)) (sym keeps.header) (record {
    header_size = is.header_size;
    count = keeps.long ∙ is.count;
    entry_size = is.entry_size;
  })

  like_laid_out : (ss len : ℕ) → IsLaidOut (table_in g) ss len → IsLaidOut (table_of like (entries_in new)) ss len
  like_laid_out ss len laid = record {
    sector = laid.sector;
    signature = laid.signature;
    revision = laid.revision;
    header_size = laid.header_size;
    entry_size = laid.entry_size;
    entries = length-map (entries_in new) content_of ∙ (keeps.long ∙ (sym (length-map (entries_in g) content_of) ∙ laid.entries));
    low_sector = laid.low_sector;
    high_sector = laid.high_sector;
    inside = laid.inside;
    apart = laid.apart;
    fits = laid.fits;
  }

  form_like : (side : CopyPlace) → IsHeaderForm side g.header → IsHeaderForm side like
  form_like primary form = form
  form_like backup form = form

  pub layout_still : (len : ℕ) → HasLayout g len → HasLayout new len
  layout_still len layout =
      let P : GPTHeader → ℕ → Type 0 = λ h ss. HasLayout (record new { header = h; sector_size = ss }) len in
      let here : P like g.sector_size = record { table = like_laid_out g.sector_size len layout.table; side = layout.side; form = form_like layout.side layout.form } in
      subst (λ (ss : ℕ). P new.header ss) (sym keeps.sector) (subst (λ (h : GPTHeader). P h g.sector_size) (sym keeps.header) here)

  pub same_ranges_too : HasRangesOf (table_in g) (table_in new)
  same_ranges_too = record {
    count = ap (λ (h : GPTHeader). h.number_of_partition_entries) keeps.header;
    last = ap (λ (h : GPTHeader). h.last_usable_lba) keeps.header;
  }

  pub form_still : (side : CopyPlace) → IsHeaderForm side g.header → IsHeaderForm side new.header
  form_still side form = subst (IsHeaderForm side) (sym keeps.header) (form_like side form)

  pub kept_still : (disk : DiskState) (was : Table) → IsKeptFor disk g was → IsKeptFor disk new was
  kept_still disk was kept =
      let side : CopyPlace = kept.side in
      let ss : ℕ = g.sector_size in
      let clear : AreClear (copy_ranges_at side was ss disk.size) (copy_ranges_at (other_place side) (table_in new) ss disk.size) =
      subst (λ (rs : List (ℕ × ℕ)). AreClear (copy_ranges_at side was ss disk.size) rs) (same_ranges (other_place side) (table_in g) (table_in new) ss disk.size same_ranges_too) kept.clear in
      record {
        synced = kept.synced;
        side = side;
        form = form_still side kept.form;
        held = subst (λ (n : ℕ). Holds disk.view n side was) (sym keeps.sector) kept.held;
        clear = subst (λ (n : ℕ). AreClear (copy_ranges_at side was n disk.size) (copy_ranges_at (other_place side) (table_in new) n disk.size)) (sym keeps.sector) clear;
      }

  -- So is the error for lack of room.
  pub room_still : (len : ℕ) → write_fault new.header new.sector_size len ≡ write_fault g.header g.sector_size len
  room_still len = (λ i. write_fault (keeps.header i) (keeps.sector i) len)

  pub ranges_still : four_ranges new.header new.sector_size ≡ four_ranges g.header g.sector_size
  ranges_still = (λ i. four_ranges (keeps.header i) (keeps.sector i))

-- ---- one edit

-- Without a call a crash leaves the disk unchanged, with the old table on it.
pub leaves_kept : (g : GPT) (disk : DiskState) (was : Table) (more : List Table) → IsSound disk → IsKeptFor disk g was → LeavesOnly disk disk (λ x. HoldsOneOf x g.sector_size (was ∷ more))
leaves_kept g disk was more sound kept =
    leaves_still disk (λ x. HoldsOneOf x g.sector_size (was ∷ more)) sound kept.synced (λ x same. record {
      side = kept.side;
      table = was;
      listed = contains_first was more;
      holds = holds_local disk.view x g.sector_size kept.side was kept.held (record { long = same.long; same = λ k inside. same.same k tt });
    })

-- After a crash in the write of an edited table.
pub leaves_edited : (g mid : GPT) (edit : Edit) (a b : DiskState) → mid ≡ after_edit g edit → StartsFromOne a g (table_in g)
    → ((was : Table) → StartsFromOne a mid was → StopsHold a b mid.sector_size (was ∷ table_in mid ∷ []))
    → StopsHold a b g.sector_size (table_in g ∷ table_in (after_edit g edit) ∷ [])
leaves_edited g mid edit a b is from written =
    let keeps = edited_keeps g edit in
    let P : GPT → Type 0 = λ m. (was : Table) → StartsFromOne a m was → StopsHold a b m.sector_size (was ∷ table_in m ∷ []) in
    let next : StartsFromOne a (after_edit g edit) (table_in g) = record {
      start = record { honest = from.start.honest; layout = layout_still g (after_edit g edit) keeps a.size from.start.layout };
      kept = kept_still g (after_edit g edit) keeps a (table_in g) from.kept;
    } in
    let here = (subst P is written) (table_in g) next in
    subst (λ (n : ℕ). StopsHold a b n (table_in g ∷ table_in (after_edit g edit) ∷ [])) keeps.sector here

-- After the write of an edited table it is stored.
pub stored_edited : (g mid : GPT) (edit : Edit) (disk : DiskState) → mid ≡ after_edit g edit → IsStored disk mid.sector_size (table_in mid) → IsStored disk g.sector_size (table_in (after_edit g edit))
stored_edited g mid edit disk is stored =
    subst (λ (n : ℕ). IsStored disk n (table_in (after_edit g edit))) (edited_keeps g edit).sector (subst (λ (m : GPT). IsStored disk m.sector_size (table_in m)) is stored)

-- Why a write of an edited table fails.
pub refused_edit : (g mid new : GPT) (edit : Edit) (fault : Fault) (a b : DiskState) → mid ≡ after_edit g edit → edit_fault g edit ≡ None
    → RefusesWrite mid fault a b → (fault ≡ io) ⊎ (new ≡ mid) → IsButSums mid new → RefusesEdit g edit fault new a b
refused_edit g mid new edit fault a b is none refused kept sums =
    not_written none (subst (λ (m : GPT). RefusesWrite m fault a b) is refused)
    (⊎_elim (λ failed. inr (failed, subst (λ (m : GPT). IsButSums m new) is sums)) (λ same. inl (same ∙ is)) kept)

-- A write that fails on a disk that keeps its length.
pub write_since : (g : GPT) (fault : Fault) (a b c : DiskState) → Keeps a b → RefusesWrite g fault b c → RefusesWrite g fault a c
write_since g fault a b c keeps (no_memory out) = no_memory out
write_since g fault a b c keeps (not_valid validity) = not_valid validity
write_since g fault a b c keeps (no_room good full) = no_room good (ap (table_write_fault g) (sym keeps.size) ∙ full)
write_since g fault a b c keeps (disk_failed good near failed) =
    disk_failed good (λ far. near (ap (table_write_fault g) keeps.size ∙ far)) (failed.0, rose_since a b c keeps failed.1)

pub edit_since : (g new : GPT) (edit : Edit) (fault : Fault) (a b c : DiskState) → Keeps a b → RefusesEdit g edit fault new b c → RefusesEdit g edit fault new a c
edit_since g new edit fault a b c keeps (not_applied why same) = not_applied why same
edit_since g new edit fault a b c keeps (not_written none refused left) = not_written none (write_since (after_edit g edit) fault a b c keeps refused) left

-- ---- there is room in the stated layout

number_room : (i : ℕ) (known : Bool) (fault : Fault) → (if known then None else Some (invalid_partition_number i)) ≡ Some fault → IsNotForRoom fault
number_room i true fault is = absurd (cc)
number_room i false fault is = (λ far. let e = is ∙ ap Some far in absurd (cc), λ full. let e = is ∙ ap Some full in absurd (cc))

edit_room : (g : GPT) (edit : Edit) (fault : Fault) → edit_fault g edit ≡ Some fault → IsNotForRoom fault
edit_room g (Put i e) fault is = number_room i (has_number g i) fault is
edit_room g (Remove i) fault is = number_room i (has_number g i) fault is
edit_room g SortEntries fault is = absurd (cc)
edit_room g (DiskGuid guid) fault is = absurd (cc)

validity_room : (h : GPTHeader) (es : List GPTPartitionEntry) (fault : Fault) → IsValidity h es (Some fault) → IsNotForRoom fault
validity_room h es fault (shared_guid shared said) = (λ far. let e = sym said ∙ ap Some far in absurd (cc), λ full. let e = sym said ∙ ap Some full in absurd (cc))
validity_room h es fault (bad_boundaries own bad said) = (λ far. let e = sym said ∙ ap Some far in absurd (cc), λ full. let e = sym said ∙ ap Some full in absurd (cc))
validity_room h es fault (valid good said) = absurd (cc)

pub refused_room : (g new : GPT) (edit : Edit) (fault : Fault) (a b : DiskState) → a.size < 2 ^ 64 → HasLayout g a.size → RefusesEdit g edit fault new a b → IsNotForRoom fault
refused_room g new edit fault a b small layout (not_applied (inl said) sums) = edit_room g edit fault said
refused_room g new edit fault a b small layout (not_applied (inr out) sums) =
    let e = out.1 in (λ far. let d = sym e ∙ far in absurd (cc), λ full. let d = sym e ∙ full in absurd (cc))
refused_room g new edit fault a b small layout (not_written none (no_memory out) sums) = (λ far. let d = sym out ∙ far in absurd (cc), λ full. let d = sym out ∙ full in absurd (cc))
refused_room g new edit fault a b small layout (not_written none (not_valid validity) sums) = validity_room (after_edit g edit).header (entries_in (after_edit g edit)) fault validity
refused_room g new edit fault a b small layout (not_written none (no_room good full) sums) =
    let room = sym (room_still g (after_edit g edit) (edited_keeps g edit) a.size) in
    let fits = layout_fits g a.size small layout in
    let never = sym fits ∙ (room ∙ full) in absurd (cc)
refused_room g new edit fault a b small layout (not_written none (disk_failed good near failed) sums) =
    (λ far. let d = sym failed.0 ∙ far in absurd (cc), λ full. let d = sym failed.0 ∙ full in absurd (cc))
