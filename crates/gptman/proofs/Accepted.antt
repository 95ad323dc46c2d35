-- The result of a write, and that a valid table of the stated layout is not refused.
use Rattle.std.proofs.Common.{◌≡◌, ◌≢◌, ◌⊎◌, ◌≤◌, ◌<◌, ◌+◌, ◌*◌, ◌^◌, ◌&&◌, ◌||◌, ℕ, Bool, true, false, not, List, [], ◌∷◌, ltb, ⊎_elim, Some, None, Result, Ok, Err, refl, sym, ap, ◌∙◌, subst, inl, inr, arith}
use Rattle.std.specs.Prelude.{if◌then◌else◌, nat_eq, IfErr}
use Rattle.std.specs.List.{list_all}
use Rattle.std.proofs.lemmas.Bool.{and_from, le-leb, lt-ltb}
use Rattle.std.proofs.lemmas.Bool.Decides.{eqb_tells}
use Rattle.std.proofs.lemmas.List.Folds.{list_all-append}
use Rattle.gptman.specs.TableWrites.{table_write_fault, HasRoomOn, IsFailureOrMemory, RefusesAtOnce, RefusesWrite}
use Rattle.gptman.specs.Answers.{HasCause, IsFailure, Settles}
use Rattle.gptman.specs.TableWrites.RefusesWrite.{no_memory, not_valid, no_room, disk_failed}
use Rattle.gptman.specs.Crash.{other_place}
use Rattle.gptman_disk.specs.Disk.{DiskState}
use Rattle.gptman_disk.specs.Fault.{Fault, fault_of, overflow, no_space_left}
use Rattle.gptman.specs.Layout.{HasLayout, IsLaidOut}
use Rattle.gptman.specs.Reading.{CopyPlace}
use Rattle.gptman.specs.Table.{entries_in, table_of, IsHeaderForm}
use Rattle.gptman.specs.Valid.{IsValid, IsValidity}
use Rattle.gptman.specs.Valid.IsValidity.{shared_guid, bad_boundaries, valid}
use Rattle.gptman.specs.Write.{other_header, array_range, copy_ranges, four_ranges, is_addressable, is_inside, has_other_header, write_fault}
use Rattle.gptman.specs.declared.codec.entry.GPTPartitionEntry.{GPTPartitionEntry}
use Rattle.gptman.specs.declared.codec.header.GPTHeader.{GPTHeader}
use Rattle.gptman_disk.specs.declared.error.Error.{Error}
use Rattle.gptman.specs.declared.table.GPT.{GPT}
use Rattle.gptman.proofs.FirstFailing.{none_from_tests}
use Rattle.gptman.proofs.FourRanges.{other_laid_out}
use Rattle.gptman.proofs.OtherHeader.{other_form}
use Rattle.gptman.proofs.WrittenCopy.{array_inside, array_start, header_inside, written_array, written_start}

-- ---- the ranges of a table in the layout pass

ranges_pass : (p : ℕ × ℕ → Bool) (h : GPTHeader) (ss : ℕ) → p (h.primary_lba * ss, 92) ≡ true
    → (h.number_of_partition_entries ≢ 0 → p (h.partition_entry_lba * ss, 128 * h.number_of_partition_entries) ≡ true) → list_all p (copy_ranges h ss) ≡ true
ranges_pass p h ss header array =
    let at : Bool → Bool = λ b. list_all p (if b then [] else ((h.partition_entry_lba * ss, 128 * h.number_of_partition_entries) ∷ [])) in
    and_from (p (h.primary_lba * ss, 92)) (list_all p (array_range h ss)) header
    (elim (eqb_tells h.number_of_partition_entries 0) as (λ _. list_all p (array_range h ss) ≡ true) [
      | inl none ↦ ap at none.0
      | inr some ↦ ap at some.0 ∙ and_from (p (h.partition_entry_lba * ss, 128 * h.number_of_partition_entries)) true (array some.1) refl
    ])

-- A test that ranges within the disk pass is passed by those of a copy in the layout.
copy_passes : (p : ℕ × ℕ → Bool) (side : CopyPlace) (h : GPTHeader) (es : List GPTPartitionEntry) (ss len : ℕ) → ((at n : ℕ) → at + n ≤ len → p (at, n) ≡ true)
    → IsHeaderForm side h → IsLaidOut (table_of h es) ss len → list_all p (copy_ranges h ss) ≡ true
copy_passes p side h es ss len within form laid =
    let n : ℕ = h.number_of_partition_entries in
    let start : h.partition_entry_lba * ss ≡ array_start side (table_of h es) ss = written_array side h es ss form in
    ranges_pass p h ss
    (within (h.primary_lba * ss) 92 (omega (arith, written_start side h es ss len form laid, header_inside side (table_of h es) ss len laid)))
    (λ some. elim (array_inside side (table_of h es) ss len laid) as (λ _. p (h.partition_entry_lba * ss, 128 * n) ≡ true) [
      | inl none ↦ absurd (omega (arith, none, some))
      | inr inside ↦ within (h.partition_entry_lba * ss) (128 * n) (omega (arith, inside, start))
    ])

both_pass : (p : ℕ × ℕ → Bool) (side : CopyPlace) (h : GPTHeader) (es : List GPTPartitionEntry) (ss len : ℕ) → ((at n : ℕ) → at + n ≤ len → p (at, n) ≡ true)
    → IsHeaderForm side h → IsLaidOut (table_of h es) ss len → list_all p (four_ranges h ss) ≡ true
both_pass p side h es ss len within form laid =
    list_all-append p (copy_ranges h ss) (copy_ranges (other_header h) ss)
    ∙ and_from (list_all p (copy_ranges h ss)) (list_all p (copy_ranges (other_header h) ss))
    (copy_passes p side h es ss len within form laid)
    (copy_passes p (other_place side) (other_header h) es ss len within (other_form side h form) (other_laid_out side h es ss len form laid))

or_second : (s t : Bool) → t ≡ true → (s || t) ≡ true
or_second true t h = refl
or_second false t h = h

-- A table in the layout is not refused for its sectors or for lack of room.
pub layout_fits : (g : GPT) (len : ℕ) → len < 2 ^ 64 → HasLayout g len → write_fault g.header g.sector_size len ≡ None
layout_fits g len small layout =
    let h = g.header in
    let es = entries_in g in
    let ss = g.sector_size in
    none_from_tests ((has_other_header h && list_all is_addressable (four_ranges h ss), overflow) ∷ (list_all (is_inside len) (four_ranges h ss), no_space_left) ∷ []) (
      and_from (has_other_header h) (list_all is_addressable (four_ranges h ss))
          (or_second (not (nat_eq h.partition_entry_lba 2)) (ltb (h.last_usable_lba + 1) (2 ^ 64)) (lt-ltb (h.last_usable_lba + 1) (2 ^ 64) layout.table.fits))
          (both_pass is_addressable layout.side h es ss len (λ at n inside. lt-ltb (at + n) (2 ^ 64) (omega (arith, inside, small))) layout.form layout.table),
      (both_pass (is_inside len) layout.side h es ss len (λ at n inside. le-leb (at + n) len inside) layout.form layout.table, tt),
    )

-- ---- the result of a write

never_valid : (h : GPTHeader) (es : List GPTPartitionEntry) (fault : Fault) → IsValid h es → IsValidity h es (Some fault) → ⊥
never_valid h es fault is (shared_guid shared said) = shared is.own_guids
never_valid h es fault is (bad_boundaries own bad said) = bad is.boundaries
never_valid h es fault is (valid good said) = absurd (cc)

-- A write of a valid table with room fails only if the disk fails or memory runs out.
pub failed_or_memory : (g : GPT) (fault : Fault) (old new : DiskState) → IsValid g.header (entries_in g) → HasRoomOn g old.size → RefusesWrite g fault old new → IsFailureOrMemory fault old new
failed_or_memory g fault old new is fits (no_memory out) = inl out
failed_or_memory g fault old new is fits (not_valid said) = absurd (never_valid g.header (entries_in g) fault is said)
failed_or_memory g fault old new is fits (no_room good full) = let e = sym fits ∙ full in absurd (cc)
failed_or_memory g fault old new is fits (disk_failed good near failed) = inr failed

-- If the disk failed, its count of failures rose.
pub failure_rose : {T : Type 0} (r : Result T Error) (old new : DiskState) → IfErr r (λ e. IsFailure (fault_of e) old new) → HasCause r old new
failure_rose (Ok x) old new failed refuses = absurd refuses
failure_rose (Err e) old new failed refuses = failed.1

-- The error of writing a valid table.
pub write_refused : {T : Type 0} (g : GPT) (r : Result T Error) (old new : DiskState) → IsValid g.header (entries_in g) → RefusesAtOnce (table_write_fault g old.size) r
    → Settles (table_write_fault g old.size) r old new → IfErr r (λ e. RefusesWrite g (fault_of e) old new)
write_refused g (Ok x) old new is at_once answer = tt
write_refused g (Err e) old new is at_once (inl said) = no_room is (sym said)
write_refused g (Err e) old new is at_once (inr fails) = disk_failed is (λ far. ⊎_elim (λ near. absurd (cc)) (λ said. let e = sym fails.0 ∙ said in absurd (cc)) (at_once overflow far)) fails

-- A table that passes the checks is valid.
pub checked_valid : (h : GPTHeader) (es fs : List GPTPartitionEntry) → fs ≡ es → ⊥ ⊎ IsValidity h fs None → IsValid h es
checked_valid h es fs is (inl never) = absurd never
checked_valid h es fs is (inr (shared_guid shared said)) = absurd (cc)
checked_valid h es fs is (inr (bad_boundaries own bad said)) = absurd (cc)
checked_valid h es fs is (inr (valid good said)) = subst (IsValid h) is good
