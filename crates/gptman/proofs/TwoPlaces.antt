-- The argument about crashes, for the two places of the stated layout and the tables that they hold.
use Rattle.std.proofs.Common.{◌≡◌, ◌⊎◌, inl, inr, ⊎_elim, ◌<◌, ◌*◌, ◌^◌, ℕ, List, [], ◌∷◌, length, refl, sym, ap, ◌∙◌, subst, arith}
use Rattle.std.specs.List.{All}
use Rattle.std.proofs.lemmas.List.{length-map}
use Rattle.gptman.specs.Coding.{FitsHeader, FitsEntry}
use Rattle.gptman.specs.Copy.{with_checksums}
use Rattle.gptman_disk.specs.Disk.{AgreesOutside, DiskState, Image, IsPending, LeavesOnly, Outside, Untouched, Wrote, Within}
use Rattle.gptman_disk.specs.Ranges.{AgreesInside, AreApart, AreClear, AreInside}
use Rattle.gptman.specs.Write.{other_header, header_range, copy_ranges, FitsCopy, HasBytes, IsCopyWritten}
use Rattle.gptman.specs.Crash.{other_place, BothPlacesAfter, IsLeftAlone, PlaceAfter, StartsFromOne, StartsLaidOut, StartsSynced, StopsComeInOrder}
use Rattle.gptman.specs.Crash.PlaceAfter.{left_alone, written as holds_new, torn}
use Rattle.gptman.specs.Layout.{Holds, IsLaidOut, copy_ranges_at}
use Rattle.gptman.specs.Reading.{CopyPlace, primary, backup, copy_start}
use Rattle.gptman.specs.Stop.{HoldsOneOf, IsStored, StopsHold}
use Rattle.gptman.specs.Table.{Table, entries_in, table_in, table_of, IsHeaderForm}
use Rattle.gptman.specs.declared.codec.header.GPTHeader.{GPTHeader}
use Rattle.gptman.specs.declared.codec.entry.GPTPartitionEntry.{GPTPartitionEntry}
use Rattle.gptman.specs.declared.table.GPT.{GPT}
use Rattle.gptman_disk.proofs.Ranges.{Ranges, contains_first, contains_later}
use Rattle.gptman.proofs.Runs.{wrote_wider}
use Rattle.gptman.proofs.Apart.{clear_if_apart}
use Rattle.gptman.proofs.Argument.{Came, IsDecidedBy, at_any_moment, clear_ranges, held_in_any_image, held_stored, only_read, other_begun, own_begun, stays, untouched_ranges, written}
use Rattle.gptman.proofs.FourRanges.{form_ranges, other_ranges, sides_apart, sides_clear}
use Rattle.gptman.proofs.Held.{holds_local}
use Rattle.gptman.proofs.CopiesInPlace.{full_ranges, within_copy, written_is_there}
use Rattle.gptman.proofs.OtherHeader.{other_table, other_form}
use Rattle.gptman.proofs.Sealing.{IsSealed, sealed_is, sealed_table, sealed_form}
use Rattle.gptman.proofs.WrittenCopy.{content_of, written_array, written_holds, written_start}

-- ---- a completely written copy is accepted

-- A header of the table with its checksums, in the form of a place.
pub record IsHeaderOf (t : Table) (side : CopyPlace) (h : GPTHeader) (es : List GPTPartitionEntry) : Type 0 where
  pub table : table_of h es ≡ t
  pub form : IsHeaderForm side h
  pub fits : FitsHeader h
  pub sums : IsSealed h es

header_laid_out : (t : Table) (side : CopyPlace) (h : GPTHeader) (es : List GPTPartitionEntry) (ss len : ℕ) → IsHeaderOf t side h es → IsLaidOut t ss len → IsLaidOut (table_of h es) ss len
header_laid_out t side h es ss len is laid = subst (λ (u : Table). IsLaidOut u ss len) (sym is.table) laid

header_count : (t : Table) (side : CopyPlace) (h : GPTHeader) (es : List GPTPartitionEntry) (ss len : ℕ) → IsHeaderOf t side h es → IsLaidOut t ss len → length es ≡ h.number_of_partition_entries
header_count t side h es ss len is laid = sym (length-map es content_of) ∙ (header_laid_out t side h es ss len is laid).entries

-- The ranges of its copy are those of the table at the place.
header_ranges : (t : Table) (side : CopyPlace) (h : GPTHeader) (es : List GPTPartitionEntry) (ss len : ℕ) → IsHeaderOf t side h es → IsLaidOut t ss len → copy_ranges_at side t ss len ≡ full_ranges h ss
header_ranges t side h es ss len is laid =
    let start = written_start side h es ss len is.form (header_laid_out t side h es ss len is laid) in
    let array = written_array side h es ss is.form in
    ap (λ (u : Table). copy_ranges_at side u ss len) (sym is.table)
    ∙ (λ i. (sym start i, 92) ∷ (sym array i, 128 * h.number_of_partition_entries) ∷ [])

-- The place holds the table if its bytes are there.
pub header_held : (b : List ℕ) (t : Table) (side : CopyPlace) (h : GPTHeader) (es : List GPTPartitionEntry) (ss : ℕ) → length b < 2 ^ 64 → IsHeaderOf t side h es → IsLaidOut t ss (length b)
    → All FitsEntry es → HasBytes b h es ss → Holds b ss side t
header_held b t side h es ss small is laid fits has =
    subst (Holds b ss side) is.table
    (written_holds b ss side h es (omega (arith, small)) (header_laid_out t side h es ss (length b) is laid) is.form is.fits fits is.sums has)

pub sealed_header : (side : CopyPlace) (h : GPTHeader) (es : List GPTPartitionEntry) (t : Table) → table_of h es ≡ t → IsHeaderForm side h → FitsHeader (with_checksums h es) → IsHeaderOf t side (with_checksums h es) es
unfolding with_checksums
sealed_header side h es t table form fits = record {
  table = sealed_table h es ∙ table;
  form = sealed_form side h es form;
  fits = fits;
  sums = sealed_is h es fits.signature fits.revision;
}

-- ---- a place of a list of this length holds a table

abbrev pub HeldAt : ℕ → ℕ → CopyPlace → Table → List ℕ → Type 0
HeldAt len ss side t b = (length b ≡ len) × Holds b ss side t

-- The bytes in its two ranges there decide it.
pub held_decided : (len ss : ℕ) (side : CopyPlace) (t : Table) → IsDecidedBy (HeldAt len ss side t) (copy_ranges_at side t ss len)
held_decided len ss side t b c held agrees =
    (agrees.long ∙ held.0, holds_local b c ss side t held.1 (subst (λ (n : ℕ). AgreesInside (copy_ranges_at side t ss n) b c) (sym held.0) agrees))

-- The two ranges of a place are disjoint and on the disk.
side_apart : (side : CopyPlace) (t : Table) (ss len : ℕ) → IsLaidOut t ss len → AreApart (copy_ranges_at side t ss len)
side_apart primary t ss len laid = ((laid.apart.0.0, tt), (tt, tt))
side_apart backup t ss len laid = laid.apart.1.1

side_inside : (side : CopyPlace) (t : Table) (ss len : ℕ) → IsLaidOut t ss len → AreInside (copy_ranges_at side t ss len) len
side_inside primary t ss len laid = (laid.inside.0, (laid.inside.1.0, tt))
side_inside backup t ss len laid = laid.inside.1.1

-- A copy of a table was written, with its checksums, and synced.
pub record IsCopied (h : GPTHeader) (es : List GPTPartitionEntry) (ss : ℕ) (a b : DiskState) : Type 0 where
  pub fits : FitsCopy (with_checksums h es) es
  pub contents : IsCopyWritten (with_checksums h es) es ss a.view b.view
  pub synced : b.pending ≡ []

-- The same for the header and the entries that a call was given.
pub copied : (h g first : GPTHeader) (es fs : List GPTPartitionEntry) (ss : ℕ) (a b : DiskState) → g ≡ h → fs ≡ es → first ≡ with_checksums g fs → FitsCopy first fs
    → IsCopyWritten first fs ss a.view b.view → b.pending ≡ [] → IsCopied h es ss a b
copied h g first es fs ss a b same_h same_es is fits laid synced =
    let to : first ≡ with_checksums h es = is ∙ (λ i. with_checksums (same_h i) (same_es i)) in
    record {
      fits = subst (λ (x : GPTHeader). FitsCopy x es) to (subst (λ (xs : List GPTPartitionEntry). FitsCopy first xs) same_es fits);
      contents = subst (λ (x : GPTHeader). IsCopyWritten x es ss a.view b.view) to (subst (λ (xs : List GPTPartitionEntry). IsCopyWritten first xs ss a.view b.view) same_es laid);
      synced = synced;
    }

-- Its place then holds the table.
copied_held : (side : CopyPlace) (h : GPTHeader) (es : List GPTPartitionEntry) (t : Table) (ss len : ℕ) (a b : DiskState) → table_of h es ≡ t → IsHeaderForm side h → IsLaidOut t ss len
    → len < 2 ^ 64 → length a.view ≡ len → IsCopied h es ss a b → HeldAt len ss side t b.view
copied_held side h es t ss len a b table form laid small long copy =
    let g : GPTHeader = with_checksums h es in
    let is = sealed_header side h es t table form copy.fits.0 in
    let ranges = header_ranges t side g es ss len is laid in
    let room : AreInside (full_ranges g ss) (length a.view) =
    subst (λ (rs : Ranges). AreInside rs (length a.view)) ranges (subst (λ (n : ℕ). AreInside (copy_ranges_at side t ss len) n) (sym long) (side_inside side t ss len laid)) in
    let stands = written_is_there a.view b.view g es ss (subst AreApart ranges (side_apart side t ss len laid)) room copy.fits.0 copy.fits.1 (header_count t side g es ss len is laid) copy.contents in
    let same : length b.view ≡ len = stands.1 ∙ long in
    (same, header_held b.view t side g es ss (omega (arith, small, same)) is (subst (IsLaidOut t ss) (sym same) laid) copy.fits.1 stands.0)

-- ---- a write of a value whose header is in the form of a place

module _ (side : CopyPlace) (h : GPTHeader) (es : List GPTPartitionEntry) (ss len : ℕ) (form : IsHeaderForm side h) (laid : IsLaidOut (table_of h es) ss len) where
  abbrev t : Table
  t = table_of h es

  abbrev own : Ranges
  own = copy_ranges_at side t ss len

  abbrev other : Ranges
  other = copy_ranges_at (other_place side) t ss len

  -- How far it got.
  abbrev pub Comes : DiskState → DiskState → Type 1
  Comes a c = Came own other (copy_start side len ss, 92) (copy_start (other_place side) len ss, 92) (HeldAt len ss side t) (HeldAt len ss (other_place side) t) a c

  own_run : (a b : DiskState) → Wrote (copy_ranges h ss) a b → Wrote own a b
  own_run a b run = wrote_wider (subst (λ (rs : Ranges). Within (copy_ranges h ss) rs) (sym (form_ranges side h es ss len form laid)) (within_copy h ss)) run

  other_run : (a b : DiskState) → Wrote (copy_ranges (other_header h) ss) a b → Wrote other a b
  other_run a b run = wrote_wider (subst (λ (rs : Ranges). Within (copy_ranges (other_header h) ss) rs) (sym (other_ranges side h es ss len form laid)) (within_copy (other_header h) ss)) run

  other_start : (other_header h).primary_lba * ss ≡ copy_start (other_place side) len ss
  other_start = written_start (other_place side) (other_header h) es ss len (other_form side h form) (subst (λ (u : Table). IsLaidOut u ss len) (sym (other_table h es)) laid)

  -- The other copy was begun.
  pub first_fails : (a b : DiskState) → Wrote (copy_ranges (other_header h) ss) a b → Untouched a b ⊎ IsPending (header_range (other_header h) ss) b → Comes a b
  first_fails a b run begun =
      other_begun (other_run a b run) (⊎_elim (λ still. inl still) (λ torn. inr (subst (λ (n : ℕ). IsPending (n, 92) b) other_start torn)) begun)

  -- It is held after it was written.
  other_held : (a b : DiskState) → len < 2 ^ 64 → length a.view ≡ len → IsCopied (other_header h) es ss a b → HeldAt len ss (other_place side) t b.view
  other_held a b small long copy =
      copied_held (other_place side) (other_header h) es t ss len a b (other_table h es) (other_form side h form) laid small long copy

  -- The own copy was begun after that.
  pub second_fails : (a b c : DiskState) → len < 2 ^ 64 → length a.view ≡ len → Wrote (copy_ranges (other_header h) ss) a b → IsCopied (other_header h) es ss a b
      → Wrote (copy_ranges h ss) b c → Untouched b c ⊎ IsPending (header_range h ss) c → Comes a c
  second_fails a b c small long run copy second begun =
      own_begun b (other_run a b run) copy.synced (other_held a b small long copy) (own_run b c second) (⊎_elim (λ still. inl still)
      (λ torn. inr (subst (λ (n : ℕ). IsPending (n, 92) c) (written_start side h es ss len form laid) torn)) begun)

  -- Both copies were written.
  pub both_done : (a b c : DiskState) → len < 2 ^ 64 → length a.view ≡ len → Wrote (copy_ranges (other_header h) ss) a b → IsCopied (other_header h) es ss a b
      → Wrote (copy_ranges h ss) b c → IsCopied h es ss b c → Comes a c
  both_done a b c small long run copy second done =
      let first = other_held a b small long copy in
      written b (other_run a b run) copy.synced first (own_run b c second) done.synced (copied_held side h es t ss len b c refl form laid small first.0 done)

  -- ---- so at any moment only the other copy's bytes have changed, or its place holds the new table

  pub in_order : (a c : DiskState) → a.pending ≡ [] → Comes a c → LeavesOnly a c (λ x. AgreesOutside other a.view x ⊎ Holds x ss (other_place side) t)
  in_order a c synced come = λ x left. ⊎_elim (λ few. inl few) (λ new. inr new.1)
      (at_any_moment own other (copy_start side len ss, 92) (copy_start (other_place side) len ss, 92) (HeldAt len ss side t) (HeldAt len ss (other_place side) t) a c
      (held_decided len ss (other_place side) t) (sides_clear side t ss len laid) synced come x left)

  -- ---- from one good copy, a crash leaves the old or the new table

  pub one_good : (was : Table) (a x : List ℕ) → length a ≡ len → Holds a ss side was → AreClear (copy_ranges_at side was ss len) other
      → AgreesOutside other a x ⊎ Holds x ss (other_place side) t → HoldsOneOf x ss (was ∷ t ∷ [])
  one_good was a x long held clear come = ⊎_elim
      (λ few. record {
        side = side;
        table = was;
        listed = contains_first was (t ∷ []);
        holds = (stays (HeldAt len ss side was) (copy_ranges_at side was ss len) other a x (held_decided len ss side was) clear (long, held) few).1;
      })
      (λ new. record { side = other_place side; table = t; listed = contains_later t was (t ∷ []) (contains_first t []); holds = new })
      come

  -- ---- after an error each place is unchanged, or holds the new table whatever a crash leaves, or has a pending
  -- header

  alone : (p : CopyPlace) (a c : DiskState) → a.size ≡ len → IsLeftAlone (copy_ranges_at p t ss len) a c → PlaceAfter p t ss a c
  alone p a c size is = left_alone (subst (λ (n : ℕ). IsLeftAlone (copy_ranges_at p t ss n) a c) (sym size) is)

  pending : (p : CopyPlace) (a c : DiskState) → a.size ≡ len → IsPending (copy_start p len ss, 92) c → PlaceAfter p t ss a c
  pending p a c size is = torn (subst (λ (n : ℕ). IsPending (copy_start p n ss, 92) c) (sym size) is)

  own_clear : AreClear own other
  own_clear = clear_if_apart own other (sides_apart side t ss len laid)

  other_clear : AreClear other own
  other_clear = sides_clear side t ss len laid

  new_held : (b c : DiskState) → b.pending ≡ [] → HeldAt len ss (other_place side) t b.view → Wrote own b c → (x : List ℕ) → Image c x → Holds x ss (other_place side) t
  new_held b c stored new second = λ x image.
      (held_in_any_image (HeldAt len ss (other_place side) t) other own b c (held_decided len ss (other_place side) t) other_clear stored new second x image).1

  pub own_after : (a c : DiskState) → a.size ≡ len → a.pending ≡ [] → Comes a c → PlaceAfter side t ss a c
  own_after a c size synced (only_read read) = alone side a c size (untouched_ranges own a c read.view (read.pending ∙ synced))
  own_after a c size synced (other_begun run begun) = alone side a c size (clear_ranges own other a c own_clear synced run)
  own_after a c size synced (own_begun b first stored new second (inl still)) =
      let here = clear_ranges own other a b own_clear synced first in
      alone side a c size (record {
        not_pending = λ k inside. subst (λ (ps : Ranges). Outside ps k) (sym still.pending) (here.not_pending k inside);
        same = subst (λ (v : List ℕ). AgreesInside own a.view v) (sym still.view) here.same;
      })
  own_after a c size synced (own_begun b first stored new second (inr begun)) = pending side a c size begun
  own_after a c size synced (written b first stored new second done here) =
      holds_new (λ x image. (held_stored (HeldAt len ss side t) own c (held_decided len ss side t) done here x image).1)

  pub other_after : (a c : DiskState) → a.size ≡ len → a.pending ≡ [] → Comes a c → PlaceAfter (other_place side) t ss a c
  other_after a c size synced (only_read read) = alone (other_place side) a c size (untouched_ranges other a c read.view (read.pending ∙ synced))
  other_after a c size synced (other_begun run (inl still)) = alone (other_place side) a c size (untouched_ranges other a c still.view (still.pending ∙ synced))
  other_after a c size synced (other_begun run (inr begun)) = pending (other_place side) a c size begun
  other_after a c size synced (own_begun b first stored new second begun) = holds_new (new_held b c stored new second)
  other_after a c size synced (written b first stored new second done here) = holds_new (new_held b c stored new second)

  -- ---- after Ok both places hold it

  pub stored_both : (a b c : DiskState) → len < 2 ^ 64 → length a.view ≡ len → IsCopied (other_header h) es ss a b → Wrote (copy_ranges h ss) b c
      → IsCopied h es ss b c → Holds c.view ss side t × Holds c.view ss (other_place side) t
  stored_both a b c small long copy second done =
      let first = other_held a b small long copy in (
        (copied_held side h es t ss len b c refl form laid small first.0 done).1,
        (stays (HeldAt len ss (other_place side) t) other own b.view c.view (held_decided len ss (other_place side) t) other_clear first (own_run b c second).view).1,
      )

-- ---- for a value whose header is in the form of either place

-- Both places, by name.
pub by_name : (P : CopyPlace → Type 0) (side : CopyPlace) → P side → P (other_place side) → P primary × P backup
by_name P primary own other = (own, other)
by_name P backup own other = (other, own)

module _ (g : GPT) (a c : DiskState) (long : length a.view ≡ a.size) where
  -- How far the write of the value got, in either form of its header.
  abbrev pub ComesFor : Type 1
  ComesFor = (side : CopyPlace) (form : IsHeaderForm side g.header) (laid : IsLaidOut (table_in g) g.sector_size a.size) → Comes side g.header (entries_in g) g.sector_size a.size form laid a c

  pub order_of : StartsSynced a g → ComesFor → StopsComeInOrder a c g
  order_of from come = λ side form. let laid = from.start.layout.table in
      in_order side g.header (entries_in g) g.sector_size a.size form laid a c from.synced (come side form laid)

  pub good_of : (was : Table) → StartsFromOne a g was → StopsComeInOrder a c g → StopsHold a c g.sector_size (was ∷ table_in g ∷ [])
  good_of was from order = λ x left.
      let kept = from.kept in
      one_good kept.side g.header (entries_in g) g.sector_size a.size kept.form from.start.layout.table was a.view x long kept.held kept.clear (order kept.side kept.form x left)

  pub after_of : StartsSynced a g → ComesFor → BothPlacesAfter g a c
  after_of from come =
      let at = from.start.layout in
      let here = come at.side at.form at.table in
      by_name (λ p. PlaceAfter p (table_in g) g.sector_size a c) at.side
      (own_after at.side g.header (entries_in g) g.sector_size a.size at.form at.table a c refl from.synced here)
      (other_after at.side g.header (entries_in g) g.sector_size a.size at.form at.table a c refl from.synced here)

  pub stored_of : (b : DiskState) → a.size < 2 ^ 64 → StartsLaidOut a g → IsCopied (other_header g.header) (entries_in g) g.sector_size a b
      → Wrote (copy_ranges g.header g.sector_size) b c → IsCopied g.header (entries_in g) g.sector_size b c → IsStored c g.sector_size (table_in g)
  stored_of b small start copy second done =
      let at = start.layout in
      let both = stored_both at.side g.header (entries_in g) g.sector_size a.size at.form at.table a b c small long copy second done in
      let named = by_name (λ p. Holds c.view g.sector_size p (table_in g)) at.side both.0 both.1 in
      record { synced = done.synced; at_primary = named.0; at_backup = named.1 }
