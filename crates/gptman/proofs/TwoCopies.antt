-- Both copies of a table, written one after the other.
use Rattle.std.proofs.Common.{◌≡◌, ◌&&◌, ℕ, Bool, true, false, List, [], ◌∷◌, ◌++◌, length, None, sym, ap, ◌∙◌, subst}
use Rattle.std.specs.List.{list_all}
use Rattle.std.proofs.lemmas.Bool.{and_parts}
use Rattle.std.proofs.lemmas.List.Folds.{list_all-append}
use Rattle.gptman_disk.specs.Disk.{AgreesOutside, DiskState, Wrote}
use Rattle.gptman_disk.specs.Ranges.{AreApart}
use Rattle.gptman_disk.specs.Fault.{Fault, overflow, no_space_left, first_failing}
use Rattle.gptman.specs.Copy.{with_checksums}
use Rattle.gptman.specs.Write.{other_header, copy_ranges, four_ranges, copy_write_fault, write_fault, has_other_header, is_addressable, is_inside, HasBytes}
use Rattle.gptman.specs.declared.codec.header.GPTHeader.{GPTHeader}
use Rattle.gptman.specs.declared.codec.entry.GPTPartitionEntry.{GPTPartitionEntry}
use Rattle.gptman.proofs.Apart.{apart_exchanged}
use Rattle.gptman.proofs.CopiesInPlace.{written_both}
use Rattle.gptman.proofs.Sealing.{sealed_count, sealed_ranges}
use Rattle.gptman.proofs.TwoPlaces.{IsCopied}
use Rattle.gptman.proofs.FirstFailing.{tests_pass}
use Rattle.gptman_disk.proofs.Ranges.{Ranges, within_left, within_right}
use Rattle.gptman.proofs.Runs.{wrote_then, wrote_wider}

-- The other copy is written, then the own one.
pub wrote_other : {a b : DiskState} (h other : GPTHeader) (ss : ℕ) → other ≡ other_header h → Wrote (copy_ranges other ss) a b → Wrote (four_ranges h ss) a b
wrote_other {a} {b} h other ss is wrote =
    wrote_wider (within_right (copy_ranges h ss) (copy_ranges (other_header h) ss)) (subst (λ (x : GPTHeader). Wrote (copy_ranges x ss) a b) is wrote)

pub wrote_own : {a b c : DiskState} (h : GPTHeader) (ss : ℕ) → Wrote (four_ranges h ss) a b → Wrote (copy_ranges h ss) b c → Wrote (four_ranges h ss) a c
wrote_own h ss other own = wrote_then (within_left (copy_ranges h ss) (copy_ranges (other_header h) ss)) other own

both_pass : (a b : Bool) (x y : Fault) → a ≡ true → b ≡ true → first_failing ((a, x) ∷ (b, y) ∷ []) ≡ None
both_pass true b x y is_a is_b = ap (λ (t : Bool). first_failing ((true, x) ∷ (t, y) ∷ [])) is_b
both_pass false b x y is_a is_b = cc

-- Neither copy is refused, and both are on the disk.
pub record AreAllowed (h : GPTHeader) (ss len : ℕ) : Type 0 where
  pub own : copy_write_fault h ss len ≡ None
  pub other : copy_write_fault (other_header h) ss len ≡ None
  pub inside : list_all (is_inside len) (four_ranges h ss) ≡ true

-- This holds if the table is not refused.
pub both_allowed : (h : GPTHeader) (ss len : ℕ) → write_fault h ss len ≡ None → AreAllowed h ss len
both_allowed h ss len none =
    let own : Ranges = copy_ranges h ss in
    let other : Ranges = copy_ranges (other_header h) ss in
    let pass = tests_pass ((has_other_header h && list_all is_addressable (four_ranges h ss), overflow) ∷ (list_all (is_inside len) (four_ranges h ss), no_space_left) ∷ []) none in
    let fit = and_parts (has_other_header h) (list_all is_addressable (own ++ other)) pass.0 in
    let fits = and_parts (list_all is_addressable own) (list_all is_addressable other) (sym (list_all-append is_addressable own other) ∙ fit.1) in
    let lie = and_parts (list_all (is_inside len) own) (list_all (is_inside len) other) (sym (list_all-append (is_inside len) own other) ∙ pass.1.0) in
    record {
      own = both_pass (list_all is_addressable own) (list_all (is_inside len) own) overflow no_space_left fits.0 lie.0;
      other = both_pass (list_all is_addressable other) (list_all (is_inside len) other) overflow no_space_left fits.1 lie.1;
      inside = pass.1.0;
    }

pub room_inside : (h : GPTHeader) (ss : ℕ) (disk : DiskState) → length disk.view ≡ disk.size → write_fault h ss disk.size ≡ None
    → list_all (is_inside (length disk.view)) (four_ranges h ss) ≡ true
room_inside h ss disk long room = (both_allowed h ss (length disk.view) (ap (write_fault h ss) long ∙ room)).inside

-- Both copies are there after both were written, in any layout, if their ranges are disjoint and nothing was refused.
pub copied_are_there : (h : GPTHeader) (es : List GPTPartitionEntry) (ss : ℕ) (a b c : DiskState) → AreApart (four_ranges h ss) → list_all (is_inside (length a.view)) (four_ranges h ss) ≡ true
    → length es ≡ h.number_of_partition_entries → IsCopied (other_header h) es ss a b → Wrote (copy_ranges h ss) b c → IsCopied h es ss b c
    → HasBytes c.view (with_checksums h es) es ss × HasBytes c.view (with_checksums (other_header h) es) es ss
copied_are_there h es ss a b c apart lies count first second own =
    let mine : Ranges = copy_ranges h ss in
    let theirs : Ranges = copy_ranges (other_header h) ss in
    let mine_is = sealed_ranges h es ss in
    let theirs_is = sealed_ranges (other_header h) es ss in
    let inside = and_parts (list_all (is_inside (length a.view)) mine) (list_all (is_inside (length a.view)) theirs) (sym (list_all-append (is_inside (length a.view)) mine theirs) ∙ lies) in
    let P : Ranges → Type 0 = λ rs. list_all (is_inside (length a.view)) rs ≡ true in
    let ranges : theirs ++ mine ≡ copy_ranges (with_checksums (other_header h) es) ss ++ copy_ranges (with_checksums h es) ss = λ i. sym theirs_is i ++ sym mine_is i in
    let both = written_both a.view b.view c.view (with_checksums (other_header h) es) (with_checksums h es) es ss (subst AreApart ranges (apart_exchanged mine theirs apart))
    (subst P (sym theirs_is) inside.1) (subst P (sym mine_is) inside.0) first.fits.0 own.fits.0 first.fits.1
    (count ∙ sym (sealed_count (other_header h) es)) (count ∙ sym (sealed_count h es)) first.contents own.contents
    (subst (λ (rs : Ranges). AgreesOutside rs b.view c.view) (sym mine_is) second.view) in
    (both.1, both.0)
