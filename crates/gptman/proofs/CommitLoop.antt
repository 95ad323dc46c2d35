-- Edits that are applied and written one by one.
use Rattle.std.proofs.Common.{◌≡◌, ◌≢◌, ◌⊎◌, ◌<◌, ◌≤◌, ◌+◌, ◌++◌, ⊎_elim, inl, inr, ℕ, zero, suc, true, List, [], ◌∷◌, length, Some, None, refl, sym, ap, ◌∙◌, subst, arith, length-append, append_assoc, Bool, false}
use Rattle.std.specs.Prelude.{fold, slice_get, if◌then◌else◌, Contains, IsTrue}
use Rattle.std.proofs.lemmas.Bool.{cases_lt}
use Rattle.std.proofs.lemmas.List.{take-append-le, take_all}
use Rattle.std.proofs.lemmas.List.FromFn.{length-map-range_with_len, get_or-map-range_with_len}
use Rattle.std.proofs.lemmas.List.Sums.{fold-append}
use Rattle.gptman.specs.TableWrites.{other_with_checksums, table_ranges, value_with_checksums, HasBothCopies, IsButSums}
use Rattle.gptman_disk.specs.Disk.{AgreesOutside, OnlyRead, DiskState, Image, IsSound, Keeps, LeavesOnly, Rose, Wrote}
use Rattle.gptman.specs.Coding.{array_bytes}
use Rattle.gptman.specs.Commit.{is_io, tables_to, value_after, HoldsLast, IsAllowed, HasContentsAfter, IsAllowedAt, IsRefusedAt, RefusesEdit, IsStoredAfter}
use Rattle.gptman.specs.Crash.{IsKeptFor}
use Rattle.gptman.specs.Crc.{crc_of}
use Rattle.gptman.specs.Edit.{after_edit, edit_fault, table_after}
use Rattle.gptman_disk.specs.Fault.{Fault, io, no_space_left, overflow}
use Rattle.gptman.specs.Layout.{HasLayout, Holds}
use Rattle.gptman.specs.Reading.{CopyPlace, primary, backup}
use Rattle.gptman.specs.Stop.{HoldsOneOf, IsStored}
use Rattle.gptman.specs.Table.{Table, entries_in, table_in}
use Rattle.gptman.specs.Copy.{with_checksums, IsCoherent}
use Rattle.gptman.specs.Valid.{IsValid}
use Rattle.gptman_disk.specs.Ranges.{AreApart}
use Rattle.gptman.specs.Write.{four_ranges, other_header, write_fault}
use Rattle.gptman.specs.declared.codec.header.GPTHeader.{GPTHeader}
use Rattle.gptman.specs.declared.edit.Edit.{Edit}
use Rattle.gptman.specs.declared.edit.Edit.TheVariants.{Put, Remove, SortEntries, DiskGuid}
use Rattle.gptman.specs.declared.table.GPT.{GPT}
use Rattle.gptman.proofs.Commits.{KeepsRanges, edit_since, edited_keeps, keeps_both, layout_still, leaves_kept, ranges_still, room_still, sums_keep}
use Rattle.gptman.proofs.OneGood.{stored_is_kept}
use Rattle.gptman.proofs.Runs.{keeps_then, leaves_then, rose_since, wrote_not, wrote_then}
use Rattle.gptman_disk.proofs.Ranges.{Ranges, within_self}
use Rattle.gptman.proofs.SameTable.{contains_cases}
use Rattle.gptman.proofs.Sealing.{cleared_same}

-- ---- a value with other checksums

-- The value with these checksums.
abbrev pub summed : GPT → ℕ → ℕ → GPT
summed g own array = record g { header = record g.header { crc32_checksum = own; partition_entry_array_crc32 = array } }

is_summed : (g new : GPT) → IsButSums g new → new ≡ summed g new.header.crc32_checksum new.header.partition_entry_array_crc32
is_summed g new is = is.0 ∙ (λ i. record g { header = is.1 i })

sums_of : (g : GPT) (own array : ℕ) → IsButSums g (summed g own array)
sums_of g own array = (refl, refl)

pub sums_then : (g mid new : GPT) → IsButSums g mid → IsButSums mid new → IsButSums g new
sums_then g mid new first second =
    let a = is_summed g mid first in
    let b = is_summed mid new second in
    let c : new ≡ summed g new.header.crc32_checksum new.header.partition_entry_array_crc32 =
    b ∙ ap (λ (x : GPT). summed x new.header.crc32_checksum new.header.partition_entry_array_crc32) a in
    subst (IsButSums g) (sym c) (sums_of g new.header.crc32_checksum new.header.partition_entry_array_crc32)

-- An edit of it is the edited value with these checksums.
edited_summed : (g : GPT) (edit : Edit) (own array : ℕ) → after_edit (summed g own array) edit ≡ summed (after_edit g edit) own array
edited_summed g (Put i e) own array = refl
edited_summed g (Remove i) own array = refl
edited_summed g SortEntries own array = refl
edited_summed g (DiskGuid guid) own array = refl

fault_summed : (g : GPT) (edit : Edit) (own array : ℕ) → edit_fault (summed g own array) edit ≡ edit_fault g edit
fault_summed g (Put i e) own array = refl
fault_summed g (Remove i) own array = refl
fault_summed g SortEntries own array = refl
fault_summed g (DiskGuid guid) own array = refl

pub edited_sums : (g new : GPT) (edit : Edit) → IsButSums g new → IsButSums (after_edit g edit) (after_edit new edit)
edited_sums g new edit is =
    let own : ℕ = new.header.crc32_checksum in
    let array : ℕ = new.header.partition_entry_array_crc32 in
    subst (IsButSums (after_edit g edit)) (sym (ap (λ (x : GPT). after_edit x edit) (is_summed g new is) ∙ edited_summed g edit own array)) (sums_of (after_edit g edit) own array)

pub fault_sums : (g new : GPT) (edit : Edit) → IsButSums g new → edit_fault new edit ≡ edit_fault g edit
fault_sums g new edit is = ap (λ (x : GPT). edit_fault x edit) (is_summed g new is) ∙ fault_summed g edit new.header.crc32_checksum new.header.partition_entry_array_crc32

pub table_sums : (g new : GPT) → IsButSums g new → table_in new ≡ table_in g
table_sums g new is = ap table_in (is_summed g new is)

-- Validity does not depend on checksums.
valid_summed : (g : GPT) (own array : ℕ) → IsValid (summed g own array).header (entries_in g) → IsValid g.header (entries_in g)
valid_summed g own array is =
    let b = is.boundaries in
    record { own_guids = is.own_guids; boundaries = record { ordered = b.ordered; disjoint = b.disjoint; within = b.within; bounds = b.bounds } }

pub accepted_sums : (g new : GPT) (edit : Edit) → IsButSums g new → IsAllowed new edit → IsAllowed g edit
accepted_sums g new edit is accepted =
    let own : ℕ = new.header.crc32_checksum in
    let array : ℕ = new.header.partition_entry_array_crc32 in
    let moved : after_edit new edit ≡ summed (after_edit g edit) own array = ap (λ (x : GPT). after_edit x edit) (is_summed g new is) ∙ edited_summed g edit own array in
    record {
      number = sym (fault_sums g new edit is) ∙ accepted.number;
      valid = valid_summed (after_edit g edit) own array (subst (λ (x : GPT). IsValid x.header (entries_in x)) moved accepted.valid);
    }

-- ---- the value after some of the edits

sealed_sums : (g : GPT) → IsButSums g (value_with_checksums g)
unfolding with_checksums
sealed_sums g = (refl, refl)

-- Computed checksums do not depend on the previous ones,
sealed_summed : (g : GPT) (own array : ℕ) → length g.header.signature ≡ 8 → length g.header.revision ≡ 4 → value_with_checksums (summed g own array) ≡ value_with_checksums g
unfolding with_checksums
sealed_summed g own array long_s long_r =
    let sum : ℕ = crc_of (array_bytes (entries_in g)) in
    ap (λ (x : ℕ). record g { header = record g.header { crc32_checksum = x; partition_entry_array_crc32 = sum } })
    (cleared_same (record g.header { partition_entry_array_crc32 = sum }) own long_s long_r)

sealed_again : (g new : GPT) → IsButSums g new → length g.header.signature ≡ 8 → length g.header.revision ≡ 4 → value_with_checksums new ≡ value_with_checksums g
sealed_again g new is long_s long_r =
    ap value_with_checksums (is_summed g new is) ∙ sealed_summed g new.header.crc32_checksum new.header.partition_entry_array_crc32 long_s long_r

-- nor do those of the other header.
other_summed : (g : GPT) (own array : ℕ) → length g.header.signature ≡ 8 → length g.header.revision ≡ 4 → other_with_checksums (summed g own array) ≡ other_with_checksums g
unfolding with_checksums
other_summed g own array long_s long_r =
    let sum : ℕ = crc_of (array_bytes (entries_in g)) in
    let other : GPTHeader = other_header g.header in
    ap (λ (x : ℕ). record other { crc32_checksum = x; partition_entry_array_crc32 = sum })
    (cleared_same (record other { partition_entry_array_crc32 = sum }) own long_s long_r)

other_again : (g new : GPT) → IsButSums g new → length g.header.signature ≡ 8 → length g.header.revision ≡ 4 → other_with_checksums new ≡ other_with_checksums g
other_again g new is long_s long_r =
    ap other_with_checksums (is_summed g new is) ∙ other_summed g new.header.crc32_checksum new.header.partition_entry_array_crc32 long_s long_r

value_some : (g : GPT) (edits : List Edit) (k : ℕ) → 0 < k → value_after g edits k ≡ value_with_checksums (table_after g edits k)
value_some g edits zero some = absurd (omega (arith, some))
value_some g edits (suc k) some = refl

-- ---- the tables after some of the edits

-- Later edits do not affect the tables of the first ones.
pub after_append : (g : GPT) (made more : List Edit) (k : ℕ) → k ≤ length made → table_after g (made ++ more) k ≡ table_after g made k
after_append g made more k within = ap (fold after_edit g) (take-append-le k made more within)

value_append : (g : GPT) (made more : List Edit) (k : ℕ) → k ≤ length made → value_after g (made ++ more) k ≡ value_after g made k
value_append g made more zero within = refl
value_append g made more (suc k) within = ap value_with_checksums (after_append g made more (suc k) within)

pub after_all : (g : GPT) (made : List Edit) → table_after g made (length made) ≡ fold after_edit g made
after_all g made = ap (fold after_edit g) (take_all (length made) made (omega arith))

-- One place holds the table after some of these edits.
pub record HoldsSome (g : GPT) (made : List Edit) (b : List ℕ) : Type 0 where
  pub k : ℕ
  pub within : k ≤ length made
  pub side : CopyPlace
  pub holds : Holds b g.sector_size side (table_in (table_after g made k))

pub some_more : (g : GPT) (made more : List Edit) (b : List ℕ) → HoldsSome g made b → HoldsSome g (made ++ more) b
some_more g made more b some =
    let within = some.within in
    record {
      k = some.k;
      within = omega (arith, within, length-append made more);
      side = some.side;
      holds = subst (λ (x : GPT). Holds b g.sector_size some.side (table_in x)) (sym (after_append g made more some.k some.within)) some.holds;
    }

listed : (g : GPT) (edits : List Edit) (n k : ℕ) → k ≤ n → Contains (tables_to g edits n) (table_in (table_after g edits k))
listed g edits n k within =
    let at : ℕ → Table = λ j. table_in (table_after g edits j) in
    (k, omega (arith, within, length-map-range_with_len at 0 (n + 1)), get_or-map-range_with_len at 0 (n + 1) k k (table_in (table_after g edits k)) (omega (arith, within)) (let e : 0 + k ≡ k = omega arith in e))

-- So one of the listed tables is held.
pub some_listed : (g : GPT) (made more edits : List Edit) (n : ℕ) (b : List ℕ) → edits ≡ made ++ more → length made ≤ n → HoldsSome g made b → HoldsOneOf b g.sector_size (tables_to g edits n)
some_listed g made more edits n b is within some =
    let low = some.within in
    let same : table_after g made some.k ≡ table_after g edits some.k = sym (after_append g made more some.k some.within) ∙ ap (λ (es : List Edit). table_after g es some.k) (sym is) in
    record {
      side = some.side;
      table = table_in (table_after g edits some.k);
      listed = listed g edits n some.k (omega (arith, within, low));
      holds = subst (λ (x : GPT). Holds b g.sector_size some.side (table_in x)) same some.holds;
    }

-- An element of a longer list.
slice_get-append : {X : Type 0} (xs ys : List X) (k : ℕ) → k < length xs → slice_get (xs ++ ys) k ≡ slice_get xs k
slice_get-append [] ys k below = absurd (omega arith)
slice_get-append (x ∷ xs) ys zero below = refl
slice_get-append (x ∷ xs) ys (suc k) below = slice_get-append xs ys k (omega (arith, below))

last_is : {X : Type 0} (xs : List X) (x : X) (k : ℕ) (y : X) → k ≡ length xs → slice_get (xs ++ x ∷ []) k ≡ Some y → y ≡ x
last_is [] x zero y at is = cc
last_is [] x (suc k) y at is = absurd (omega (arith, at))
last_is (z ∷ xs) x zero y at is = absurd (omega (arith, at))
last_is (z ∷ xs) x (suc k) y at is = last_is xs x k y (omega (arith, at)) is

-- ---- the loop

-- These edits were applied and written one by one, from the value g on disk a to the value now on disk b.
pub record AreMade (g : GPT) (made : List Edit) (now : GPT) (a b : DiskState) : Type 0 where
  pub coherent : IsCoherent now.header (entries_in now)
  pub sides : KeepsRanges g now
  pub value : IsButSums (fold after_edit g made) now
  pub exact : now ≡ value_after g made (length made)
  pub accepted : (k : ℕ) → k < length made → IsAllowedAt g made k
  pub fits : 0 < length made → write_fault g.header g.sector_size a.size ≡ None
  pub keeps : Keeps a b
  pub wrote : a.is_honest ≡ true → Wrote (four_ranges g.header g.sector_size) a b
  pub untouched : a.is_honest ≡ true → length made ≡ 0 → OnlyRead a b
  pub stored_or_read : a.is_honest ≡ true → HasLayout g a.size → ((length made ≡ 0) × OnlyRead a b) ⊎ IsStored b g.sector_size (table_in now)
  pub contents : a.is_honest ≡ true → 0 < length made → HasContentsAfter b g made (length made)
  pub kept : a.is_honest ≡ true → HasLayout g a.size → IsKeptFor a g (table_in g) → IsKeptFor b now (table_in now)
  pub leaves : a.is_honest ≡ true → HasLayout g a.size → IsKeptFor a g (table_in g) → LeavesOnly a b (HoldsSome g made)

-- The effect of the next edit, if it is applied and written.
pub record IsMade (g : GPT) (edit : Edit) (new : GPT) (a b : DiskState) : Type 0 where
  pub coherent : IsCoherent new.header (entries_in new)
  pub accepted : IsAllowed g edit
  pub fits : write_fault g.header g.sector_size a.size ≡ None
  pub value : new ≡ value_with_checksums (after_edit g edit)
  pub keeps : Keeps a b
  pub wrote : a.is_honest ≡ true → Wrote (four_ranges g.header g.sector_size) a b
  pub synced : a.is_honest ≡ true → b.pending ≡ []
  pub contents : a.is_honest ≡ true → AreApart (table_ranges g) → HasBothCopies b.view new (other_with_checksums (after_edit g edit))
  pub stored : a.is_honest ≡ true → HasLayout g a.size → IsStored b g.sector_size (table_in (after_edit g edit))
  pub good : a.is_honest ≡ true → HasLayout g a.size → IsKeptFor a g (table_in g)
      → LeavesOnly a b (λ x. HoldsOneOf x g.sector_size (table_in g ∷ table_in (after_edit g edit) ∷ []))

module _ (g : GPT) (made : List Edit) (now : GPT) (a b : DiskState) (are : AreMade g made now a b) where
  -- The table of the current value.
  pub now_table : table_in now ≡ table_in (table_after g made (length made))
  now_table = table_sums (fold after_edit g made) now are.value ∙ ap table_in (sym (after_all g made))

  pub now_layout : HasLayout g a.size → HasLayout now b.size
  now_layout layout = subst (HasLayout now) (sym are.keeps.size) (layout_still g now are.sides a.size layout)

  -- After a crash in the next write the disk holds a table after some edits, possibly the next one.
  pub next_some : (edit : Edit) (x : List ℕ) → HoldsOneOf x now.sector_size (table_in now ∷ table_in (after_edit now edit) ∷ []) → HoldsSome g (made ++ edit ∷ []) x
  next_some edit x one =
      let ss : ℕ → Type 0 = λ n. Holds x n one.side one.table in
      let here : Holds x g.sector_size one.side one.table = subst ss are.sides.sector one.holds in
      let next : table_in (after_edit now edit) ≡ table_in (table_after g (made ++ edit ∷ []) (length (made ++ edit ∷ []))) =
      table_sums (after_edit (fold after_edit g made) edit) (after_edit now edit) (edited_sums (fold after_edit g made) now edit are.value)
      ∙ ap table_in (sym (fold-append after_edit g made (edit ∷ [])) ∙ sym (after_all g (made ++ edit ∷ []))) in
      elim (contains_cases (table_in now) one.table (table_in (after_edit now edit) ∷ []) one.listed) as (λ _. HoldsSome g (made ++ edit ∷ []) x) [
        | inl first ↦ some_more g made (edit ∷ []) x (record {
          k = length made;
          within = omega arith;
          side = one.side;
          holds = subst (Holds x g.sector_size one.side) (sym first ∙ now_table) here;
        })
        | inr later ↦ elim (contains_cases (table_in (after_edit now edit)) one.table [] later) as (λ _. HoldsSome g (made ++ edit ∷ []) x) [
          | inl second ↦ record {
            k = length (made ++ edit ∷ []);
            within = omega arith;
            side = one.side;
            holds = subst (Holds x g.sector_size one.side) (sym second ∙ next) here;
          }
          | inr never ↦ absurd (omega (arith, never.1))
        ]
      ]

  -- After a crash in the edits so far or in the next write.
  pub leaves_next : (edit : Edit) (c : DiskState) → a.is_honest ≡ true → HasLayout g a.size → IsKeptFor a g (table_in g)
      → Wrote (four_ranges now.header now.sector_size) b c
      → (HasLayout now b.size → IsKeptFor b now (table_in now) → LeavesOnly b c (λ x. HoldsOneOf x now.sector_size (table_in now ∷ table_in (after_edit now edit) ∷ [])))
      → LeavesOnly a c (HoldsSome g (made ++ edit ∷ []))
  leaves_next edit c honest layout kept wrote good =
      leaves_then (HoldsSome g (made ++ edit ∷ [])) (are.wrote honest).time wrote.time
      (λ x left. some_more g made (edit ∷ []) x (are.leaves honest layout kept x left))
      (λ x left. next_some edit x (good (now_layout layout) (are.kept honest layout kept) x left))

  pub wrote_next : (c : DiskState) → a.is_honest ≡ true → (b.is_honest ≡ true → Wrote (four_ranges now.header now.sector_size) b c) → Wrote (four_ranges g.header g.sector_size) a c
  wrote_next c honest wrote =
      let so_far = are.wrote honest in
      wrote_then (within_self (four_ranges g.header g.sector_size)) so_far
      (subst (λ (rs : Ranges). Wrote rs b c) (ranges_still g now are.sides) (wrote so_far.honest))

  -- The requirements on the places remain true.
  pub room_now : write_fault now.header now.sector_size b.size ≡ write_fault g.header g.sector_size a.size
  room_now = room_still g now are.sides b.size ∙ ap (write_fault g.header g.sector_size) are.keeps.size

  fits_next : write_fault now.header now.sector_size b.size ≡ None → write_fault g.header g.sector_size a.size ≡ None
  fits_next fits = sym room_now ∙ fits

  accepted_next : (edit : Edit) → IsAllowed now edit → (k : ℕ) → k < length (made ++ edit ∷ []) → IsAllowedAt g (made ++ edit ∷ []) k
  accepted_next edit accepted k below e is = elim (cases_lt k (length made)) as (λ _. IsAllowed (table_after g (made ++ edit ∷ []) k) e) [
    | inl before ↦
        let here = are.accepted k before e (sym (slice_get-append made (edit ∷ []) k before) ∙ is) in
        subst (λ (x : GPT). IsAllowed x e) (sym (after_append g made (edit ∷ []) k (omega (arith, before)))) here
    | inr after ↦
        let at : k ≡ length made = omega (arith, below, after, length-append made (edit ∷ [])) in
        let same : e ≡ edit = last_is made edit k e at is in
        let where_it_is : table_after g (made ++ edit ∷ []) k ≡ fold after_edit g made = after_append g made (edit ∷ []) k (omega (arith, at)) ∙ (ap (table_after g made) at ∙ after_all g made) in
        subst (λ (x : GPT). IsAllowed x e) (sym where_it_is) (subst (IsAllowed (fold after_edit g made)) (sym same) (accepted_sums (fold after_edit g made) now edit are.value accepted))
  ]

  -- An edit keeps the lengths of the header's byte fields.
  next_long : (edit : Edit) → length g.header.signature ≡ 8 → length g.header.revision ≡ 4
      → (let last = after_edit (fold after_edit g made) edit in (length last.header.signature ≡ 8) × (length last.header.revision ≡ 4))
  next_long edit long_s long_r =
      let last : GPT = after_edit (fold after_edit g made) edit in
      let same = sym (is_summed last (after_edit now edit) (edited_sums (fold after_edit g made) now edit are.value)) in
      let keeps = keeps_both g now (after_edit now edit) are.sides (edited_keeps now edit) in (
        ap (λ (x : GPT). length x.header.signature) same ∙ ap (λ (h : GPTHeader). length h.signature) keeps.header ∙ long_s,
        ap (λ (x : GPT). length x.header.revision) same ∙ ap (λ (h : GPTHeader). length h.revision) keeps.header ∙ long_r,
      )

  next_at : (edit : Edit) → table_after g (made ++ edit ∷ []) (length (made ++ edit ∷ [])) ≡ after_edit (fold after_edit g made) edit
  next_at edit = after_all g (made ++ edit ∷ []) ∙ fold-append after_edit g made (edit ∷ [])

  -- The value that is written next, with its checksums,
  exact_next : (edit : Edit) → length g.header.signature ≡ 8 → length g.header.revision ≡ 4 → value_with_checksums (after_edit now edit) ≡ value_after g (made ++ edit ∷ []) (length (made ++ edit ∷ []))
  exact_next edit long_s long_r =
      let last : GPT = after_edit (fold after_edit g made) edit in
      let sums : IsButSums last (after_edit now edit) = edited_sums (fold after_edit g made) now edit are.value in
      let long = next_long edit long_s long_r in
      sealed_again last (after_edit now edit) sums long.0 long.1
      ∙ sym (value_some g (made ++ edit ∷ []) (length (made ++ edit ∷ [])) (omega (arith, length-append made (edit ∷ []))) ∙ ap value_with_checksums (next_at edit))

  -- and the other header that is written with it.
  other_next : (edit : Edit) → length g.header.signature ≡ 8 → length g.header.revision ≡ 4
      → other_with_checksums (after_edit now edit) ≡ other_with_checksums (table_after g (made ++ edit ∷ []) (length (made ++ edit ∷ [])))
  other_next edit long_s long_r =
      let last : GPT = after_edit (fold after_edit g made) edit in
      let sums : IsButSums last (after_edit now edit) = edited_sums (fold after_edit g made) now edit are.value in
      let long = next_long edit long_s long_r in
      other_again last (after_edit now edit) sums long.0 long.1 ∙ sym (ap other_with_checksums (next_at edit))

  -- One more edit.
  pub made_next : (edit : Edit) (new : GPT) (c : DiskState) → length g.header.signature ≡ 8 → length g.header.revision ≡ 4 → IsMade now edit new b c → AreMade g (made ++ edit ∷ []) new a c
  made_next edit new c long_s long_r is =
      let sums : IsButSums (after_edit now edit) new = subst (IsButSums (after_edit now edit)) (sym is.value) (sealed_sums (after_edit now edit)) in
      let sides = keeps_both g now new are.sides (keeps_both now (after_edit now edit) new (edited_keeps now edit) (sums_keep (after_edit now edit) new sums)) in
      let more : fold after_edit g (made ++ edit ∷ []) ≡ after_edit (fold after_edit g made) edit = fold-append after_edit g made (edit ∷ []) in
      let value : IsButSums (fold after_edit g (made ++ edit ∷ [])) new =
      subst (λ (x : GPT). IsButSums x new) (sym more) (sums_then (after_edit (fold after_edit g made) edit) (after_edit now edit) new (edited_sums (fold after_edit g made) now edit are.value) sums) in
      let keeps : Keeps a c = keeps_then are.keeps is.keeps in
      let still : a.is_honest ≡ true → b.is_honest ≡ true = λ honest. (are.wrote honest).honest in
      let stored : a.is_honest ≡ true → HasLayout g a.size → IsStored c g.sector_size (table_in new) = λ honest layout.
      subst (λ (n : ℕ). IsStored c n (table_in new)) are.sides.sector
      (subst (IsStored c now.sector_size) (sym (table_sums (after_edit now edit) new sums)) (is.stored (still honest) (now_layout layout))) in
      let exact : new ≡ value_after g (made ++ edit ∷ []) (length (made ++ edit ∷ [])) = is.value ∙ exact_next edit long_s long_r in
      let both : b.is_honest ≡ true → AreApart (table_ranges g) → HasBothCopies c.view new (other_with_checksums (after_edit now edit)) = λ here apart.
      is.contents here (subst (λ (rs : Ranges). AreApart rs) (sym (ranges_still g now are.sides)) apart) in
      record {
        coherent = is.coherent;
        sides = sides;
        value = value;
        exact = exact;
        accepted = accepted_next edit is.accepted;
        fits = λ some. fits_next is.fits;
        keeps = keeps;
        wrote = λ honest. wrote_next c honest is.wrote;
        untouched = λ honest none. absurd (omega (arith, none, length-append made (edit ∷ [])));
        stored_or_read = λ honest layout. inr (stored honest layout);
        contents = λ honest some. record {
          synced = is.synced (still honest);
          copies = λ apart. subst (λ (x : GPT). HasBothCopies c.view x (other_with_checksums (table_after g (made ++ edit ∷ []) (length (made ++ edit ∷ []))))) exact
              (subst (λ (h : GPTHeader). HasBothCopies c.view new h) (other_next edit long_s long_r) (both (still honest) apart));
        };
        kept = λ honest layout kept.
            stored_is_kept c new (table_in new) (subst (λ (n : ℕ). IsStored c n (table_in new)) (sym sides.sector) (stored honest layout))
            (subst (HasLayout new) (sym keeps.size) (layout_still g new sides a.size layout)) (record { count = refl; last = refl });
        leaves = λ honest layout kept. leaves_next edit c honest layout kept (is.wrote (still honest)) (is.good (still honest));
      }

-- Before the first edit.
pub made_none : (g : GPT) (a : DiskState) → IsCoherent g.header (entries_in g) → (a.is_honest ≡ true → IsSound a) → AreMade g [] g a a
made_none g a coherent sound = record {
  coherent = coherent;
  sides = record { sector = refl; header = refl; long = refl };
  value = (refl, refl);
  exact = refl;
  accepted = λ k below. absurd (omega (arith, below));
  fits = λ some. absurd (omega (arith, some));
  keeps = record { size = refl; honest = refl; failures = omega arith };
  wrote = λ honest. wrote_not (four_ranges g.header g.sector_size) a honest (sound honest);
  untouched = λ honest none. still honest;
  stored_or_read = λ honest layout. inl (refl, still honest);
  contents = λ honest some. absurd (omega (arith, some));
  kept = λ honest layout kept. kept;
  leaves = λ honest layout kept x left. none_some x (leaves_kept g a (table_in g) [] (sound honest) kept x left);
}
  where
    still : a.is_honest ≡ true → OnlyRead a a
    still honest = record { view = refl; pending = refl; wrote = wrote_not [] a honest (sound honest) }

    none_some : (x : List ℕ) → HoldsOneOf x g.sector_size (table_in g ∷ []) → HoldsSome g [] x
    none_some x one = elim (contains_cases (table_in g) one.table [] one.listed) as (λ _. HoldsSome g [] x) [
      | inl first ↦ record { k = 0; within = omega arith; side = one.side; holds = subst (Holds x g.sector_size one.side) (sym first) one.holds }
      | inr never ↦ absurd (omega (arith, never.1))
    ]

-- ---- the end of the loop

pub accepted_more : (g : GPT) (made more edits : List Edit) → edits ≡ made ++ more → ((k : ℕ) → k < length made → IsAllowedAt g made k) → (k : ℕ) → k < length made → IsAllowedAt g edits k
accepted_more g made more edits is all k below edit at =
    let here : slice_get made k ≡ Some edit = sym (slice_get-append made more k below) ∙ (ap (λ (es : List Edit). slice_get es k) (sym is) ∙ at) in
    let same : table_after g edits k ≡ table_after g made k = ap (λ (es : List Edit). table_after g es k) is ∙ after_append g made more k (omega (arith, below)) in
    subst (λ (x : GPT). IsAllowed x edit) (sym same) (all k below edit here)

slice_get-next : {X : Type 0} (xs ys : List X) (x : X) → slice_get (xs ++ x ∷ ys) (length xs) ≡ Some x
slice_get-next [] ys x = refl
slice_get-next (z ∷ xs) ys x = slice_get-next xs ys x

-- Reads in sequence are a read.
only_read_then : (a b c : DiskState) → OnlyRead a b → OnlyRead b c → OnlyRead a c
only_read_then a b c first second = record {
  view = second.view ∙ first.view;
  pending = second.pending ∙ first.pending;
  wrote = wrote_then (within_self []) first.wrote second.wrote;
}

stored_read : (b c : DiskState) (ss : ℕ) (t : Table) → OnlyRead b c → IsStored b ss t → IsStored c ss t
stored_read b c ss t read stored = record {
  synced = read.pending ∙ stored.synced;
  at_primary = subst (λ (v : List ℕ). Holds v ss primary t) (sym read.view) stored.at_primary;
  at_backup = subst (λ (v : List ℕ). Holds v ss backup t) (sym read.view) stored.at_backup;
}

contents_read : (b c : DiskState) (g : GPT) (edits : List Edit) (k : ℕ) → OnlyRead b c → HasContentsAfter b g edits k → HasContentsAfter c g edits k
contents_read b c g edits k read laid = record {
  synced = read.pending ∙ laid.synced;
  copies = λ apart. subst (λ (v : List ℕ). HasBothCopies v (value_after g edits k) (other_with_checksums (table_after g edits k))) (sym read.view) (laid.copies apart);
}

module _ (g : GPT) (made : List Edit) (now : GPT) (a b : DiskState) (are : AreMade g made now a b) (edits more : List Edit) (done : ℕ) (is : edits ≡ made ++ more) (count : done ≡ length made) where
  pub after_done : table_after g edits done ≡ fold after_edit g made
  after_done = (λ i. table_after g (is i) (count i)) ∙ (after_append g made more (length made) (omega arith) ∙ after_all g made)

  made_value : value_after g edits done ≡ value_after g made (length made)
  made_value = (λ i. value_after g (is i) (count i)) ∙ value_append g made more (length made) (omega arith)

  pub done_value : now ≡ value_after g edits done
  done_value = are.exact ∙ sym made_value

  pub done_contents : a.is_honest ≡ true → 0 < done → HasContentsAfter b g edits done
  done_contents honest some =
      let laid = are.contents honest (omega (arith, some, count)) in
      let table : table_after g edits done ≡ table_after g made (length made) = (λ i. table_after g (is i) (count i)) ∙ after_append g made more (length made) (omega arith) in
      record {
        synced = laid.synced;
        copies = λ apart. subst (λ (x : GPT). HasBothCopies b.view x (other_with_checksums (table_after g edits done))) (sym made_value)
            (subst (λ (t : GPT). HasBothCopies b.view (value_after g made (length made)) (other_with_checksums t)) (sym table) (laid.copies apart));
      }

  pub done_stored : a.is_honest ≡ true → HasLayout g a.size → IsStoredAfter g edits done a b
  done_stored honest layout =
      let same : table_in now ≡ table_in (table_after g edits done) = table_sums (fold after_edit g made) now are.value ∙ ap table_in (sym after_done) in
      ⊎_elim (λ none. inl (count ∙ none.0, none.1)) (λ stored. inr (subst (IsStored b g.sector_size) same stored)) (are.stored_or_read honest layout)

  pub done_leaves : a.is_honest ≡ true → HasLayout g a.size → IsKeptFor a g (table_in g)
      → LeavesOnly a b (λ x. HoldsOneOf x g.sector_size (tables_to g edits done))
  done_leaves honest layout kept x left = some_listed g made more edits done x is (omega (arith, count)) (are.leaves honest layout kept x left)

io_is : (fault : Fault) → IsTrue (is_io fault) → fault ≡ io
io_is io is = refl
io_is _ is = absurd (cc)

-- The next edit failed.
module _ (g : GPT) (made : List Edit) (now : GPT) (a b c : DiskState) (are : AreMade g made now a b) (edits more : List Edit) (done : ℕ) (edit : Edit) (is : edits ≡ made ++ edit ∷ more) (count : done ≡ length made) where
  pub failed_refused : (fault : Fault) (new : GPT) → RefusesEdit now edit fault new b c → IsRefusedAt g edits done fault new a c
  failed_refused fault new refused = record {
    edit = edit;
    is = (λ i. slice_get (is i) (count i)) ∙ slice_get-next made more edit;
    refused = subst (λ (x : GPT). RefusesEdit x edit fault new a c) (done_value g made now a b are edits (edit ∷ more) done is count) (edit_since now new edit fault a b c are.keeps refused);
  }

  pub failed_room : (fault : Fault) → HasLayout g a.size
      → (HasLayout now b.size → (fault ≢ overflow) × (fault ≢ no_space_left)) → (fault ≢ overflow) × (fault ≢ no_space_left)
  failed_room fault layout room = room (now_layout g made now a b are layout)

  -- The error `Io` is a failure of the disk.
  pub failed_cause : (fault : Fault) → IsTrue (is_io fault) → (fault ≡ io → Rose b c) → Rose a c
  failed_cause fault failed rose = rose_since a b c are.keeps (rose (io_is fault failed))

  pub failed_untouched : (fault : Fault) → a.is_honest ≡ true → done ≡ 0 → (b.is_honest ≡ true → (fault ≡ io) ⊎ OnlyRead b c) → IsTrue (is_io fault) ⊎ OnlyRead a c
  failed_untouched fault honest none untouched =
      ⊎_elim (λ failed. inl (ap is_io failed)) (λ read. inr (only_read_then a b c (are.untouched honest (sym count ∙ none)) read)) (untouched (are.wrote honest).honest)

  pub failed_contents : (fault : Fault) → a.is_honest ≡ true → 0 < done → (b.is_honest ≡ true → (fault ≡ io) ⊎ OnlyRead b c) → IsTrue (is_io fault) ⊎ HasContentsAfter c g edits done
  failed_contents fault honest some untouched =
      ⊎_elim (λ failed. inl (ap is_io failed))
      (λ read. inr (contents_read b c g edits done read (done_contents g made now a b are edits (edit ∷ more) done is count honest some)))
      (untouched (are.wrote honest).honest)

  pub failed_stored : (fault : Fault) → a.is_honest ≡ true → HasLayout g a.size → (b.is_honest ≡ true → (fault ≡ io) ⊎ OnlyRead b c)
      → IsTrue (is_io fault) ⊎ IsStoredAfter g edits done a c
  failed_stored fault honest layout untouched =
      ⊎_elim (λ failed. inl (ap is_io failed))
      (λ read. inr (⊎_elim (λ none. inl (none.0, only_read_then a b c none.1 read)) (λ stored. inr (stored_read b c g.sector_size _ read stored))
      (done_stored g made now a b are edits (edit ∷ more) done is count honest layout)))
      (untouched (are.wrote honest).honest)

  split : edits ≡ (made ++ edit ∷ []) ++ more
  split = is ∙ sym (append_assoc made (edit ∷ []) more)

  pub failed_leaves : (fault : Fault) → a.is_honest ≡ true → HasLayout g a.size → IsKeptFor a g (table_in g) → (b.is_honest ≡ true → IsSound b)
      → (b.is_honest ≡ true → (fault ≡ io) ⊎ OnlyRead b c) → LeavesOnly a c (HoldsSome g (made ++ edit ∷ []))
      → LeavesOnly a c (λ x. HoldsOneOf x g.sector_size (tables_to g edits (if is_io fault then done + 1 else done)))
  failed_leaves fault honest layout kept sound untouched next = by_fault (is_io fault) refl
    where
      wrote : Wrote (four_ranges g.header g.sector_size) a b
      wrote = are.wrote honest

      by_fault : (t : Bool) → is_io fault ≡ t → LeavesOnly a c (λ x. HoldsOneOf x g.sector_size (tables_to g edits (if t then done + 1 else done)))
      by_fault true io_is x left =
          some_listed g (made ++ edit ∷ []) more edits (done + 1) x split (omega (arith, count, length-append made (edit ∷ []))) (next x left)
      by_fault false other x left = elim (untouched wrote.honest) as (λ _. HoldsOneOf x g.sector_size (tables_to g edits done)) [
        | inl failed ↦ let never = sym other ∙ ap is_io failed in absurd (cc)
        | inr read ↦ done_leaves g made now a b are edits (edit ∷ more) done is count honest layout kept x
            (⊎_elim (λ before. before) (λ since. (sound wrote.honest).counts_now a.clock x wrote.time.later (read.wrote.crash x since)) (read.wrote.time.nothing_else a.clock x wrote.time.later left))
      ]

  longer : done + 1 ≡ length (made ++ edit ∷ [])
  longer = omega (arith, count, length-append made (edit ∷ []))

  at_next : table_after g edits (done + 1) ≡ after_edit (fold after_edit g made) edit
  at_next = (λ i. table_after g (split i) (longer i)) ∙ (after_append g (made ++ edit ∷ []) more (length (made ++ edit ∷ [])) (omega arith) ∙ (after_all g (made ++ edit ∷ []) ∙ fold-append after_edit g made (edit ∷ [])))

  -- The table of the current value, and the one that the edit makes.
  pub last_table : table_in now ≡ table_in (table_after g edits done)
  last_table = table_sums (fold after_edit g made) now are.value ∙ ap table_in (sym (after_done g made now a b are edits (edit ∷ more) done is count))

  pub next_table : table_in (after_edit now edit) ≡ table_in (table_after g edits (done + 1))
  next_table = table_sums (after_edit (fold after_edit g made) edit) (after_edit now edit) (edited_sums (fold after_edit g made) now edit are.value) ∙ ap table_in (sym at_next)

  -- Whatever a crash leaves now holds the last table or, if the disk failed, the next one.
  pub failed_last : (fault : Fault) → a.is_honest ≡ true → HasLayout g a.size → IsKeptFor a g (table_in g) → (b.is_honest ≡ true → IsSound b) → b.clock ≤ c.clock → IsSound c
      → (b.is_honest ≡ true → (fault ≡ io) ⊎ OnlyRead b c)
      → (HasLayout now b.size → IsKeptFor b now (table_in now) → LeavesOnly b c (λ x. HoldsOneOf x now.sector_size (table_in now ∷ table_in (after_edit now edit) ∷ [])))
      → HoldsLast c g edits done (is_io fault)
  failed_last fault honest layout kept sound_before later sound untouched good x image = by_fault (is_io fault) refl
    where
      last : Table
      last = table_in (table_after g edits done)

      kept_now : IsKeptFor b now (table_in now)
      kept_now = are.kept honest layout kept

      still : b.is_honest ≡ true
      still = (are.wrote honest).honest

      of_now : (tables : List Table) → HoldsOneOf x now.sector_size tables → HoldsOneOf x g.sector_size tables
      of_now tables = subst (λ (n : ℕ). HoldsOneOf x n tables) are.sides.sector

      was_left : OnlyRead b c → Image b x
      was_left read = subst (λ (v : List ℕ). AgreesOutside b.pending v x) read.view (subst (λ (ps : Ranges). AgreesOutside ps c.view x) read.pending image)

      by_fault : (t : Bool) → is_io fault ≡ t → HoldsOneOf x g.sector_size (last ∷ (if t then table_in (table_after g edits (done + 1)) ∷ [] else []))
      by_fault true failed =
          let one = good (now_layout g made now a b are layout) kept_now x (sound.counts_now b.clock x later image) in
          of_now (last ∷ table_in (table_after g edits (done + 1)) ∷ []) (subst (HoldsOneOf x now.sector_size) (λ i. last_table i ∷ next_table i ∷ []) one)
      by_fault false other = elim (untouched still) as (λ _. HoldsOneOf x g.sector_size (last ∷ [])) [
        | inl failed ↦ let never = sym other ∙ ap is_io failed in absurd (cc)
        | inr read ↦
            let here = leaves_kept now b (table_in now) [] (sound_before still) kept_now x ((sound_before still).counts_now b.clock x (omega arith) (was_left read)) in
            of_now (last ∷ []) (subst (HoldsOneOf x now.sector_size) (λ i. last_table i ∷ []) here)
      ]
