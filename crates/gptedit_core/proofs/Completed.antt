-- The shape that a layout states: the sectors of its entries, its values, and the usable sectors that it does not state.
use Rattle.std.proofs.Common.{◌≡◌, ◌≢◌, refl, ap, subst, sym, ℕ, ◌+◌, ◌-◌, ◌*◌, ◌≤◌, ◌<◌, Bool, true, false, max, min, arith}
use Rattle.std.specs.Prelude.{if◌then◌else◌, nat_eq, unwrap_or, Option, Some, None}
use Rattle.std.proofs.lemmas.Bool.{eqb-false, eqb-true}
use Rattle.std.specs.Int.{div_ceil}
use Rattle.std.proofs.lemmas.Grind.{div_ceil_times}
use Rattle.gptman.specs.declared.table.GPT.{GPT}
use Rattle.gptedit_core.specs.Reshaping.{kept_first, kept_last, last_sector_of, new_sectors, old_sectors, shape_of}
use Rattle.gptedit_core.specs.Reshaping.{CompleteShapesLeaveRoom, CompleteShapesMoveWithEntries, EntriesTakeFewestSectors, HoldEntries, IsFirstFor, IsLastFor, StatedValuesAreTaken}
use Rattle.gptedit_core.specs.declared.reshaping.Shape.{Shape}
use Rattle.gptedit_core.specs.declared.reshaping.StatedShape.{StatedShape}

take_fewest_by : (count ss s : ℕ) → s ≡ ss → 0 < s → HoldEntries count ss (div_ceil (count * 128) s)
take_fewest_by count ss s is some =
    let bounds = div_ceil_times (count * 128) s some in
    subst (λ (n : ℕ). HoldEntries count n (div_ceil (count * 128) s)) is (record { all = bounds.0; fewest = bounds.1 })

pub take_fewest : EntriesTakeFewestSectors
take_fewest count ss some = take_fewest_by count ss (max ss 1) (omega arith) (omega arith)

stated_value : (o : Option ℕ) (n kept : ℕ) → o ≡ Some n → unwrap_or o kept ≡ n
stated_value o n kept is = ap (λ (p : Option ℕ). unwrap_or p kept) is

kept_value : (o : Option ℕ) (kept : ℕ) → o ≡ None → unwrap_or o kept ≡ kept
kept_value o kept none = ap (λ (p : Option ℕ). unwrap_or p kept) none

pub stated_taken : StatedValuesAreTaken
stated_taken g stated = record {
  entries = λ n is. stated_value stated.entries n _ is;
  count = λ none. kept_value stated.entries _ none;
  first = λ n is. stated_value stated.first_usable n _ is;
  last = λ n is. stated_value stated.last_usable n _ is;
}

-- ---- the first usable sector

-- The sector that is kept, by the tests of its definition.
pub data IsKeptFirst (was old new now : ℕ) : Type 0 where
  is_same : old ≡ new → now ≡ was → IsKeptFirst was old new now
  is_next : old ≢ new → was ≡ 2 + old → now ≡ 2 + new → IsKeptFirst was old new now
  is_apart : old ≢ new → was ≢ 2 + old → now ≡ max was (2 + new) → IsKeptFirst was old new now

first_by : (a b : Bool) (was old new : ℕ) → nat_eq old new ≡ a → nat_eq was (2 + old) ≡ b
    → IsKeptFirst was old new (if a then was else if b then 2 + new else max was (2 + new))
first_by true b was old new as_many next = is_same (eqb-true old new as_many) refl
first_by false true was old new as_many next = is_next (eqb-false old new as_many) (eqb-true was (2 + old) next) refl
first_by false false was old new as_many next = is_apart (eqb-false old new as_many) (eqb-false was (2 + old) next) refl

first_cases : (was old new : ℕ) → IsKeptFirst was old new (kept_first was old new)
first_cases was old new = first_by (nat_eq old new) (nat_eq was (2 + old)) was old new refl refl

first_room : (was old new now : ℕ) → IsKeptFirst was old new now → 2 + old ≤ was → 2 + new ≤ now
first_room was old new now (is_same as_many is) room = omega arith
first_room was old new now (is_next other next is) room = omega arith
first_room was old new now (is_apart other apart is) room = omega arith

first_moves : (was old new now : ℕ) → IsKeptFirst was old new now → IsFirstFor old new was now
first_moves was old new now (is_same as_many is) = record {
  next = λ next. omega arith;
  apart = λ apart over. is;
  same = λ same. is;
  moved = λ moved. omega arith;
}
first_moves was old new now (is_next other next is) = record {
  next = λ next. is;
  apart = λ apart over. omega arith;
  same = λ same. omega arith;
  moved = λ moved. is;
}
first_moves was old new now (is_apart other away is) = record {
  next = λ next. omega arith;
  apart = λ apart over. omega arith;
  same = λ same. omega arith;
  moved = λ moved. omega arith;
}

-- ---- the last usable sector

pub data IsKeptLast (was end old new now : ℕ) : Type 0 where
  is_same : old ≡ new → now ≡ was → IsKeptLast was end old new now
  is_next : old ≢ new → was ≡ end - old - 1 → now ≡ end - new - 1 → IsKeptLast was end old new now
  is_apart : old ≢ new → was ≢ end - old - 1 → now ≡ min was (end - new - 1) → IsKeptLast was end old new now

last_by : (a b : Bool) (was end old new : ℕ) → nat_eq old new ≡ a → nat_eq was (end - old - 1) ≡ b
    → IsKeptLast was end old new (if a then was else if b then end - new - 1 else min was (end - new - 1))
last_by true b was end old new as_many next = is_same (eqb-true old new as_many) refl
last_by false true was end old new as_many next = is_next (eqb-false old new as_many) (eqb-true was (end - old - 1) next) refl
last_by false false was end old new as_many next = is_apart (eqb-false old new as_many) (eqb-false was (end - old - 1) next) refl

last_cases : (was end old new : ℕ) → IsKeptLast was end old new (kept_last was end old new)
last_cases was end old new = last_by (nat_eq old new) (nat_eq was (end - old - 1)) was end old new refl refl

last_room : (was end old new now : ℕ) → IsKeptLast was end old new now → was + old + 1 ≤ end → new + 1 ≤ end → now + new + 1 ≤ end
last_room was end old new now (is_same as_many is) room fits = omega arith
last_room was end old new now (is_next other next is) room fits = omega arith
last_room was end old new now (is_apart other apart is) room fits = omega arith

last_moves : (was end old new now : ℕ) → IsKeptLast was end old new now → IsLastFor end old new was now
last_moves was end old new now (is_same as_many is) = record {
  next = λ next fits. omega arith;
  apart = λ apart fits over. is;
  same = λ same. is;
  moved = λ moved. omega arith;
}
last_moves was end old new now (is_next other next is) = record {
  next = λ was_next fits. omega arith;
  apart = λ apart fits over. omega arith;
  same = λ same. omega arith;
  moved = λ moved. is;
}
last_moves was end old new now (is_apart other away is) = record {
  next = λ next fits. omega arith;
  apart = λ apart fits over. omega arith;
  same = λ same. omega arith;
  moved = λ moved. omega arith;
}

-- ---- the shape

-- A usable sector that is not stated is the one that is kept.
module _ (g : GPT) (stated : StatedShape) where
  abbrev shape : Shape
  shape = shape_of g stated

  first_kept : stated.first_usable ≡ None → IsKeptFirst g.header.first_usable_lba (old_sectors g) (new_sectors g shape) shape.first_usable
  first_kept none =
      subst (λ (n : ℕ). IsKeptFirst g.header.first_usable_lba (old_sectors g) (new_sectors g shape) n) (sym (kept_value stated.first_usable _ none))
      (first_cases g.header.first_usable_lba (old_sectors g) (new_sectors g shape))

  last_kept : stated.last_usable ≡ None → IsKeptLast g.header.last_usable_lba (last_sector_of g) (old_sectors g) (new_sectors g shape) shape.last_usable
  last_kept none =
      subst (λ (n : ℕ). IsKeptLast g.header.last_usable_lba (last_sector_of g) (old_sectors g) (new_sectors g shape) n) (sym (kept_value stated.last_usable _ none))
      (last_cases g.header.last_usable_lba (last_sector_of g) (old_sectors g) (new_sectors g shape))

pub leave_room : CompleteShapesLeaveRoom
leave_room g stated = record {
  first = λ none room. first_room g.header.first_usable_lba (old_sectors g) (new_sectors g (shape g stated)) (shape g stated).first_usable (first_kept g stated none) room;
  last = λ none room fits. last_room g.header.last_usable_lba (last_sector_of g) (old_sectors g) (new_sectors g (shape g stated)) (shape g stated).last_usable (last_kept g stated none) room fits;
}

pub move_with_entries : CompleteShapesMoveWithEntries
move_with_entries g stated = record {
  first = λ none. first_moves g.header.first_usable_lba (old_sectors g) (new_sectors g (shape g stated)) (shape g stated).first_usable (first_kept g stated none);
  last = λ none. last_moves g.header.last_usable_lba (last_sector_of g) (old_sectors g) (new_sectors g (shape g stated)) (shape g stated).last_usable (last_kept g stated none);
}
