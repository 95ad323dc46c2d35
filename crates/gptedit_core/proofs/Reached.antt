-- Consequences of growths.
use Rattle.std.proofs.Common.{◌≡◌, ◌≢◌, ◌≤◌, ◌<◌, ◌+◌, ◌-◌, ◌*◌, ◌/◌, ◌||◌, ℕ, zero, suc, Bool, true, false, Some, None, arith, refl, sym, subst, ap, ◌∙◌, if◌then◌else◌}
use Rattle.std.specs.Prelude.{nat_eq, nat_lt}
use Rattle.std.proofs.lemmas.Bool.Decides.{nat_tests}
use Rattle.std.proofs.lemmas.Grind.{div_ceil_times}
use Rattle.gptman.specs.Fault.{overflow}
use Rattle.gptman.specs.Fit.{array_sectors, array_size, fit_fault, fit_to_sectors}
use Rattle.gptman.specs.Table.{grow_to}
use Rattle.gptman.specs.declared.codec.header.GPTHeader.{GPTHeader}
use Rattle.gptman.specs.declared.table.GPT.{GPT}
use Rattle.gptedit_core.specs.Growing.{with_first, lowest_usable, EndsAt, GrowthsKeepFirst, GrowthsLeaveEnds, GrowthsReachEnd, GrowthsStay, IsFitted, IsGrown, IsKeptFirst}
use Rattle.gptedit_core.specs.Growing.{ReachesEnd, UsualBoundsReachEnd}
use Rattle.gptedit_core.specs.Growing.IsFitted.{follows, is_usual, stays}
use Rattle.gptedit_core.specs.Growing.IsKeptFirst.{stays_first, was_too_high, was_too_low}
use Rattle.gptedit_core.specs.declared.growth.Bounds.{Bounds}
use Rattle.gptedit_core.specs.declared.growth.Bounds.TheVariants.{Kept, Usual}

-- A grown table ends where the disk does.
grown_ends : (bounds : Bounds) (len : ℕ) (g next : GPT) → IsGrown bounds len g next → EndsAt len next
grown_ends bounds len g next is = record { low = is.layout.table.low_sector; high = is.layout.table.high_sector }

-- A disk that fits a table has sectors for both copies.
has_none : (b : Bool) → (if b then Some overflow else None) ≡ None → b ≡ false
has_none true is = absurd (cc)
has_none false is = refl

room_of : (size sectors array : ℕ) → (nat_eq size 0 || nat_lt sectors (array + 2)) ≡ false → (size ≢ 0) × (array + 2 ≤ sectors)
room_of size sectors array is = (grind (arith, nat_tests), grind (arith, nat_tests))

has_room : (h : GPTHeader) (ss len : ℕ) → fit_fault h ss len ≡ None → (array_size h ≢ 0) × (array_sectors h ss + 2 ≤ len / ss)
has_room h ss len fits = room_of (array_size h) (len / ss) (array_sectors h ss) (has_none (nat_eq (array_size h) 0 || nat_lt (len / ss) (array_sectors h ss + 2)) fits)

-- The last usable sector of the fitted table, and its backup entries.
last_is : (sectors array : ℕ) → array + 2 ≤ sectors → sectors - array - 2 + 1 + array ≡ sectors - 1
last_is sectors array room = omega arith

-- The first usable sector that is kept.
kept_above : (was lowest last first : ℕ) → IsKeptFirst was lowest last first → lowest ≤ first
kept_above was lowest last first (stays_first above below is) = omega arith
kept_above was lowest last first (was_too_low low is) = omega arith
kept_above was lowest last first (was_too_high high is) = omega arith

kept_same : (was lowest last first : ℕ) → IsKeptFirst was lowest last first → lowest ≤ was → was ≤ last → first ≡ was
kept_same was lowest last first (stays_first above below is) legal_low legal_high = is
kept_same was lowest last first (was_too_low low is) legal_low legal_high = absurd (omega arith)
kept_same was lowest last first (was_too_high high is) legal_low legal_high = absurd (omega arith)

-- ---- the table reaches the end

with_first_reaches : (len : ℕ) (g : GPT) (first : ℕ) → fit_fault g.header g.sector_size len ≡ None → lowest_usable g ≤ first → EndsAt len (with_first first (grow_to g len))
    → ReachesEnd len g (with_first first (grow_to g len))
with_first_reaches len g first fits above ends = record {
  ends = ends;
  last = last_is (len / g.sector_size) (array_sectors g.header g.sector_size) (has_room g.header g.sector_size len fits).1;
  first = above;
  others = refl;
}

reached : (len : ℕ) (g next : GPT) → fit_fault g.header g.sector_size len ≡ None → EndsAt len next → (¬ EndsAt len g) → IsFitted Kept len g next → ReachesEnd len g next
reached len g next fits ends elsewhere (stays kept here is) = absurd (elsewhere here)
reached len g next fits ends elsewhere (follows kept there first may is) =
    let of = subst (EndsAt len) is ends in
    subst (ReachesEnd len g) (sym is) (with_first_reaches len g first fits (kept_above _ _ _ first may) of)
reached len g next fits ends elsewhere (is_usual usual here is) = absurd (elsewhere here)

pub growths_reach_end : GrowthsReachEnd
growths_reach_end len g next is elsewhere = reached len g next is.fits (grown_ends Kept len g next is) elsewhere is.fitted

pub left : (len : ℕ) (g next : GPT) → EndsAt len g → IsFitted Kept len g next → next ≡ g
left len g next here (stays kept ends is) = is
left len g next here (follows kept there first may is) = absurd (there here)
left len g next here (is_usual usual ends is) = absurd (cc)

pub growths_leave_ends : GrowthsLeaveEnds
growths_leave_ends len g next is ends = left len g next ends is.fitted

first_of_fitted : (len : ℕ) (g next : GPT) → IsFitted Kept len g next → lowest_usable g ≤ g.header.first_usable_lba → g.header.first_usable_lba ≤ next.header.last_usable_lba
    → next.header.first_usable_lba ≡ g.header.first_usable_lba
first_of_fitted len g next (stays kept ends is) low high = ap (λ (m : GPT). m.header.first_usable_lba) is
first_of_fitted len g next (follows kept there first may is) low high =
    let below : g.header.first_usable_lba ≤ (grow_to g len).header.last_usable_lba = subst (λ (m : GPT). g.header.first_usable_lba ≤ m.header.last_usable_lba) is high in
    ap (λ (m : GPT). m.header.first_usable_lba) is ∙ kept_same g.header.first_usable_lba (lowest_usable g) _ first may low below
first_of_fitted len g next (is_usual usual ends is) low high = absurd (cc)

pub growths_keep_first : GrowthsKeepFirst
growths_keep_first len g next is = first_of_fitted len g next is.fitted

usual_of : (len : ℕ) (g next : GPT) → fit_fault g.header g.sector_size len ≡ None → EndsAt len next → IsFitted Usual len g next
    → ReachesEnd len g next × (next.header.first_usable_lba ≡ lowest_usable g)
usual_of len g next fits ends (stays kept here is) = absurd (cc)
usual_of len g next fits ends (follows kept there first may is) = absurd (cc)
usual_of len g next fits ends (is_usual usual here is) = (
  subst (ReachesEnd len g) (sym is) (with_first_reaches len g (lowest_usable g) fits (omega arith) (subst (EndsAt len) is ends)),
  ap (λ (m : GPT). m.header.first_usable_lba) is,
)

pub usual_bounds_reach_end : UsualBoundsReachEnd
usual_bounds_reach_end len g next is = usual_of len g next is.fits (grown_ends Usual len g next is) is.fitted

-- ---- a grown table is unchanged by growing

-- Fitting a fitted header changes nothing.
own_again : (p last : ℕ) → (let q = (if nat_eq p 1 then p else last) in if nat_eq q 1 then q else last) ≡ (if nat_eq p 1 then p else last)
own_again p last = grind (arith, nat_tests)

other_again : (p last b : ℕ) → last ≢ 1 → (let q = (if nat_eq p 1 then p else last) in if nat_eq q 1 then last else (if nat_eq p 1 then last else b)) ≡ (if nat_eq p 1 then last else b)
other_again p last b far = grind (arith, nat_tests)

entries_again : (e behind : ℕ) → (let f = (if nat_eq e 2 then e else behind) in if nat_eq f 2 then f else behind) ≡ (if nat_eq e 2 then e else behind)
entries_again e behind = grind (arith, nat_tests)

fit_again : (h : GPTHeader) (sectors array : ℕ) → sectors - 1 ≢ 1 → fit_to_sectors (fit_to_sectors h sectors array) sectors array ≡ fit_to_sectors h sectors array
fit_again h sectors array far = λ i. record h {
  primary_lba = own_again h.primary_lba (sectors - 1) i;
  backup_lba = other_again h.primary_lba (sectors - 1) h.backup_lba far i;
  first_usable_lba = 2 + array;
  last_usable_lba = sectors - array - 2;
  partition_entry_lba = entries_again h.partition_entry_lba (sectors - array - 2 + 1) i;
}

some_sectors : (size ss array : ℕ) → size ≢ 0 → size ≤ array * ss → 0 < array
some_sectors size ss zero some below = absurd (omega arith)
some_sectors size ss (suc n) some below = omega arith

has_sectors : (h : GPTHeader) (ss : ℕ) → 0 < ss → array_size h ≢ 0 → 0 < array_sectors h ss
has_sectors h ss sector some = some_sectors (array_size h) ss (array_sectors h ss) some (div_ceil_times (array_size h) ss sector).0

far_end : (sectors array : ℕ) → array + 2 ≤ sectors → 0 < array → sectors - 1 ≢ 1
far_end sectors array room some = omega arith

grow_again : (g : GPT) (len : ℕ) → 0 < g.sector_size → fit_fault g.header g.sector_size len ≡ None → grow_to (grow_to g len) len ≡ grow_to g len
grow_again g len sector fits =
    let room = has_room g.header g.sector_size len fits in
    let far = far_end (len / g.sector_size) (array_sectors g.header g.sector_size) room.1 (has_sectors g.header g.sector_size sector room.0) in
    ap (λ (h : GPTHeader). record g { header = h }) (fit_again g.header (len / g.sector_size) (array_sectors g.header g.sector_size) far)

-- It still fits.
fits_still : (bounds : Bounds) (len : ℕ) (g next : GPT) → IsFitted bounds len g next → fit_fault g.header g.sector_size len ≡ None
    → fit_fault next.header next.sector_size len ≡ None
fits_still bounds len g next (stays kept ends is) fits = subst (λ (m : GPT). fit_fault m.header m.sector_size len ≡ None) (sym is) fits
fits_still bounds len g next (follows kept there first may is) fits = subst (λ (m : GPT). fit_fault m.header m.sector_size len ≡ None) (sym is) fits
fits_still bounds len g next (is_usual usual ends is) fits = subst (λ (m : GPT). fit_fault m.header m.sector_size len ≡ None) (sym is) fits

module _ (len : ℕ) (g next : GPT) (sector : 0 < next.sector_size) (fits : fit_fault g.header g.sector_size len ≡ None) (ends : EndsAt len next) where
  usual_again : (is : next ≡ grow_to g len) → grow_to next len ≡ next
  usual_again is =
      let here : 0 < g.sector_size = subst (λ (m : GPT). 0 < m.sector_size) is sector in
      ap (λ (m : GPT). grow_to m len) is ∙ grow_again g len here fits ∙ sym is

  fitted_again : (bounds : Bounds) → IsFitted bounds len g next → IsFitted bounds len next next
  fitted_again bounds (stays kept here is) = stays kept ends refl
  fitted_again bounds (follows kept there first may is) = stays kept ends refl
  fitted_again bounds (is_usual usual here is) = is_usual usual ends (sym (usual_again is))

  after_as : (bounds : Bounds) (after : GPT) → IsFitted bounds len g next → IsFitted bounds len next after → after ≡ next
  after_as bounds after was (stays kept here same) = same
  after_as bounds after was (follows kept there first may same) = absurd (there ends)
  after_as bounds after (stays kept here is) (is_usual usual again same) = absurd (cc)
  after_as bounds after (follows kept there first may is) (is_usual usual again same) = absurd (cc)
  after_as bounds after (is_usual other here is) (is_usual usual again same) = same ∙ usual_again is

pub growths_stay : GrowthsStay
growths_stay bounds len g next is =
    let ends = grown_ends bounds len g next is in
    let sector : 0 < next.sector_size = omega (arith, is.layout.table.sector) in (
      record {
        fits = fits_still bounds len g next is.fitted is.fits;
        fitted = fitted_again len g next sector is.fits ends bounds is.fitted;
        layout = is.layout;
        may = is.may;
      },
      λ after again. after_as len g next sector is.fits ends bounds after is.fitted again.fitted,
    )
