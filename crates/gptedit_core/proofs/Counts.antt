-- Measured sizes, and those that are refused.
use Rattle.std.proofs.Common.{◌≡◌, ◌≤◌, ◌∙◌, sym, ℕ, ◌+◌, ◌^◌, inl, inr, refl, subst, Option, Some, None}
use Rattle.gptedit_core.specs.Measuring.{first_of, sectors_of, HasCount, IsCount, IsMeasured, RefusesCount, RefusesParts, RefusesSector, RefusesSize}
use Rattle.gptedit_core.specs.declared.measure.Extent.{Extent}
use Rattle.gptedit_core.specs.declared.measure.Extent.TheVariants.{Size as Long, End, More, Less}
use Rattle.gptedit_core.specs.declared.measure.Measure.{Measure}
use Rattle.gptedit_core.specs.declared.measure.Measure.TheVariants.{Share}
use Rattle.gptedit_core.specs.declared.measure.Position.{Position}
use Rattle.gptedit_core.specs.declared.measure.Position.TheVariants.{FromStart}
use Rattle.gptedit_core.specs.declared.measure.Scale.{Scale}
use Rattle.gptedit_core.specs.declared.scale.Measured.{Measured}
use Rattle.gptedit_core.specs.declared.scale.Unmeasured.{Unmeasured}
use Rattle.gptedit_core.specs.declared.scale.Unmeasured.TheVariants.{TooLarge}
use Rattle.gptedit_core.specs.declared.sectors.SectorRange.{SectorRange}

count_weaker : (P Q : ℕ → Type 0) → ((n : ℕ) → P n → Q n) → (r : Unmeasured) → RefusesCount P r → RefusesCount Q r
count_weaker P Q to r (inl none) = inl (none.0, to 0 none.1)
count_weaker P Q to r (inr high) = inr (high.0, (high.1.0, to high.1.0 high.1.1, high.1.2))

-- A share that starts too far out.
pub too_far : (s : Scale) (measure : Measure) (parts : ℕ) (m : Measured) → measure ≡ Share parts → IsMeasured s measure m → 2 ^ 64 ≤ s.first + m.sectors → RefusesSector s (FromStart measure) TooLarge
too_far s measure parts m is length high =
    let share : IsMeasured s (Share parts) m = subst (λ (e : Measure). IsMeasured s e m) is length in
    subst (λ (e : Measure). RefusesSector s (FromStart e) TooLarge) (sym is) (inr (refl, (s.first + m.sectors, (m.sectors, share.length, refl), high)))

-- ---- sizes up to an end

until_count : (s : Scale) (start : Option ℕ) (there : Option SectorRange) (first : ℕ) (p : Position) → first_of start there ≡ Some first → (n : ℕ) → IsCount s (Some first) None (End p) n → IsCount s start there (End p) n
until_count s start there first p is n c = (c.0, c.1, is ∙ c.2, c.3, c.4)

until_parts : (s : Scale) (start : Option ℕ) (there : Option SectorRange) (first : ℕ) (p : Position) (r : Unmeasured) → first_of start there ≡ Some first → RefusesSector s p r → RefusesParts s start there (End p) r
until_parts s (Some a) there first p r is h = h
until_parts s None (Some range) first p r is h = h
until_parts s None None first p r is h = absurd (cc)

until_size : (s : Scale) (start : Option ℕ) (there : Option SectorRange) (first : ℕ) (p : Position) (r : Unmeasured) → first_of start there ≡ Some first → RefusesSize s (Some first) None (End p) r → RefusesSize s start there (End p) r
until_size s start there first p r is (inl part) = inl (until_parts s start there first p r is part)
until_size s start there first p r is (inr count) =
    inr (count_weaker (IsCount s (Some first) None (End p)) (IsCount s start there (End p)) (until_count s start there first p is) r count)

pub until_refused : (s : Scale) (start : Option ℕ) (there : Option SectorRange) (extent : Extent) (first : ℕ) (p : Position) (r : Unmeasured) → extent ≡ End p → first_of start there ≡ Some first → RefusesSize s (Some first) None (End p) r → RefusesSize s start there extent r
until_refused s start there extent first p r is at h = subst (λ (e : Extent). RefusesSize s start there e r) (sym is) (until_size s start there first p r at h)

pub until_counted : (s : Scale) (start : Option ℕ) (there : Option SectorRange) (extent : Extent) (first : ℕ) (p : Position) (m : Measured) → extent ≡ End p → first_of start there ≡ Some first → HasCount s (Some first) None (End p) m → HasCount s start there extent m
until_counted s start there extent first p m is at h =
    let same : HasCount s start there (End p) m = record { some = h.some; count = until_count s start there first p at m.sectors h.count; rounded = h.rounded } in
    subst (λ (e : Extent). HasCount s start there e m) (sym is) same

-- ---- longer and shorter ones

pub more_refused : (s : Scale) (range : SectorRange) (measure : Measure) (more : Measured) (k : ℕ) → IsMeasured s measure more → k ≡ sectors_of range + more.sectors → (r : Unmeasured) → RefusesCount (λ n. n ≡ k) r → RefusesSize s None (Some range) (More measure) r
more_refused s range measure more k length is r h =
    inr (count_weaker (λ n. n ≡ k) (IsCount s None (Some range) (More measure)) (λ n same. (range, more.sectors, refl, length.length, same ∙ is)) r h)

pub longer_refused : (s : Scale) (start : Option ℕ) (there : Option SectorRange) (extent : Extent) (range : SectorRange) (measure : Measure) (r : Unmeasured) → extent ≡ More measure → there ≡ Some range → RefusesSize s None (Some range) (More measure) r → RefusesSize s start there extent r
longer_refused s start there extent range measure r is at h =
    subst (λ (e : Extent). RefusesSize s start there e r) (sym is) (subst (λ (t : Option SectorRange). RefusesSize s start t (More measure) r) (sym at) h)

pub longer_counted : (s : Scale) (start : Option ℕ) (there : Option SectorRange) (extent : Extent) (range : SectorRange) (measure : Measure) (m : Measured) → extent ≡ More measure → there ≡ Some range → HasCount s None (Some range) (More measure) m → HasCount s start there extent m
longer_counted s start there extent range measure m is at h =
    let same : HasCount s start (Some range) (More measure) m = record { some = h.some; count = h.count; rounded = h.rounded } in
    subst (λ (e : Extent). HasCount s start there e m) (sym is) (subst (λ (t : Option SectorRange). HasCount s start t (More measure) m) (sym at) same)

pub shorter_refused : (s : Scale) (start : Option ℕ) (there : Option SectorRange) (extent : Extent) (range : SectorRange) (measure : Measure) (r : Unmeasured) → extent ≡ Less measure → there ≡ Some range → RefusesSize s None (Some range) (Less measure) r → RefusesSize s start there extent r
shorter_refused s start there extent range measure r is at h =
    subst (λ (e : Extent). RefusesSize s start there e r) (sym is) (subst (λ (t : Option SectorRange). RefusesSize s start t (Less measure) r) (sym at) h)

pub shorter_counted : (s : Scale) (start : Option ℕ) (there : Option SectorRange) (extent : Extent) (range : SectorRange) (measure : Measure) (m : Measured) → extent ≡ Less measure → there ≡ Some range → HasCount s None (Some range) (Less measure) m → HasCount s start there extent m
shorter_counted s start there extent range measure m is at h =
    let same : HasCount s start (Some range) (Less measure) m = record { some = h.some; count = h.count; rounded = h.rounded } in
    subst (λ (e : Extent). HasCount s start there e m) (sym is) (subst (λ (t : Option SectorRange). HasCount s start t (Less measure) m) (sym at) same)

pub whole_counted : (s : Scale) (start : Option ℕ) (there : Option SectorRange) (extent : Extent) (measure : Measure) (m : Measured) → extent ≡ Long measure → HasCount s None None (Long measure) m → HasCount s start there extent m
whole_counted s start there extent measure m is h =
    let same : HasCount s start there (Long measure) m = record { some = h.some; count = h.count; rounded = h.rounded } in
    subst (λ (e : Extent). HasCount s start there e m) (sym is) same
