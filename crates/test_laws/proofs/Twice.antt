-- A second request for the same changes nothing.
use Rattle.std.proofs.Common.{◌≡◌, ◌≢◌, ◌<◌, ◌≤◌, ℕ, List, length, sym, ap, ◌∙◌, subst}
use Rattle.gptman.specs.declared.table.GPT.{GPT}
use Rattle.gptedit_core.specs.Growing.{EndsAt, GrowthsStay, IsFitted, IsGrown, IsLeftGrown, IsWrittenGrown, RefusesGrown, RefusesGrowth}
use Rattle.gptedit_core.specs.Growing.IsFitted.{follows, is_usual, stays}
use Rattle.gptedit_core.specs.Growing.RefusesGrown.{grown_not_laid_out, grown_not_written}
use Rattle.gptedit_core.specs.Growing.RefusesGrowth.{ends_elsewhere, not_grown, too_small}
use Rattle.gptedit_core.specs.Named.{LayoutsAreTakenAgain, LayoutsStay}
use Rattle.gptedit_core.specs.Planning.{asks_random, has_random, IsDone, IsLeft, IsNeeded, IsPlanned, IsWritten, RefusesCheck}
use Rattle.gptedit_core.specs.Planning.RefusesCheck.{boundaries, shared}
use Rattle.gptedit_core.specs.Planning.IsLeftAs.{is_dry, is_refused, is_unchanged}
use Rattle.gptedit_core.specs.declared.asked.Asked.{Asked}
use Rattle.gptedit_core.specs.declared.growth.Bounds.{Bounds}
use Rattle.gptedit_core.specs.declared.growth.Growth.{Growth}
use Rattle.gptedit_core.specs.declared.plan.Job.{Job}
use Rattle.gptedit_core.specs.declared.plan.Job.TheVariants.{Apply, Sort, Rewrite}
use Rattle.gptedit_core.specs.declared.plan.Outcome.{Outcome}
use Rattle.gptedit_core.specs.declared.plan.Outcome.TheVariants.{Unchanged}
use Rattle.gptedit_core.specs.declared.plan.Request.{Request}
use Rattle.gptedit_core.specs.declared.refusal.Refusal.{Refusal}
use Rattle.test_laws.specs.Changed.{AsksAgain}

-- ---- a request

done_align : (job : Job) (randoms : List (List ℕ)) (g next : GPT) → IsDone job randoms g next → next.align ≡ g.align
done_align (Apply layout) randoms g next is = ap (λ (m : GPT). m.align) is.next_is
done_align Sort randoms g next is = ap (λ (m : GPT). m.align) is
done_align Rewrite randoms g next is = ap (λ (m : GPT). m.align) is

-- A request keeps the alignment.
pub planned_align : (request : Request) (len : ℕ) (g next : GPT) → IsPlanned request len g next → 0 < g.align → 0 < next.align
planned_align request len g next is above = subst (λ (n : ℕ). 0 < n) (sym (done_align request.job request.random.items g next is.done)) above

module _ (stay : LayoutsStay) (taken : LayoutsAreTakenAgain) (first again : Request) (len : ℕ) (g next : GPT) (enough : has_random first) (more : has_random again)
    (planned : IsPlanned first len g next) (asks : AsksAgain first again g) where
  enough_first : length asks.layout.asked.items ≤ length first.random.items
  enough_first = subst (λ (j : Job). asks_random j (length first.random.items)) asks.first_job enough

  enough_again : length asks.layout.asked.items ≤ length again.random.items
  enough_again =
      subst (λ (asked : List Asked). length asked ≤ length again.random.items) asks.is_again.asked
      (subst (λ (j : Job). asks_random j (length again.random.items)) asks.again_job more)

  -- It makes the same of the table,
  same_again : (after : GPT) → IsPlanned again len next after → after ≡ next
  same_again after is =
      stay g next after asks.layout asks.same first.random.items again.random.items asks.numbered asks.is_again enough_first enough_again
      (subst (λ (j : Job). IsDone j first.random.items g next) asks.first_job planned.done)
      (subst (λ (j : Job). IsDone j again.random.items next after) asks.again_job is.done)

  -- so there is nothing to write,
  not_needed : (after : GPT) → IsPlanned again len next after → ¬ IsNeeded again.job next after
  not_needed after is needed =
      let differ : next ≢ after = subst (λ (j : Job). IsNeeded j next after) asks.again_job needed in
      differ (sym (same_again after is))

  left_again : (told : Outcome) → IsLeft again len next told → told ≡ Unchanged next
  left_again told (is_refused r why is) =
      absurd (taken g next len asks.layout asks.same first again r asks.first_job asks.again_job asks.numbered asks.is_again asks.whole enough more planned why)
  left_again told (is_unchanged after made same is) = is
  left_again told (is_dry after made needed dry is) = absurd (not_needed after made needed)

  -- and the outcome says so, for a clone too.
  pub written_again : (m : ℕ) (clone after : GPT) (told : Outcome) → m ≡ len → clone ≡ next → IsWritten again m clone after told → told ≡ Unchanged next
  written_again m clone after told size same is =
      let here : IsWritten again len next after told =
      subst (λ (n : ℕ). IsWritten again n next after told) size (subst (λ (t : GPT). IsWritten again m t after told) same is) in
      absurd (not_needed after here.planned here.needed)

  pub left_unchanged : (m : ℕ) (clone : GPT) (told : Outcome) → m ≡ len → clone ≡ next → IsLeft again m clone told → told ≡ Unchanged next
  left_unchanged m clone told size same is =
      left_again told (subst (λ (n : ℕ). IsLeft again n next told) size (subst (λ (t : GPT). IsLeft again m t told) same is))

-- ---- a growth

-- A table that fits has no other fitted form.
fitted_only : (bounds : Bounds) (len : ℕ) (next other : GPT) → EndsAt len next → IsFitted bounds len next next → IsFitted bounds len next other → other ≡ next
fitted_only bounds len next other ends own (stays kept here is) = is
fitted_only bounds len next other ends own (follows kept there first may is) = absurd (there ends)
fitted_only bounds len next other ends (stays kept here same) (is_usual usual again is) = absurd (cc)
fitted_only bounds len next other ends (follows kept there first may same) (is_usual usual again is) = absurd (cc)
fitted_only bounds len next other ends (is_usual own here same) (is_usual usual again is) = is ∙ sym same

module _ (law : GrowthsStay) (growth : Growth) (len : ℕ) (g next : GPT) (grown : IsGrown growth.bounds len g next) where
  still : IsGrown growth.bounds len next next
  still = (law growth.bounds len g next grown).0

  may_be_checked : (r : Refusal) → ¬ RefusesCheck next r
  may_be_checked r (shared bad is) = bad still.may.valid.own_guids
  may_be_checked r (boundaries own bad is) = bad still.may.valid.boundaries

  may_be_grown : (r : Refusal) → ¬ RefusesGrown next len r
  may_be_grown r (grown_not_laid_out bad is) = bad still.layout
  may_be_grown r (grown_not_written laid check) = may_be_checked r check

  ends : EndsAt len next
  ends = record { low = still.layout.table.low_sector; high = still.layout.table.high_sector }

  not_refused : (r : Refusal) → ¬ RefusesGrowth growth.bounds len next r
  not_refused r (too_small small is) = let fits = still.fits in absurd (cc)
  not_refused r (ends_elsewhere fits usual there is) = there ends
  not_refused r (not_grown fits other fitted why) =
      may_be_grown r (subst (λ (m : GPT). RefusesGrown m len r) (fitted_only growth.bounds len next other ends still.fitted fitted) why)

  same_growth : (after : GPT) → IsGrown growth.bounds len next after → next ≡ after
  same_growth after is = sym ((law growth.bounds len g next grown).1 after is)

  left_grown : (told : Outcome) → IsLeftGrown growth len next told → told ≡ Unchanged next
  left_grown told (is_refused r why is) = absurd (not_refused r why)
  left_grown told (is_unchanged after made same is) = is
  left_grown told (is_dry after made needed dry is) = absurd (needed (same_growth after made))

  -- A second growth has nothing to write, for a clone too.
  pub growth_written : (m : ℕ) (clone after : GPT) (told : Outcome) → m ≡ len → clone ≡ next → IsWrittenGrown growth m clone after told → told ≡ Unchanged next
  growth_written m clone after told size same is =
      let here : IsWrittenGrown growth len next after told =
      subst (λ (n : ℕ). IsWrittenGrown growth n next after told) size (subst (λ (t : GPT). IsWrittenGrown growth m t after told) same is) in
      absurd (here.needed (same_growth after here.planned))

  pub growth_left : (m : ℕ) (clone : GPT) (told : Outcome) → m ≡ len → clone ≡ next → IsLeftGrown growth m clone told → told ≡ Unchanged next
  growth_left m clone told size same is =
      left_grown told (subst (λ (n : ℕ). IsLeftGrown growth n next told) size (subst (λ (t : GPT). IsLeftGrown growth m t told) same is))
