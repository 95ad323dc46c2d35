-- The outcome for a table that is fitted to its disk.
use Rattle.std.proofs.Common.{◌≡◌, ℕ, Bool, true, false, refl, sym, subst}
use Rattle.std.specs.Prelude.{Option, Result, IfOk}
use Rattle.std.specs.Bool.{Decides}
use Rattle.std.proofs.lemmas.Bool.Decides.{not_from_Decides}
use Rattle.std.proofs.lemmas.Result.{IfOk-weaker}
use Rattle.gptman.specs.Disk.{DiskState}
use Rattle.gptman.specs.declared.table.GPT.{GPT}
use Rattle.gptman.proofs.Equal.{table_decides}
use Rattle.gptman_change.specs.Changes.{AnswersChange}
use Rattle.gptman_change.specs.Changes.AnswersChange.{is_left, is_written}
use Rattle.gptedit_core.specs.Growing.{EndsAt, GrowthsKeepFirst, GrowthsLeaveEnds, GrowthsReachEnd, IsGrown, IsLeftGrown, IsWrittenGrown, UsualBoundsReachEnd}
use Rattle.gptedit_core.specs.Planning.{Differs}
use Rattle.gptedit_core.specs.Planning.IsLeftAs.{is_dry, is_refused, is_unchanged}
use Rattle.gptedit_core.specs.declared.growth.Bounds.{Bounds}
use Rattle.gptedit_core.specs.declared.growth.Bounds.TheVariants.{Kept, Usual}
use Rattle.gptedit_core.specs.declared.growth.Growth.{Growth}
use Rattle.gptedit_core.specs.declared.plan.Outcome.{Outcome}
use Rattle.test_laws.specs.Outcomes.{HasAllUsable, IsFitOutcome, IsOnDisk, IsWideOutcome}

-- ---- tables that do not differ

stable : {P : Type 0} (test : Bool) → Decides test P → ¬ (¬ P) → P
stable true is why = is.0 refl
stable false is why = absurd (why (not_from_Decides false is refl))

same_table : (g next : GPT) → ¬ Differs g next → g ≡ next
same_table g next same = stable _ (table_decides g next) same

ends_there : (bounds : Bounds) (len : ℕ) (g next : GPT) → IsGrown bounds len g next → EndsAt len next
ends_there bounds len g next is = record { low = is.layout.table.low_sector; high = is.layout.table.high_sector }

-- ---- with the bounds kept

abbrev pub keeping : Growth
keeping = record { bounds = Kept; is_dry = false }

module _ (reach : GrowthsReachEnd) (leave : GrowthsLeaveEnds) (keep : GrowthsKeepFirst) (len : ℕ) where
  fit_written : (g next : GPT) (told : Outcome) → IsWrittenGrown keeping len g next told → IsFitOutcome len told
  fit_written g next told is =
      subst (IsFitOutcome len) (sym is.outcome) (record {
        reaches = reach len g next is.planned (λ ends. is.needed (sym (leave len g next is.planned ends)));
        first = keep len g next is.planned;
      })

  fit_left : (g : GPT) (told : Outcome) → IsLeftGrown keeping len g told → IsFitOutcome len told
  fit_left g told (is_refused r why is) = subst (IsFitOutcome len) (sym is) why
  fit_left g told (is_unchanged next made same is) =
      subst (IsFitOutcome len) (sym is) (subst (EndsAt len) (sym (same_table g next same)) (ends_there Kept len g next made))
  fit_left g told (is_dry next made needed dry is) = absurd (cc)

  fit_outcome : (size : Option ℕ) (a d : DiskState) (told : Outcome) → AnswersChange (IsWrittenGrown keeping len) (IsLeftGrown keeping len) size told a d → IsFitOutcome len told
  fit_outcome size a d told (is_written is) = fit_written is.table is.next told is.made
  fit_outcome size a d told (is_left is) = fit_left is.table told is.answered

  pub all_fit : {E : Type 0} (size : Option ℕ) (a d : DiskState) (r : Result Outcome E)
      → IfOk r (λ told. AnswersChange (IsWrittenGrown keeping len) (IsLeftGrown keeping len) size told a d) → IfOk r (IsFitOutcome len)
  all_fit size a d r answers = IfOk-weaker r (λ told. AnswersChange (IsWrittenGrown keeping len) (IsLeftGrown keeping len) size told a d) (IsFitOutcome len) (fit_outcome size a d) answers

-- ---- with the usual bounds

abbrev pub widening : Growth
widening = record { bounds = Usual; is_dry = false }

module _ (law : UsualBoundsReachEnd) (len : ℕ) where
  usable : (g next : GPT) → IsGrown Usual len g next → HasAllUsable len g next
  usable g next is = let both = law len g next is in record { reaches = both.0; first = both.1 }

  wide_left : (g : GPT) (told : Outcome) → IsLeftGrown widening len g told → IsWideOutcome len told
  wide_left g told (is_refused r why is) = subst (IsWideOutcome len) (sym is) why
  wide_left g told (is_unchanged next made same is) =
      subst (IsWideOutcome len) (sym is) (subst (λ (m : GPT). HasAllUsable len g m) (sym (same_table g next same)) (usable g next made))
  wide_left g told (is_dry next made needed dry is) = absurd (cc)

  wide_outcome : (size : Option ℕ) (a d : DiskState) (told : Outcome) → AnswersChange (IsWrittenGrown widening len) (IsLeftGrown widening len) size told a d → IsWideOutcome len told
  wide_outcome size a d told (is_written is) = subst (IsWideOutcome len) (sym is.made.outcome) (usable is.table is.next is.made.planned)
  wide_outcome size a d told (is_left is) = wide_left is.table told is.answered

  pub all_wide : {E : Type 0} (size : Option ℕ) (a d : DiskState) (r : Result Outcome E)
      → IfOk r (λ told. AnswersChange (IsWrittenGrown widening len) (IsLeftGrown widening len) size told a d) → IfOk r (IsWideOutcome len)
  all_wide size a d r answers = IfOk-weaker r (λ told. AnswersChange (IsWrittenGrown widening len) (IsLeftGrown widening len) size told a d) (IsWideOutcome len) (wide_outcome size a d) answers

-- ---- the disk afterwards

module _ (bounds : Bounds) (size : Option ℕ) (a d : DiskState) where
  abbrev growing : Growth
  growing = record { bounds = bounds; is_dry = false }

  left_there : (g : GPT) (told : Outcome) → IsLeftGrown growing a.size g told → IsOnDisk d told
  left_there g told (is_refused r why is) = subst (IsOnDisk d) (sym is) tt
  left_there g told (is_unchanged next made same is) = subst (IsOnDisk d) (sym is) tt
  left_there g told (is_dry next made needed dry is) = absurd (cc)

  on_disk : (told : Outcome) → AnswersChange (IsWrittenGrown growing a.size) (IsLeftGrown growing a.size) size told a d → IsOnDisk d told
  on_disk told (is_written is) = subst (IsOnDisk d) (sym is.made.outcome) (is.stored is.made.planned.layout)
  on_disk told (is_left is) = left_there is.table told is.answered

  pub all_on_disk : {E : Type 0} (r : Result Outcome E)
      → IfOk r (λ told. AnswersChange (IsWrittenGrown growing a.size) (IsLeftGrown growing a.size) size told a d) → IfOk r (IsOnDisk d)
  all_on_disk r answers = IfOk-weaker r (λ told. AnswersChange (IsWrittenGrown growing a.size) (IsLeftGrown growing a.size) size told a d) (IsOnDisk d) on_disk answers
