-- A changed table is the planned one.
use Rattle.std.proofs.Common.{◌≡◌, ℕ, Bool, subst}
use Rattle.std.specs.Prelude.{Option, Result, IfOk}
use Rattle.std.proofs.lemmas.Result.{IfOk-weaker}
use Rattle.gptman.specs.Disk.{DiskState}
use Rattle.gptman.specs.declared.table.GPT.{GPT}
use Rattle.gptman_change.specs.Changes.{AnswersChange}
use Rattle.gptman_change.specs.Changes.AnswersChange.{is_left, is_written}
use Rattle.gptedit_core.specs.FittedReshaping.{FittedShapesAddNothing, FittedShapesReachEnd, IsBoth, IsLeftBoth, IsWrittenBoth, RefusesBoth}
use Rattle.gptedit_core.specs.Fitting.{FittedRequestsAddNothing, FittedRequestsReachEnd, FittingKeepsEntries, IsLeftFitted, IsPlannedFitted, IsWrittenFitted, RefusesFitted}
use Rattle.gptedit_core.specs.Planning.{IsLeftAs, IsNeeded, IsWrittenAs}
use Rattle.gptedit_core.specs.Planning.IsLeftAs.{is_dry, is_refused, is_unchanged}
use Rattle.gptedit_core.specs.Reshaping.{IsLeftReshaped, IsReshaped, IsWrittenReshaped, RefusesReshaped, ReshapedRequestsAddNothing, ReshapedTablesHaveShape}
use Rattle.gptedit_core.specs.declared.fitted_reshaping.FittedReshapedRequest.{FittedReshapedRequest}
use Rattle.gptedit_core.specs.declared.fitting.FittedRequest.{FittedRequest}
use Rattle.gptedit_core.specs.declared.plan.Outcome.{Outcome}
use Rattle.gptedit_core.specs.declared.plan.Outcome.TheVariants.{Changed}
use Rattle.gptedit_core.specs.declared.refusal.Refusal.{Refusal}
use Rattle.gptedit_core.specs.declared.reshaping.ReshapedRequest.{ReshapedRequest}
use Rattle.test_laws.specs.Outcomes.{IsNewEnd, IsNewShape, IsOfSameEntries, IsOwnChange, IsOwnRefit, IsOwnReshape}

module _ (P N : GPT → GPT → Type 0) (R : GPT → Refusal → Type 0) (dry : Bool) where
  of_tables : (g h was next : GPT) (told : Outcome) → P g h → told ≡ Changed g h → told ≡ Changed was next → P was next
  of_tables g h was next told planned is same =
      let first : g ≡ was = cc (is, same) in
      let second : h ≡ next = cc (is, same) in
      subst (P was) second (subst (λ (m : GPT). P m h) first planned)

  of_left : (g was next : GPT) (told : Outcome) → IsLeftAs P N R dry g told → told ≡ Changed was next → P was next
  of_left g was next told (is_refused r why is) same = absurd (cc (is, same))
  of_left g was next told (is_unchanged h made none is) same = absurd (cc (is, same))
  of_left g was next told (is_dry h made needed dry is) same = of_tables g h was next told made is same

  planned : (size : Option ℕ) (a d : DiskState) (told : Outcome) → AnswersChange (IsWrittenAs P N dry) (IsLeftAs P N R dry) size told a d
      → (was next : GPT) → told ≡ Changed was next → P was next
  planned size a d told (is_written is) was next same = of_tables is.table is.next was next told is.made.planned is.made.outcome same
  planned size a d told (is_left is) was next same = of_left is.table was next told is.answered same

-- A request for a fitted table.
module _ (fitted : FittedRequest) (len : ℕ) {E : Type 0} (size : Option ℕ) (a d : DiskState) (r : Result Outcome E) where
  abbrev Answers : Outcome → Type 0
  Answers told = AnswersChange (IsWrittenFitted fitted len) (IsLeftFitted fitted len) size told a d

  made : (told : Outcome) → Answers told → (was next : GPT) → told ≡ Changed was next → IsPlannedFitted fitted.request len was next
  made = planned (IsPlannedFitted fitted.request len) (IsNeeded fitted.request.job) (RefusesFitted fitted.request len) fitted.request.is_dry size a d

  pub all_end : FittedRequestsReachEnd → IfOk r Answers → IfOk r (IsNewEnd len)
  all_end law answers = IfOk-weaker r Answers (IsNewEnd len) (λ told is was next same. law fitted.request len was next (made told is was next same)) answers

  pub all_own : FittedRequestsAddNothing → IfOk r Answers → IfOk r (IsOwnChange fitted.request len)
  all_own law answers =
      IfOk-weaker r Answers (IsOwnChange fitted.request len) (λ told is was next same ends. law fitted.request len was next ends (made told is was next same)) answers

  pub all_of_same : FittingKeepsEntries → IfOk r Answers → IfOk r (IsOfSameEntries fitted.request len)
  all_of_same law answers =
      IfOk-weaker r Answers (IsOfSameEntries fitted.request len)
      (λ told is was next same. let whole = made told is was next same in (whole.mid, (law len was whole.mid whole.fitted).1, whole.planned)) answers

-- A request for a reshaped table.
module _ (reshaped : ReshapedRequest) (len : ℕ) {E : Type 0} (size : Option ℕ) (a d : DiskState) (r : Result Outcome E) where
  abbrev AnswersOf : Outcome → Type 0
  AnswersOf told = AnswersChange (IsWrittenReshaped reshaped len) (IsLeftReshaped reshaped len) size told a d

  shaped : (told : Outcome) → AnswersOf told → (was next : GPT) → told ≡ Changed was next → IsReshaped reshaped len was next
  shaped = planned (IsReshaped reshaped len) (IsNeeded reshaped.request.job) (RefusesReshaped reshaped len) reshaped.request.is_dry size a d

  pub all_shaped : ReshapedTablesHaveShape → IfOk r AnswersOf → IfOk r (IsNewShape reshaped.shape len)
  all_shaped law answers =
      IfOk-weaker r AnswersOf (IsNewShape reshaped.shape len) (λ told is was next same. law reshaped len was next (shaped told is was next same)) answers

  pub all_own_reshaped : ReshapedRequestsAddNothing → IfOk r AnswersOf → IfOk r (IsOwnReshape reshaped len)
  all_own_reshaped law answers =
      IfOk-weaker r AnswersOf (IsOwnReshape reshaped len) (λ told is was next same has. law reshaped len was next has (shaped told is was next same)) answers

-- A request for a table that is fitted and reshaped.
module _ (both : FittedReshapedRequest) (len : ℕ) {E : Type 0} (size : Option ℕ) (a d : DiskState) (r : Result Outcome E) where
  abbrev AnswersBoth : Outcome → Type 0
  AnswersBoth told = AnswersChange (IsWrittenBoth both len) (IsLeftBoth both len) size told a d

  refitted : (told : Outcome) → AnswersBoth told → (was next : GPT) → told ≡ Changed was next → IsBoth both.reshaped len was next
  refitted = planned (IsBoth both.reshaped len) (IsNeeded both.reshaped.request.job) (RefusesBoth both.reshaped len) both.reshaped.request.is_dry size a d

  pub all_refitted : FittedShapesReachEnd → IfOk r AnswersBoth → IfOk r (IsNewShape both.reshaped.shape len)
  all_refitted law answers =
      IfOk-weaker r AnswersBoth (IsNewShape both.reshaped.shape len) (λ told is was next same. law both.reshaped len was next (refitted told is was next same)) answers

  pub all_own_refitted : FittedShapesAddNothing → IfOk r AnswersBoth → IfOk r (IsOwnRefit both.reshaped len)
  all_own_refitted law answers =
      IfOk-weaker r AnswersBoth (IsOwnRefit both.reshaped len) (λ told is was next same ends. law both.reshaped len was next ends (refitted told is was next same)) answers
