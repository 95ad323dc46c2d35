-- The table that a request makes, and its outcome.
use Rattle.std.proofs.Common.{◌≡◌, ◌∙◌, ◌⊎◌, ◌↔◌, inl, inr, refl, sym, subst, ℕ, Bool, true, false, not, IsTrue}
use Rattle.std.specs.Prelude.{Result, Ok, Err, IfErr, IfOk, OnOk}
use Rattle.gptman.specs.Answers.{IsFailure, Refuses}
use Rattle.gptman.specs.Disk.{DiskState}
use Rattle.gptman.specs.Fault.{Fault, fault_of, io, out_of_memory, overflow}
use Rattle.gptman.specs.Layout.{HasLayout}
use Rattle.gptman.specs.declared.table.GPT.{GPT}
use Rattle.gptman.specs.Error.{Error}
use Rattle.gptman_change.specs.Planning.{AlwaysKeepsPlaces, IsPlannedAs}
use Rattle.gptman_change.specs.declared.Planned.{Planned}
use Rattle.gptman_change.specs.declared.Planned.TheVariants.{Write, Leave}
use Rattle.gptedit_core.specs.Applying.{IsStopOf}
use Rattle.gptedit_core.specs.Planning.{Differs, IsDecided, IsDone, IsLeftAs, IsWritten, IsWrittenAs, RefusesCheck, RefusesRequest}
use Rattle.gptedit_core.specs.Planning.IsLeftAs.{is_dry, is_refused, is_unchanged}
use Rattle.gptedit_core.specs.Planning.RefusesRequest.{not_written}
use Rattle.gptedit_core.specs.declared.plan.Outcome.{Outcome}
use Rattle.gptedit_core.specs.declared.plan.Outcome.TheVariants.{Refused as RefusedOutcome}
use Rattle.gptedit_core.specs.declared.plan.Request.{Request}
use Rattle.gptedit_core.specs.declared.refusal.Refusal.{Refusal}
use Rattle.gptedit_core.specs.declared.refusal.Stop.{Stop}
use Rattle.gptedit_core.specs.declared.refusal.Stop.TheVariants.{Refused, Failed}
use Rattle.gptedit_core.proofs.Kept.{done_places}

-- A refusal by the last check refuses the request.
stop_check : (request : Request) (len : ℕ) (g next : GPT) → HasLayout g len → IsDone request.job request.random.items g next
    → (s : Stop) → IsStopOf (RefusesCheck next) s → IsStopOf (RefusesRequest request len g) s
stop_check request len g next layout done (Refused r) is = not_written next layout done is
stop_check request len g next layout done (Failed e) is = is

pub refused_check : (request : Request) (len : ℕ) (g next : GPT) (r : Result (Unit {0}) Stop) → HasLayout g len → IsDone request.job request.random.items g next
    → IfErr r (IsStopOf (RefusesCheck next)) → IfErr r (IsStopOf (RefusesRequest request len g))
refused_check request len g next (Ok u) layout done is = tt
refused_check request len g next (Err s) layout done is = stop_check request len g next layout done s is

-- The outcome of a plan that makes another table.
module _ (P N : GPT → GPT → Type 0) (R : GPT → Refusal → Type 0) (dry needed : Bool) (g next new : GPT) (planned : P g next) (need : N g next ↔ IsTrue needed) where
  is_needed : needed ≡ true → N g next
  is_needed same = need.1 same

  decided_as : (answer : Planned Outcome) → IsDecided needed dry g next new answer → IsPlannedAs (IsWrittenAs P N dry) (IsLeftAs P N R dry) g new answer
  decided_as (Write answer) is =
      subst (λ (m : GPT). IsWrittenAs P N dry g m answer) (sym is.0) (record { planned = planned; needed = is_needed is.2; wet = is.1; outcome = is.3 })
  decided_as (Leave answer) (same, inl unchanged) = is_unchanged next planned (λ yes. let true_now : needed ≡ true = need.0 yes in absurd (cc (true_now, unchanged.0))) unchanged.1
  decided_as (Leave answer) (same, inr only) = is_dry next planned (is_needed only.1) only.0 only.2

  pub all_decided : (r : Result (Planned Outcome) Error) → IfOk r (IsDecided needed dry g next new)
      → IfOk r (IsPlannedAs (IsWrittenAs P N dry) (IsLeftAs P N R dry) g new)
  all_decided (Ok answer) is = decided_as answer is
  all_decided (Err e) is = tt

-- The outcome of a refusal.
pub all_refused : (P N : GPT → GPT → Type 0) (R : GPT → Refusal → Type 0) (dry : Bool) (g : GPT) (refusal : Refusal) → R g refusal → (r : Result (Planned Outcome) Error)
    → IfOk r (λ planned. planned ≡ Leave (RefusedOutcome g refusal)) → IfOk r (IsPlannedAs (IsWrittenAs P N dry) (IsLeftAs P N R dry) g g)
all_refused P N R dry g refusal is (Ok planned) told = subst (IsPlannedAs (IsWrittenAs P N dry) (IsLeftAs P N R dry) g g) (sym told) (is_refused refusal is refl)
all_refused P N R dry g refusal is (Err e) told = tt

-- An overflow is not a failure of the disk.
pub no_failure : (P : Type 0) (fault : Fault) (old new : DiskState) → fault ≡ overflow → ((fault ≡ overflow) × P) ⊎ IsFailure fault old new → P
no_failure P fault old new is (inl small) = small.1
no_failure P fault old new is (inr failure) = let other : fault ≡ io = failure.0 in absurd (cc)

-- An allocation failure is no failure of the disk.
pub memory_is_no_io : {T : Type 0} (r : Result T Error) → IfErr r (λ e. fault_of e ≡ out_of_memory) → Refuses r io → ⊥
memory_is_no_io (Ok x) memory failed = failed
memory_is_no_io (Err e) memory failed = let same : out_of_memory ≡ io = sym memory ∙ failed in absurd (cc)

-- The tables differ, by the result of a comparison.
pub differs : (same : Bool) (g next : GPT) → IsTrue same ↔ (g ≡ next) → Differs g next ↔ IsTrue (not same)
differs true g next is = (λ no. absurd (no (is.0 refl)), λ yes. absurd (cc yes))
differs false g next is = (λ no. refl, λ yes same. absurd (cc (is.1 same)))

-- The resulting table has each property that both tables have.
module _ (Q : GPT → Type 0) (dry needed : Bool) (g next new : GPT) (has : Q g) (next_has : Q next) where
  new_has : (answer : Planned Outcome) → IsDecided needed dry g next new answer → Q new
  new_has (Write answer) is = subst Q (sym is.0) next_has
  new_has (Leave answer) is = subst Q (sym is.0) has

  pub all_have : (r : Result (Planned Outcome) Error) → IfOk r (IsDecided needed dry g next new) → OnOk r (Q new)
  all_have (Ok answer) is = new_has answer is
  all_have (Err e) is = tt

-- The written table keeps the places of the old one.
pub written_keeps : (request : Request) (len : ℕ) → AlwaysKeepsPlaces (IsWritten request len)
written_keeps request len table next answer is = done_places request.job request.random.items table next is.planned.done
