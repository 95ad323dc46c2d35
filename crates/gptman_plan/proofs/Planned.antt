-- The recording disk, in terms of its acts.
use Rattle.std.proofs.Common.{◌≡◌, ⊎_elim, ◌<◌, ℕ, zero, suc, List, [], ◌∷◌, length, refl, sym, ◌∙◌, subst, arith}
use Rattle.gptman.specs.Disk.{DiskState, Elapses}
use Rattle.gptman_plan.specs.Ends.{length-zeroed, zeroed}
use Rattle.std.specs.Prelude.{All}
use Rattle.gptman_plan.specs.Plan.{Act, IsLeftAt, LeftBy, StepFits, acts_of, bytes_after, left_now, pending_after, plan_state}
use Rattle.gptman_plan.specs.declared.ends.Ends.{Ends}
use Rattle.gptman_plan.specs.declared.recording.Recorder.{Recorder}
use Rattle.gptman_plan.specs.declared.record.Record.{Record}
use Rattle.gptman_plan.proofs.Steps.{length-stopped}

-- the disk has these bytes after the acts
pub record IsAfter (start : List ℕ) (acts : List Act) (disk : DiskState) : Type 0 where
  pub view : disk.view ≡ bytes_after start acts
  pub pending : disk.pending ≡ pending_after acts
  pub left : (b : List ℕ) → LeftBy start acts b → disk.left_since 1 b

-- so has a disk that was made with these bytes
is_after : (start start_too : List ℕ) (acts acts_too : List Act) (s p f : ℕ) → start_too ≡ start → acts ≡ acts_too → IsAfter start acts (plan_state start_too acts_too s p f)
is_after start start_too acts acts_too s p f same same_acts =
    let one : IsAfter start acts (plan_state start acts s p f) = record { view = refl; pending = refl; left = λ b left. record { moment = suc left.after; since = omega arith; left = (left.among, left.image) } } in
    subst (λ (x : List ℕ). IsAfter start acts (plan_state x acts_too s p f)) (sym same)
    (subst (λ (l : List Act). IsAfter start acts (plan_state start l s p f)) same_acts one)

-- ---- the recording disk, before the first step and after the last

abbrev pub state_of : Recorder → DiskState
state_of d = plan_state (zeroed d.ends) (acts_of d.plan.bytes.items d.plan.steps.items) d.ends.size d.position d.failures

pub begins_at : (d : Recorder) (ends : Ends) → d.ends ≡ ends → acts_of d.plan.bytes.items d.plan.steps.items ≡ [] → d.position ≡ 0 → d.failures ≡ 0
    → state_of d ≡ plan_state (zeroed ends) [] ends.size 0 0
begins_at d ends is acts position failures = λ i. plan_state (zeroed (is i)) (acts i) (is i).size (position i) (failures i)

ends_after : (e : Recorder) (plan : Record) (start : List ℕ) → zeroed e.ends ≡ start → plan ≡ e.plan
    → IsAfter start (acts_of plan.bytes.items plan.steps.items) (state_of e)
ends_after e plan start same taken =
    is_after start (zeroed e.ends) (acts_of plan.bytes.items plan.steps.items) (acts_of e.plan.bytes.items e.plan.steps.items)
    e.ends.size e.position e.failures same (λ i. acts_of (taken i).bytes.items (taken i).steps.items)

-- ---- the start does not change during the calls

module _ (start : List ℕ) (size : ℕ) (old : DiskState) (e : Recorder) (long : length start ≡ size) (begins : old ≡ plan_state start [] size 0 0) (sized : e.ends.size ≡ size) where
  abbrev now : List ℕ
  now = zeroed e.ends

  length-now : length now ≡ e.ends.size
  length-now = length-zeroed e.ends

  fit : All (StepFits (length now) (length e.plan.bytes.items)) e.plan.steps.items
  fit = subst (λ (n : ℕ). All (StepFits n (length e.plan.bytes.items)) e.plan.steps.items) (e.same ∙ sym length-now) e.plan.held

  -- No crash leaves a byte more than the disk has: such a list may be left only at moment 0,
  marked : (moment : ℕ) → IsLeftAt start [] moment (0 ∷ now) → now ≡ start
  marked zero is = cc
  marked (suc n) left = absurd (omega (arith, (left_now start [] (suc n) (0 ∷ now) (omega arith) left).long, long, length-now, sized))

  -- and not at any moment after it.
  unmarked : (moment : ℕ) → 0 < moment → IsLeftAt now (acts_of e.plan.bytes.items e.plan.steps.items) moment (0 ∷ now) → ⊥
  unmarked zero since left = omega (arith, since)
  unmarked (suc n) since left = omega (arith, left.1.long, length-stopped now e.plan.bytes.items n e.plan.steps.items fit)

  start_stays : Elapses old (state_of e) → now ≡ start
  start_stays time =
      let run : Elapses (plan_state start [] size 0 0) (state_of e) = subst (λ (d : DiskState). Elapses d (state_of e)) begins time in
      ⊎_elim
      (λ before. marked before.moment before.left)
      (λ after. absurd (unmarked after.moment (omega (arith, after.since)) after.left))
      (run.nothing_else 0 (0 ∷ now) (omega arith) (record { moment = 0; since = omega arith; left = refl }))

-- after calls that began with no steps
pub after_calls : (d e : Recorder) (ends : Ends) (plan : Record) → state_of d ≡ plan_state (zeroed ends) [] ends.size 0 0 → d.ends ≡ ends → e.ends.size ≡ d.ends.size
    → Elapses (state_of d) (state_of e) → plan ≡ e.plan → IsAfter (zeroed ends) (acts_of plan.bytes.items plan.steps.items) (state_of e)
after_calls d e ends plan begins is sized time taken =
    ends_after e plan (zeroed ends) (start_stays (zeroed ends) ends.size (state_of d) e (length-zeroed ends) begins (sized ∙ (λ i. (is i).size)) time) taken
