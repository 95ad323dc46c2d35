-- The steps of a plan and their growing array of bytes.
use Rattle.std.proofs.Common.{◌≡◌, ◌≤◌, inl, true, false, ℕ, ◌+◌, List, [], ◌∷◌, ◌++◌, length, take, drop, refl, ◌∙◌, ap, arith, length-append, length-drop}
use Rattle.std.specs.Prelude.{All, nat_eq, if◌then◌else◌}
use Rattle.std.proofs.lemmas.List.{length-take-le, map_push, take_all}
use Rattle.std.proofs.lemmas.List.Elements.{All-head, All-push, All-tail, All-weaker}
use Rattle.std.proofs.Math.Seq.{drop-append_seam}
use Rattle.gptman_plan.specs.Plan.{StepFits, acts_of, bytes_after, bytes_of, step_act}
use Rattle.gptman_plan.specs.Plan.Act.{put, store}
use Rattle.gptman_plan.specs.declared.records.Step.{Step}
use Rattle.gptman_plan.proofs.Known.{part_left}
use Rattle.gptman_plan.proofs.Middle.{AreKnown, IsActKnown, known_take, length-view}

module _ (size : ℕ) (buffer more : List ℕ) where
  -- steps that fit an array fit a longer one,
  pub fit_longer : (steps : List Step) → All (StepFits size (length buffer)) steps → All (StepFits size (length (buffer ++ more))) steps
  fit_longer steps fit = All-weaker (StepFits size (length buffer)) (StepFits size (length (buffer ++ more)))
      (λ s fits. record { on_disk = fits.on_disk; held = omega (arith, fits.held, length-append buffer more) }) steps fit

  -- with the same acts,
  pub acts_longer : (steps : List Step) → All (StepFits size (length buffer)) steps → acts_of (buffer ++ more) steps ≡ acts_of buffer steps
  acts_longer [] fit = refl
  acts_longer (s ∷ steps) fit = λ i. one s (All-head (StepFits size (length buffer)) s steps fit) i ∷ acts_longer steps (All-tail (StepFits size (length buffer)) s steps fit) i
    where
      one : (s : Step) → StepFits size (length buffer) s → step_act (buffer ++ more) s ≡ step_act buffer s
      one s fits = ap (λ (bytes : List ℕ). if nat_eq s.kind 2 then store else put s.offset bytes) (part_left buffer more s.start s.length fits.held)

  -- and the step for the added bytes adds their write
  module _ (at : ℕ) where
    abbrev pub write_of_more : Step
    write_of_more = record { kind = 1; offset = at; length = length more; start = length buffer }

    pub fit_write : (steps : List Step) → All (StepFits size (length buffer)) steps → at + length more ≤ size → All (StepFits size (length (buffer ++ more))) (steps ++ write_of_more ∷ [])
    fit_write steps fit there = All-push (StepFits size (length (buffer ++ more))) steps write_of_more (fit_longer steps fit)
        (record { on_disk = there; held = omega (arith, length-append buffer more) })

    pub acts_write : (steps : List Step) → All (StepFits size (length buffer)) steps → acts_of (buffer ++ more) (steps ++ write_of_more ∷ []) ≡ acts_of buffer steps ++ put at more ∷ []
    acts_write steps fit =
        let its_bytes : bytes_of (buffer ++ more) write_of_more ≡ more = ap (take (length more)) (drop-append_seam buffer more) ∙ take_all (length more) more (omega arith) in
        map_push (step_act (buffer ++ more)) steps write_of_more ∙ (λ i. acts_longer steps fit i ++ put at (its_bytes i) ∷ [])

-- ---- the length of the disk

-- With the whole disk as its first end, acts within it are known and keep its length.
known_put : (size at : ℕ) (bytes : List ℕ) → at + length bytes ≤ size → IsActKnown size 0 size (put at bytes)
known_put size at [] there = tt
known_put size at (x ∷ bytes) there = inl there

known_step : (size : ℕ) (buffer : List ℕ) (s : Step) → StepFits size (length buffer) s → IsActKnown size 0 size (step_act buffer s)
known_step size buffer s fits =
    let long : length (bytes_of buffer s) ≡ s.length = length-take-le s.length (drop s.start buffer) (omega (arith, fits.held, length-drop s.start buffer)) in
    elim (nat_eq s.kind 2) as (λ sync. IsActKnown size 0 size (if sync then store else put s.offset (bytes_of buffer s)))
    [ true ↦ tt | false ↦ known_put size s.offset (bytes_of buffer s) (omega (arith, fits.on_disk, long)) ]

known_steps : (size : ℕ) (buffer : List ℕ) (steps : List Step) → All (StepFits size (length buffer)) steps → AreKnown size 0 size (acts_of buffer steps)
known_steps size buffer [] fit = tt
known_steps size buffer (s ∷ steps) fit =
    (known_step size buffer s (All-head (StepFits size (length buffer)) s steps fit), known_steps size buffer steps (All-tail (StepFits size (length buffer)) s steps fit))

-- if all steps fit, the length is unchanged after some of them
pub length-stopped : (disk buffer : List ℕ) (n : ℕ) (steps : List Step) → All (StepFits (length disk) (length buffer)) steps → length (bytes_after disk (take n (acts_of buffer steps))) ≡ length disk
length-stopped disk buffer n steps fit =
    let size : ℕ = length disk in
    length-view size 0 size (omega arith) disk (take n (acts_of buffer steps)) refl
    (known_take size 0 size (omega arith) n (acts_of buffer steps) (known_steps size buffer steps fit))
