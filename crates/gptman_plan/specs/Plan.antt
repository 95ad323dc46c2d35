-- The steps of a plan: their effect on the bytes of a disk, and what a crash between or within them leaves.
use Rattle.std.specs.Prelude.{◌≡◌, ◌<◌, ◌≤◌, ◌⊎◌, ◌+◌, ℕ, nat_eq, All, List, [], ◌∷◌, length, take, map, if◌then◌else◌}
use Rattle.std.specs.List.{fold, slice_index_or}
use Rattle.gptman.specs.Bytes.{part}
use Rattle.gptman.specs.Disk.{DiskState, IsSound, AgreesOutside, overlay}
use Rattle.gptman_plan.specs.declared.records.Step.{Step}
use Rattle.std.proofs.Common.{inl, inr, true, suc, zero, subst, sym, ◌∙◌, le_of_suc-le-suc, le_refl, le_trans, lt_irrefl, lt-suc_self, not-suc-le-zero}
use Rattle.std.proofs.Math.Nat.{ℕ_set}
use Rattle.std.proofs.lemmas.List.{take_all}

-- An act on a disk: writing bytes from a place, or a sync.
pub data Act : Type 0 where
  put : (at : ℕ) (bytes : List ℕ) → Act
  store : Act

-- ---- steps

-- The step is within a disk of `size` bytes, and its bytes within an array of `filled` bytes.
pub record StepFits (size filled : ℕ) (step : Step) : Type 0 where
  pub on_disk : step.offset + step.length ≤ size
  pub held : step.start + step.length ≤ filled

-- the step is a write, 1, or a sync, 2
abbrev pub IsWriteOrSync : Step → Type 0
IsWriteOrSync step = (step.kind ≡ 1) ⊎ (step.kind ≡ 2)

-- the bytes of a step, in the array
abbrev pub bytes_of : List ℕ → Step → List ℕ
bytes_of buffer step = part buffer step.start step.length

-- the act of a step
abbrev pub step_act : List ℕ → Step → Act
step_act buffer step = if nat_eq step.kind 2 then store else put step.offset (bytes_of buffer step)

-- the acts of steps, in order
abbrev pub acts_of : (buffer : List ℕ) (steps : List Step) → List Act
acts_of buffer steps = map (step_act buffer) steps

-- ---- the disk

-- the bytes that a read returns after an act
abbrev pub bytes_with : List ℕ → Act → List ℕ
bytes_with old (put at bytes) = overlay old at bytes
bytes_with old store = old

-- the pending ranges, each a start and a length, after an act: a crash may leave any bytes there
abbrev pub pending_with : List (ℕ × ℕ) → Act → List (ℕ × ℕ)
pending_with ranges (put at bytes) = (at, length bytes) ∷ ranges
pending_with ranges store = []

-- the bytes that a read returns after all acts
abbrev pub bytes_after : (start : List ℕ) (acts : List Act) → List ℕ
bytes_after start acts = fold bytes_with start acts

-- the pending ranges after all acts, the newest first
abbrev pub pending_after : List Act → List (ℕ × ℕ)
pending_after acts = fold pending_with [] acts

-- ---- stops

-- A crash right after the acts, or within the last one, may leave b: any bytes in the pending ranges, and elsewhere
-- what a read returns.
abbrev pub IsImage : List ℕ → List Act → List ℕ → Type 0
IsImage start acts b = AgreesOutside (pending_after acts) (bytes_after start acts) b

-- A crash between or within the acts may leave b, after some of them.
pub record LeftBy (start : List ℕ) (acts : List Act) (b : List ℕ) : Type 0 where
  pub after : ℕ
  pub among : after ≤ length acts
  pub image : IsImage start (take after acts) b

-- A crash at this moment of the clock may leave b. The clock starts at 1, and each act takes one moment. Moment 0
-- identifies the start: it has the start with a zero byte before it, which no crash leaves.
abbrev pub IsLeftAt : List ℕ → List Act → ℕ → List ℕ → Type 0
IsLeftAt start acts zero b = b ≡ 0 ∷ start
IsLeftAt start acts (suc n) b = (n ≤ length acts) × IsImage start (take n acts) b

-- the same at some moment from t on
pub record LeftSince (start : List ℕ) (acts : List Act) (t : ℕ) (b : List ℕ) : Type 0 where
  pub moment : ℕ
  pub since : t ≤ moment
  pub left : IsLeftAt start acts moment b

-- An honest disk that had the bytes `start` at first, after the acts.
abbrev pub plan_state : (start : List ℕ) (acts : List Act) (long at failed : ℕ) → DiskState
plan_state start acts long at failed = record {
  size = long;
  position = at;
  view = bytes_after start acts;
  pending = pending_after acts;
  failures = failed;
  clock = suc (length acts);
  left_since = LeftSince start acts;
  is_honest = true;
}

-- ---- laws

-- There is at most one proof of the kinds of the steps, as a ghost field requires.
pub kinds-prop : (steps : List Step) → IsProp (All IsWriteOrSync steps)
kinds-prop steps p q = λ i k d below. one (slice_index_or steps k d).kind (p k d below) (q k d below) i
  where
    one : (kind : ℕ) → IsProp ((kind ≡ 1) ⊎ (kind ≡ 2))
    one kind (inl a) (inl b) = λ i. inl (ℕ_set kind 1 a b i)
    one kind (inl a) (inr b) = absurd (lt_irrefl 2 (subst (λ (n : ℕ). n < 2) (sym a ∙ b) (lt-suc_self 1)))
    one kind (inr a) (inl b) = absurd (lt_irrefl 2 (subst (λ (n : ℕ). n < 2) (sym b ∙ a) (lt-suc_self 1)))
    one kind (inr a) (inr b) = λ i. inr (ℕ_set kind 2 a b i)

-- Only an image of now may be left at the last moment.
pub left_now : (start : List ℕ) (acts : List Act) (moment : ℕ) (b : List ℕ) → length acts < moment → IsLeftAt start acts moment b → IsImage start acts b
left_now start acts zero b last left = absurd (not-suc-le-zero last)
left_now start acts (suc n) b last left = subst (λ (l : List Act). IsImage start l b) (take_all n acts (le_of_suc-le-suc last)) left.1

-- The laws of an honest disk hold for it.
pub plan_sound : (start : List ℕ) (acts : List Act) (long at failed : ℕ) → length (bytes_after start acts) ≡ long → IsSound (plan_state start acts long at failed)
plan_sound start acts long at failed is_long = record {
  size = is_long;
  counts_now = λ t b until image. record { moment = suc (length acts); since = until; left = (le_refl (length acts), subst (λ (l : List Act). IsImage start l b) (sym all) image) };
  only_now = λ b was. left_now start acts was.moment b was.since was.left;
  earlier = λ t u b le was. record { moment = was.moment; since = le_trans le was.since; left = was.left };
}
  where
    all : take (length acts) acts ≡ acts
    all = take_all (length acts) acts (le_refl (length acts))
