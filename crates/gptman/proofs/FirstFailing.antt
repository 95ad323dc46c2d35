-- Tests in order. The first that fails determines the fault.
use Rattle.std.proofs.Common.{◌≡◌, ◌⊎◌, ◌||◌, ◌++◌, ℕ, Bool, true, false, List, [], ◌∷◌, eqb, Some, None, refl, ap, ◌∙◌, inl, inr}
use Rattle.std.proofs.lemmas.Bool.{eq-eqb, or_left, or_right}
use Rattle.std.specs.Prelude.{if◌then◌else◌}
use Rattle.gptman_disk.specs.Fault.{Fault, first_failing}

-- Each test passes.
abbrev pub AllTests : List (Bool × Fault) → Type 0
AllTests [] = Unit {0}
AllTests (test ∷ tests) = (test.0 ≡ true) × AllTests tests

-- Tests that pass have no fault.
pub none_from_tests : (tests : List (Bool × Fault)) → AllTests tests → first_failing tests ≡ None
none_from_tests [] h = refl
none_from_tests (test ∷ tests) h = ap (λ (b : Bool). if b then first_failing tests else Some test.1) h.0 ∙ none_from_tests tests h.1

-- Without a fault each test passes.
pub tests_pass : (tests : List (Bool × Fault)) → first_failing tests ≡ None → AllTests tests
tests_pass [] h = tt
tests_pass (test ∷ tests) h =
    (elim test.0 as (λ b. (if b then first_failing tests else Some test.1) ≡ None → (b ≡ true) × AllTests tests) [
      | true ↦ λ e. (refl, tests_pass tests e)
      | false ↦ λ e. absurd (cc)
    ]) h

-- A test of entries passes if there are none.
pub none_or : (n : ℕ) (t : Bool) (P : Type 0) → (P → t ≡ true) → (n ≡ 0) ⊎ P → (eqb n 0 || t) ≡ true
none_or n t P passes (inl zero) = or_left (eqb n 0) t (eq-eqb n 0 zero)
none_or n t P passes (inr p) = or_right (eqb n 0) t (passes p)

-- Further tests count if the first ones pass,
pub later_tests : (xs ys : List (Bool × Fault)) → first_failing xs ≡ None → first_failing (xs ++ ys) ≡ first_failing ys
later_tests [] ys none = refl
later_tests (x ∷ xs) ys none =
    (elim x.0 as (λ b. (if b then first_failing xs else Some x.1) ≡ None → (if b then first_failing (xs ++ ys) else Some x.1) ≡ first_failing ys) [
      | true ↦ λ e. later_tests xs ys e
      | false ↦ λ e. absurd (cc)
    ]) none

-- and do not if one of those fails.
pub first_tests : (xs ys : List (Bool × Fault)) (fault : Fault) → first_failing xs ≡ Some fault → first_failing (xs ++ ys) ≡ Some fault
first_tests [] ys fault some = absurd (cc)
first_tests (x ∷ xs) ys fault some =
    (elim x.0 as (λ b. (if b then first_failing xs else Some x.1) ≡ Some fault → (if b then first_failing (xs ++ ys) else Some x.1) ≡ Some fault) [
      | true ↦ λ e. first_tests xs ys fault e
      | false ↦ λ e. e
    ]) some
