-- The code that fits a header computes the definition.
use Rattle.std.proofs.Common.{◌≡◌, ◌≢◌, ◌/◌, ◌||◌, ℕ, Bool, Option, Some, None, sym, ap, inl, inr}
use Rattle.std.specs.Prelude.{if◌then◌else◌}
use Rattle.std.proofs.lemmas.Bool.Decides.{eqb_tells}
use Rattle.gptman_disk.specs.Fault.{Fault, overflow}
use Rattle.gptman.specs.Fit.{array_size, array_sectors, is_too_small, fit_fault}
use Rattle.gptman.specs.declared.codec.header.GPTHeader.{GPTHeader}

-- A header with an array is refused only for the sectors.
pub fit_fault_is : (h : GPTHeader) (ss len : ℕ) → array_size h ≢ 0 → (if is_too_small (len / ss) (array_sectors h ss) then Some overflow else None) ≡ fit_fault h ss len
fit_fault_is h ss len some =
    let chosen : Bool → Option Fault = λ b. if b || is_too_small (len / ss) (array_sectors h ss) then Some overflow else None in
    elim (eqb_tells (array_size h) 0) as (λ _. (if is_too_small (len / ss) (array_sectors h ss) then Some overflow else None) ≡ fit_fault h ss len) [
      | inl zero ↦ absurd (some zero.1)
      | inr not ↦ sym (ap chosen not.0)
    ]
