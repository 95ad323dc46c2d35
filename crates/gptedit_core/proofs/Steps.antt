-- Two steps, each of which may be refused.
use Rattle.std.proofs.Common.{◌≡◌, refl, Bool, true, false, IsTrue}
use Rattle.std.specs.Prelude.{Result, Ok, Err, if◌then◌else◌}
use Rattle.gptedit_core.specs.Resolving.{and_then}
use Rattle.gptedit_core.specs.declared.refusal.Refusal.{Refusal}

-- Both steps returned a value.
pub and_then_ok : {A B : Type 0} (r : Result A Refusal) (f : A → Result B Refusal) (b : B) → and_then r f ≡ Ok b → (a : A) × (r ≡ Ok a) × (f a ≡ Ok b)
and_then_ok (Ok a) f b is = (a, refl, is)
and_then_ok (Err e) f b is = absurd (cc)

pub else_ok : {A : Type 0} (test : Bool) (r : Refusal) (x p : A) → (if test then Err r else Ok x) ≡ Ok p → (¬ IsTrue test) × (x ≡ p)
else_ok true r x p is = absurd (cc)
else_ok false r x p is = let same : x ≡ p = cc in (λ yes. absurd (cc), same)
