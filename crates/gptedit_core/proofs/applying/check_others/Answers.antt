use Rattle.std.proofs.Common.{◌≡◌, ℕ, refl, subst, sym, Bool, true, false, IsTrue}
use Rattle.std.specs.Prelude.{Option, Some, None}
use Rattle.gptedit_core.specs.Applying.{lowest_used, others_fault_of}
use Rattle.gptedit_core.specs.declared.asked.Mode.{Mode}
use Rattle.gptedit_core.specs.declared.asked.Mode.TheVariants.{Become}
use Rattle.gptedit_core.specs.declared.refusal.Refusal.{Refusal}
use Rattle.gptedit_core.proofs.applying.check_others.Goals as goal

-- A table that may be replaced is not refused.
nothing : (used : Option ℕ) → ◌≡◌ {A = Option Refusal} None (others_fault_of (Become true) used)
nothing None = refl
nothing (Some i) = refl

replaced : (mode : Mode) (replace : Bool) (used : Option ℕ) → mode ≡ Become replace → IsTrue replace → ◌≡◌ {A = Option Refusal} None (others_fault_of mode used)
replaced mode true used is may = subst (λ (m : Mode). ◌≡◌ {A = Option Refusal} None (others_fault_of m used)) (sym is) (nothing used)
replaced mode false used is may = absurd (cc)

pub returns-in-Become-true : goal.returns-in-Become-true
returns-in-Become-true c = replaced c.args.mode c.in-Become-true.replace (lowest_used c.args.table.now) c.in-Become-true.is c.in-Become-true.replace-test
