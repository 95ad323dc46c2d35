-- The facts that a task records have at most one proof each.
use Rattle.std.specs.Prelude.{ℕ, Option, None, Some}
use Rattle.std.specs.Coded.{Unit-prop, le_prop}
use Rattle.gptedit_core.specs.Making.{has_random_for}
use Rattle.gptedit_core.specs.Planning.{asks_random}
use Rattle.gptedit_core.specs.declared.asked.RequestedLayout.{RequestedLayout}
use Rattle.gptedit_core.specs.declared.plan.Job.{Job}
use Rattle.gptedit_core.specs.declared.plan.Job.TheVariants.{Apply, Sort, Rewrite}

pub asks_random-prop : (job : Job) (n : ℕ) → IsProp (asks_random job n)
asks_random-prop (Apply layout) n = le_prop
asks_random-prop Sort n = Unit-prop
asks_random-prop Rewrite n = Unit-prop

pub has_random_for-prop : (layout : Option RequestedLayout) (n : ℕ) → IsProp (has_random_for layout n)
has_random_for-prop None n = Unit-prop
has_random_for-prop (Some layout) n = le_prop
