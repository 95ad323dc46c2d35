-- The table that a reshaped request makes of a table that is first fitted to the length of its disk.
use Rattle.std.specs.Prelude.{◌≡◌, ℕ, Some, None}
use Rattle.gptman.specs.Fault.{overflow}
use Rattle.gptman.specs.Fit.{fit_fault}
use Rattle.gptman.specs.Layout.{HasLayout}
use Rattle.gptman.specs.declared.table.GPT.{GPT}
use Rattle.gptedit_core.specs.Growing.{EndsAt, IsFitted, IsGrown}
use Rattle.gptedit_core.specs.Planning.{IsLeftAs, IsNeeded, IsWrittenAs}
use Rattle.gptedit_core.specs.Reshaping.{has_random_reshaped, HasShape, IsReshaped, RefusesReshaped}
use Rattle.gptedit_core.specs.declared.fitted_reshaping.FittedReshapedRequest.{FittedReshapedRequest}
use Rattle.gptedit_core.specs.declared.growth.Bounds.TheVariants.{Kept}
use Rattle.gptedit_core.specs.declared.plan.Outcome.{Outcome}
use Rattle.gptedit_core.specs.declared.refusal.Refusal.{Refusal}
use Rattle.gptedit_core.specs.declared.refusal.Refusal.TheVariants.{TooSmall}
use Rattle.gptedit_core.specs.declared.reshaping.ReshapedRequest.{ReshapedRequest}

-- There are enough random GUIDs for the request.
abbrev pub has_random_both : FittedReshapedRequest → Type 0
has_random_both both = has_random_reshaped both.reshaped

-- A reshaped request makes next of g on a disk of len bytes: g is fitted to the disk, and the request makes next of that.
-- The table between the two need not be one that may be written.
pub record IsBoth (reshaped : ReshapedRequest) (len : ℕ) (g next : GPT) : Type 0 where
  pub fits : fit_fault g.header g.sector_size len ≡ None
  pub mid : GPT
  pub fitted : IsFitted Kept len g mid
  pub made : IsReshaped reshaped len mid next

-- A request is refused on a disk of len bytes: the disk is too small, or the request is refused for the fitted table.
pub data RefusesBoth (reshaped : ReshapedRequest) (len : ℕ) (g : GPT) (r : Refusal) : Type 0 where
  too_small : fit_fault g.header g.sector_size len ≡ Some overflow → r ≡ TooSmall → RefusesBoth reshaped len g r
  not_reshaped : fit_fault g.header g.sector_size len ≡ None → (mid : GPT) → IsFitted Kept len g mid → RefusesReshaped reshaped len mid r → RefusesBoth reshaped len g r

-- The table that is written and its outcome; the outcome if nothing is written.
abbrev pub IsWrittenBoth : FittedReshapedRequest → ℕ → GPT → GPT → Outcome → Type 0
IsWrittenBoth both len = IsWrittenAs (IsBoth both.reshaped len) (IsNeeded both.reshaped.request.job) both.reshaped.request.is_dry

abbrev pub IsLeftBoth : FittedReshapedRequest → ℕ → GPT → Outcome → Type 0
IsLeftBoth both len =
    IsLeftAs (IsBoth both.reshaped len) (IsNeeded both.reshaped.request.job) (RefusesBoth both.reshaped len) both.reshaped.request.is_dry

-- ---- consequences

-- The table that is made has the shape, and has the stated layout on the disk: it ends where the disk does.
abbrev pub FittedShapesReachEnd : Type 0
FittedShapesReachEnd = (reshaped : ReshapedRequest) (len : ℕ) (g next : GPT) → IsBoth reshaped len g next → HasShape reshaped.shape next × HasLayout next len

-- For a table that ends where the disk does it is the table that the reshaped request makes.
abbrev pub FittedShapesAddNothing : Type 0
FittedShapesAddNothing = (reshaped : ReshapedRequest) (len : ℕ) (g next : GPT) → EndsAt len g → IsBoth reshaped len g next → IsReshaped reshaped len g next

-- A growth and then the reshaped request make it in two writes, if the growth is not refused.
abbrev pub FittedShapesAreBoth : Type 0
FittedShapesAreBoth = (reshaped : ReshapedRequest) (len : ℕ) (g mid next : GPT) → IsGrown Kept len g mid → IsReshaped reshaped len mid next → IsBoth reshaped len g next
