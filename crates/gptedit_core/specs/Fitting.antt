-- The table that a request makes of a table that is first fitted to the length of its disk.
use Rattle.std.specs.Prelude.{◌≡◌, ℕ, Some, None}
use Rattle.gptman.specs.Fault.{overflow}
use Rattle.gptman.specs.Fit.{fit_fault}
use Rattle.gptman.specs.Table.{entries_in}
use Rattle.gptman.specs.declared.table.GPT.{GPT}
use Rattle.gptedit_core.specs.Growing.{EndsAt, HasOthersOf, IsFitted, IsGrown}
use Rattle.gptedit_core.specs.Planning.{has_random, IsLeftAs, IsNeeded, IsPlanned, IsWrittenAs, RefusesRequest}
use Rattle.gptedit_core.specs.declared.fitting.FittedRequest.{FittedRequest}
use Rattle.gptedit_core.specs.declared.growth.Bounds.TheVariants.{Kept}
use Rattle.gptedit_core.specs.declared.plan.Outcome.{Outcome}
use Rattle.gptedit_core.specs.declared.plan.Request.{Request}
use Rattle.gptedit_core.specs.declared.refusal.Refusal.{Refusal}
use Rattle.gptedit_core.specs.declared.refusal.Refusal.TheVariants.{TooSmall}

-- There are enough random GUIDs for the request.
abbrev pub has_random_fitted : FittedRequest → Type 0
has_random_fitted fitted = has_random fitted.request

-- A request makes next of g on a disk of len bytes: g is fitted to the disk, and the request makes next of that. Only
-- next has to be a table that may be written.
pub record IsPlannedFitted (request : Request) (len : ℕ) (g next : GPT) : Type 0 where
  pub fits : fit_fault g.header g.sector_size len ≡ None
  pub mid : GPT
  pub fitted : IsFitted Kept len g mid
  pub planned : IsPlanned request len mid next

-- A request is refused on a disk of len bytes: the disk is too small, or the request is refused for the fitted table.
pub data RefusesFitted (request : Request) (len : ℕ) (g : GPT) (r : Refusal) : Type 0 where
  too_small : fit_fault g.header g.sector_size len ≡ Some overflow → r ≡ TooSmall → RefusesFitted request len g r
  not_planned : fit_fault g.header g.sector_size len ≡ None → (mid : GPT) → IsFitted Kept len g mid → RefusesRequest request len mid r → RefusesFitted request len g r

-- The table that is written and its outcome; the outcome if nothing is written.
abbrev pub IsWrittenFitted : FittedRequest → ℕ → GPT → GPT → Outcome → Type 0
IsWrittenFitted fitted len = IsWrittenAs (IsPlannedFitted fitted.request len) (IsNeeded fitted.request.job) fitted.request.is_dry

abbrev pub IsLeftFitted : FittedRequest → ℕ → GPT → Outcome → Type 0
IsLeftFitted fitted len =
    IsLeftAs (IsPlannedFitted fitted.request len) (IsNeeded fitted.request.job) (RefusesFitted fitted.request len) fitted.request.is_dry

-- ---- consequences

-- The table that is made ends where the disk does.
abbrev pub FittedRequestsReachEnd : Type 0
FittedRequestsReachEnd = (request : Request) (len : ℕ) (g next : GPT) → IsPlannedFitted request len g next → EndsAt len next

-- For a table that ends where the disk does it is the table that the request alone makes.
abbrev pub FittedRequestsAddNothing : Type 0
FittedRequestsAddNothing = (request : Request) (len : ℕ) (g next : GPT) → EndsAt len g → IsPlannedFitted request len g next → IsPlanned request len g next

-- A growth and then the request make it in two writes, if the growth is not refused.
abbrev pub FittedRequestsAreBoth : Type 0
FittedRequestsAreBoth = (request : Request) (len : ℕ) (g mid next : GPT) → IsGrown Kept len g mid → IsPlanned request len mid next → IsPlannedFitted request len g next

-- Fitting a table changes no entry.
abbrev pub FittingKeepsEntries : Type 0
FittingKeepsEntries = (len : ℕ) (g mid : GPT) → IsFitted Kept len g mid → HasOthersOf g mid × (entries_in mid ≡ entries_in g)
