-- A request for a table that is first fitted to its disk and then gets another shape.
use Rattle.std.proofs.Common.{◌≡◌, ◌⊎◌, ◌∙◌, ℕ, inl, inr, None, Option, subst, sym, ap}
use Rattle.std.specs.Prelude.{Result, Ok, Err, IfErr, IfOk}
use Rattle.gptman.specs.Answers.{IsFailure}
use Rattle.gptman.specs.Copy.{IsCoherent}
use Rattle.gptman.specs.Disk.{DiskState}
use Rattle.gptman.specs.Fault.{Fault, out_of_memory, overflow}
use Rattle.gptman.specs.Fit.{fit_fault}
use Rattle.gptman.specs.Table.{entries_in}
use Rattle.gptman.specs.declared.table.GPT.{GPT}
use Rattle.gptedit_core.specs.Applying.{IsStopOf}
use Rattle.gptedit_core.specs.FittedReshaping.{FittedShapesAddNothing, FittedShapesAreBoth, FittedShapesReachEnd, IsBoth, RefusesBoth}
use Rattle.gptedit_core.specs.FittedReshaping.RefusesBoth.{not_reshaped}
use Rattle.gptedit_core.specs.Growing.{IsFitted}
use Rattle.gptedit_core.specs.Making.{IsEmptyFor}
use Rattle.gptedit_core.specs.Reshaping.{IsReshaped, RefusesReshaped}
use Rattle.gptedit_core.specs.declared.growth.Bounds.TheVariants.{Kept}
use Rattle.gptedit_core.specs.declared.refusal.Stop.{Stop}
use Rattle.gptedit_core.specs.declared.refusal.Stop.TheVariants.{Refused, Failed}
use Rattle.gptedit_core.specs.declared.reshaping.ReshapedRequest.{ReshapedRequest}
use Rattle.gptedit_core.proofs.Fitted.{fitting_keeps}
use Rattle.gptedit_core.proofs.Growing.{fitted_sector}
use Rattle.gptedit_core.proofs.Planned.{no_failure}
use Rattle.gptedit_core.proofs.Reached.{left}
use Rattle.gptedit_core.proofs.Reshaped.{have_shape, reshaped_coherent, reshaped_sector}

pub both_sector : (reshaped : ReshapedRequest) (len : ℕ) (g next : GPT) → IsBoth reshaped len g next → next.sector_size ≡ g.sector_size
both_sector reshaped len g next is = reshaped_sector reshaped len is.mid next is.made ∙ fitted_sector Kept len g is.mid is.fitted

pub both_coherent : (reshaped : ReshapedRequest) (len : ℕ) (g next : GPT) → IsBoth reshaped len g next → IsCoherent next.header (entries_in next)
both_coherent reshaped len g next is = reshaped_coherent reshaped len is.mid next is.made

-- The empty table for the fitted table is that for the table before.
fitted_guid : (len : ℕ) (g mid : GPT) → IsFitted Kept len g mid → mid.header.disk_guid ≡ g.header.disk_guid
fitted_guid len g mid fitted = ap (λ (m : GPT). m.header.disk_guid) (fitting_keeps len g mid fitted).0

pub empty_for_fitted : (count len : ℕ) (g mid : GPT) (empty : Option GPT) → IsFitted Kept len g mid → IsEmptyFor count g.header.disk_guid g.sector_size len empty
    → IsEmptyFor count mid.header.disk_guid mid.sector_size len empty
empty_for_fitted count len g mid empty fitted is = rw (fitted_guid len g mid fitted, fitted_sector Kept len g mid fitted) is

-- An overflow is neither an allocation failure nor a failure of the disk.
pub of_overflow : (P : Type 0) (fault : Fault) (old new : DiskState) → fault ≡ overflow → ((fault ≡ overflow) × P) ⊎ ((fault ≡ out_of_memory) ⊎ IsFailure fault old new) → P
of_overflow P fault old new is (inl small) = small.1
of_overflow P fault old new is (inr (inl memory)) = let other : out_of_memory ≡ overflow = sym memory ∙ is in absurd (cc)
of_overflow P fault old new is (inr (inr failure)) = no_failure P fault old new is (inr failure)

-- What the request makes of the fitted table, and its refusals.
module _ (reshaped : ReshapedRequest) (len : ℕ) (g mid : GPT) (fits : fit_fault g.header g.sector_size len ≡ None) (fitted : IsFitted Kept len g mid) where
  pub all_both : (r : Result GPT Stop) → IfOk r (IsReshaped reshaped len mid) → IfOk r (IsBoth reshaped len g)
  all_both (Ok next) is = record { fits = fits; mid = mid; fitted = fitted; made = is }
  all_both (Err s) is = tt

  stop_both : (s : Stop) → IsStopOf (RefusesReshaped reshaped len mid) s → IsStopOf (RefusesBoth reshaped len g) s
  stop_both (Refused r) is = not_reshaped fits mid fitted is
  stop_both (Failed e) is = is

  pub all_refused : (r : Result GPT Stop) → IfErr r (IsStopOf (RefusesReshaped reshaped len mid)) → IfErr r (IsStopOf (RefusesBoth reshaped len g))
  all_refused (Ok next) is = tt
  all_refused (Err s) is = stop_both s is

-- ---- consequences

pub shapes_reach_end : FittedShapesReachEnd
shapes_reach_end reshaped len g next is = have_shape reshaped len is.mid next is.made

pub shapes_add_nothing : FittedShapesAddNothing
shapes_add_nothing reshaped len g next ends is = subst (λ (m : GPT). IsReshaped reshaped len m next) (left len g is.mid ends is.fitted) is.made

pub shapes_are_both : FittedShapesAreBoth
shapes_are_both reshaped len g mid next grown is = record { fits = grown.fits; mid = mid; fitted = grown.fitted; made = is }
