-- A request for a table that is first fitted to its disk.
use Rattle.std.proofs.Common.{◌≡◌, ◌∙◌, ℕ, None, refl, sym, subst}
use Rattle.std.specs.Prelude.{Result, Ok, Err, IfErr, OnOk}
use Rattle.gptman.specs.Copy.{IsCoherent}
use Rattle.gptman.specs.Fit.{fit_fault}
use Rattle.gptman.specs.Layout.{HasLayout}
use Rattle.gptman.specs.Table.{entries_in}
use Rattle.gptman.specs.declared.table.GPT.{GPT}
use Rattle.gptedit_core.specs.Applying.{IsStopOf}
use Rattle.gptedit_core.specs.Fitting.{FittedRequestsAddNothing, FittedRequestsAreBoth, FittedRequestsReachEnd, FittingKeepsEntries, IsPlannedFitted, RefusesFitted}
use Rattle.gptedit_core.specs.Fitting.RefusesFitted.{not_planned}
use Rattle.gptedit_core.specs.Growing.{EndsAt, HasOthersOf, IsFitted}
use Rattle.gptedit_core.specs.Growing.IsFitted.{follows, is_usual, stays}
use Rattle.gptedit_core.specs.Planning.{IsPlanned, RefusesRequest}
use Rattle.gptedit_core.specs.declared.growth.Bounds.TheVariants.{Kept}
use Rattle.gptedit_core.specs.declared.plan.Request.{Request}
use Rattle.gptedit_core.specs.declared.refusal.Stop.{Stop}
use Rattle.gptedit_core.specs.declared.refusal.Stop.TheVariants.{Refused, Failed}
use Rattle.gptedit_core.proofs.Kept.{done_coherent, done_keeps, done_layout}
use Rattle.gptedit_core.proofs.Growing.{fitted_sector}
use Rattle.gptedit_core.proofs.Reached.{left}

-- Fitting changes no entry.
others_stay : (len : ℕ) (g mid : GPT) → IsFitted Kept len g mid → HasOthersOf g mid × (entries_in mid ≡ entries_in g)
others_stay len g mid (stays kept ends is) = subst (λ (m : GPT). HasOthersOf g m × (entries_in m ≡ entries_in g)) (sym is) (refl, refl)
others_stay len g mid (follows kept there first may is) = subst (λ (m : GPT). HasOthersOf g m × (entries_in m ≡ entries_in g)) (sym is) (refl, refl)
others_stay len g mid (is_usual usual ends is) = absurd (cc)

pub fitting_keeps : FittingKeepsEntries
fitting_keeps = others_stay

pub fitted_coherent : (len : ℕ) (g mid : GPT) → IsFitted Kept len g mid → IsCoherent g.header (entries_in g) → IsCoherent mid.header (entries_in mid)
fitted_coherent len g mid (stays kept ends is) fine = subst (λ (m : GPT). IsCoherent m.header (entries_in m)) (sym is) fine
fitted_coherent len g mid (follows kept there first may is) fine =
    subst (λ (m : GPT). IsCoherent m.header (entries_in m)) (sym is) (record { header_size = fine.header_size; count = fine.count; entry_size = fine.entry_size })
fitted_coherent len g mid (is_usual usual ends is) fine = absurd (cc)

-- The planned table.
pub planned_sector : (request : Request) (len : ℕ) (g next : GPT) → IsPlannedFitted request len g next → next.sector_size ≡ g.sector_size
planned_sector request len g next is =
    (done_keeps request.job request.random.items is.mid next is.planned.done).sector ∙ fitted_sector Kept len g is.mid is.fitted

pub planned_coherent : (request : Request) (len : ℕ) (g next : GPT) → IsPlannedFitted request len g next → IsCoherent g.header (entries_in g) → IsCoherent next.header (entries_in next)
planned_coherent request len g next is fine =
    done_coherent request.job request.random.items is.mid next is.planned.done (fitted_coherent len g is.mid is.fitted fine)

layout_ends : (g : GPT) (len : ℕ) → HasLayout g len → EndsAt len g
layout_ends g len is = record { low = is.table.low_sector; high = is.table.high_sector }

pub reach_end : FittedRequestsReachEnd
reach_end request len g next is = layout_ends next len (done_layout request.job request.random.items is.mid next len is.planned.done is.planned.layout)

pub add_nothing : FittedRequestsAddNothing
add_nothing request len g next ends is = subst (λ (m : GPT). IsPlanned request len m next) (left len g is.mid ends is.fitted) is.planned

pub are_both : FittedRequestsAreBoth
are_both request len g mid next grown planned = record { fits = grown.fits; mid = mid; fitted = grown.fitted; planned = planned }

-- What the request makes of the fitted table, and its refusals.
module _ (request : Request) (len : ℕ) (g mid : GPT) (fits : fit_fault g.header g.sector_size len ≡ None) (fitted : IsFitted Kept len g mid) where
  pub all_planned : (next : GPT) (r : Result (Unit {0}) Stop) → OnOk r (IsPlanned request len mid next) → OnOk r (IsPlannedFitted request len g next)
  all_planned next (Ok done) is = record { fits = fits; mid = mid; fitted = fitted; planned = is }
  all_planned next (Err s) is = tt

  stop_planned : (s : Stop) → IsStopOf (RefusesRequest request len mid) s → IsStopOf (RefusesFitted request len g) s
  stop_planned (Refused r) is = not_planned fits mid fitted is
  stop_planned (Failed e) is = is

  pub all_refused : (r : Result (Unit {0}) Stop) → IfErr r (IsStopOf (RefusesRequest request len mid)) → IfErr r (IsStopOf (RefusesFitted request len g))
  all_refused (Ok done) is = tt
  all_refused (Err s) is = stop_planned s is
