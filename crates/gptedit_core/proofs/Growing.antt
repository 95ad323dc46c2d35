-- Parts of a table that a growth keeps.
use Rattle.std.proofs.Common.{◌≡◌, ℕ, None, refl, sym, subst}
use Rattle.std.specs.Prelude.{Result, Ok, Err, IfErr, OnOk}
use Rattle.gptman.specs.Fit.{fit_fault}
use Rattle.gptman.specs.Layout.{HasLayout}
use Rattle.gptman.specs.TableWrites.{MayBeWritten}
use Rattle.gptman.specs.declared.table.GPT.{GPT}
use Rattle.gptedit_core.specs.Growing.{IsFitted, IsGrown, RefusesGrown, RefusesGrowth}
use Rattle.gptedit_core.specs.Growing.IsFitted.{follows, is_usual, stays}
use Rattle.gptedit_core.specs.Growing.RefusesGrowth.{not_grown}
use Rattle.gptedit_core.specs.Applying.{IsStopOf}
use Rattle.gptedit_core.specs.declared.growth.Bounds.{Bounds}
use Rattle.gptedit_core.specs.declared.refusal.Stop.{Stop}
use Rattle.gptedit_core.specs.declared.refusal.Stop.TheVariants.{Refused, Failed}

-- The sector size.
pub fitted_sector : (bounds : Bounds) (len : ℕ) (g next : GPT) → IsFitted bounds len g next → next.sector_size ≡ g.sector_size
fitted_sector bounds len g next (stays kept ends is) = subst (λ (m : GPT). m.sector_size ≡ g.sector_size) (sym is) refl
fitted_sector bounds len g next (follows kept ends first may is) = subst (λ (m : GPT). m.sector_size ≡ g.sector_size) (sym is) refl
fitted_sector bounds len g next (is_usual usual ends is) = subst (λ (m : GPT). m.sector_size ≡ g.sector_size) (sym is) refl

-- The fitted table is grown if it has the stated layout and may be written. Otherwise the growth is refused for the
-- same reason.
module _ (bounds : Bounds) (len : ℕ) (g next : GPT) (fits : fit_fault g.header g.sector_size len ≡ None) (fitted : IsFitted bounds len g next) where
  pub all_grown : (r : Result (Unit {0}) Stop) → OnOk r (HasLayout next len × MayBeWritten next len) → OnOk r (IsGrown bounds len g next)
  all_grown (Ok done) is = record { fits = fits; fitted = fitted; layout = is.0; may = is.1 }
  all_grown (Err s) is = tt

  stop_grown : (s : Stop) → IsStopOf (RefusesGrown next len) s → IsStopOf (RefusesGrowth bounds len g) s
  stop_grown (Refused r) is = not_grown fits next fitted is
  stop_grown (Failed e) is = is

  pub all_refused : (r : Result (Unit {0}) Stop) → IfErr r (IsStopOf (RefusesGrown next len)) → IfErr r (IsStopOf (RefusesGrowth bounds len g))
  all_refused (Ok done) is = tt
  all_refused (Err s) is = stop_grown s is
