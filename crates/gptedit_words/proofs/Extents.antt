-- A size or an end, of which one is given.
use Rattle.std.proofs.Common.{◌≡◌, ℕ, List, refl, sym, subst, ◌∙◌}
use Rattle.std.specs.Prelude.{Option, Some, None, is_some}
use Rattle.gptedit_core.specs.declared.measure.Extent.{Extent}
use Rattle.gptedit_core.specs.declared.measure.Position.{Position}
use Rattle.gptedit_values.specs.Measures.{SaysPosition}
use Rattle.gptedit_words.specs.Asks.{Gives, IsExtent, SaysExtentBy}
use Rattle.gptedit_words.specs.Refusals.{HasOne}

-- a value is there if its text is
pub given_both : {A : Type 0} (says : List ℕ → A → Type 0) (text : Option (List ℕ)) (value : Option A) → Gives says text value → is_some value ≡ is_some text
given_both says None None h = refl
given_both says (Some t) (Some v) h = refl
given_both says None (Some v) h = absurd h
given_both says (Some t) None h = absurd h

-- the extent that is given is said
pub extent_said : (says : List ℕ → Extent → Type 0) (t u : Option (List ℕ)) (size : Option Extent) (end : Option Position) (extent : Extent)
    → Gives says t size → Gives SaysPosition u end → IsExtent size end extent → SaysExtentBy says t u extent
extent_said says (Some t) None (Some size) None extent g h is = subst (says t) (sym is) g
extent_said says None (Some u) None (Some position) extent g h is = subst (SaysExtentBy says None (Some u)) (sym is) h
extent_said says (Some t) (Some u) (Some size) (Some position) extent g h is = absurd is
extent_said says None None None None extent g h is = absurd is
extent_said says None u (Some size) end extent g h is = absurd g
extent_said says (Some t) u None end extent g h is = absurd g
extent_said says (Some t) (Some u) (Some size) None extent g h is = absurd h
extent_said says None (Some u) None None extent g h is = absurd h
extent_said says (Some t) None (Some size) (Some position) extent g h is = absurd h
extent_said says None None None (Some position) extent g h is = absurd h

-- both or none are given
pub not_one : (says : List ℕ → Extent → Type 0) (t u : Option (List ℕ)) (size : Option Extent) (end : Option Position)
    → Gives says t size → Gives SaysPosition u end → is_some size ≡ is_some end → ¬ (HasOne t u)
not_one says t u size end g h same one = one (sym (given_both says t size g) ∙ same ∙ given_both SaysPosition u end h)
