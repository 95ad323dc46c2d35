-- A layout of a setting requests one entry.
use Rattle.std.proofs.Common.{◌≡◌, ℕ, Bool, true, false, List, length, ap, refl}
use Rattle.std.specs.Prelude.{nat_eq}
use Rattle.std.proofs.lemmas.Bool.{eqb-false, eqb-true}
use Rattle.gptman.specs.declared.table.GPT.{GPT}
use Rattle.gptedit_core.specs.Setting.{number_after, IsSettingOf}
use Rattle.gptedit_core.specs.declared.asked.Asked.{Asked}
use Rattle.gptedit_core.specs.declared.asked.RequestedLayout.{RequestedLayout}
use Rattle.gptedit_core.specs.declared.setting.Setting.{Setting}

module _ (g : GPT) (i : ℕ) (setting : Setting) (random : List ℕ) (layout : RequestedLayout) (is : IsSettingOf g i setting random layout) where
  one_by : (b : Bool) → nat_eq (number_after setting i) i ≡ b → length layout.asked.items ≡ 1
  one_by true same = ap (λ (asked : List Asked). length asked) (is.stays (eqb-true (number_after setting i) i same)).asked
  one_by false other = ap (λ (asked : List Asked). length asked) (is.moves (eqb-false (number_after setting i) i other)).asked

  pub one_asked : length layout.asked.items ≡ 1
  one_asked = one_by (nat_eq (number_after setting i) i) refl
