use Rattle.std.proofs.Common.{refl, rules}
use Rattle.gptedit_core.specs.Setting.RefusesSetting.{unused}
use Rattle.gptedit_core.proofs.setting.setting_layout.Goals as goal

pub returns-then-is_unused-clause-refused : goal.returns-then-is_unused-clause-refused
returns-then-is_unused-clause-refused c = unused c.in-Some.entry.now (search rules) (search rules) refl
