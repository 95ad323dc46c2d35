use Rattle.gptedit_core.proofs.Settings.{settings_change}
use Rattle.gptedit_core.proofs.setting.settings_change_one_entry.Goals as goal

pub returns : goal.returns
returns c = settings_change
