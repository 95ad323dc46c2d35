use Rattle.gptedit_core.proofs.Completed.{take_fewest}
use Rattle.gptedit_core.proofs.reshaping_laws.entries_take_the_fewest_sectors.Goals as goal

pub returns : goal.returns
returns c = record { fewest = take_fewest }
