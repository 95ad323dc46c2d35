use Rattle.std.proofs.Common.{rules}
use Rattle.gptman_disk.proofs.error.ErrorFromIoError.from.Goals as goal

pub returns : goal.returns
returns c = search rules
