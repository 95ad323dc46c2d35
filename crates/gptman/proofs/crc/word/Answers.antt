use Rattle.gptman.proofs.ByTable.{word_at}
use Rattle.std.proofs.Common.{arith}
use Rattle.gptman.proofs.crc.word.Goals as goal

pub returns : goal.returns
returns c = word_at c.args.followers c.args.byte (omega arith) (omega arith)
