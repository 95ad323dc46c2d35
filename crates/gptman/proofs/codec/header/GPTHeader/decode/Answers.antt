use Rattle.std.proofs.Common.{arith, rules}
use Rattle.gptman.proofs.HeaderBytes.{spelling_is}
use Rattle.gptman.proofs.codec.header.GPTHeader.decode.Goals as goal

pub returns-clause-coding : goal.returns-clause-coding
returns-clause-coding c = search rules

pub returns-clause-spelled : goal.returns-clause-spelled
returns-clause-spelled c = spelling_is _ c.args.bytes.now (omega arith) (λ i. omega (arith, c.fits-bytes i)) (returns-clause-coding c)
