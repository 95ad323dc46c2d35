use Rattle.std.proofs.Common.{rules}
use Rattle.gptman.proofs.codec.header.GPTHeader.test.Goals as goal

pub returns-clause-answer : goal.returns-clause-answer
returns-clause-answer c = search rules
