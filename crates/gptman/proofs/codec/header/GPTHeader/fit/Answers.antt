use Rattle.std.proofs.Common.{rules}
use Rattle.gptman.proofs.codec.header.GPTHeader.fit.Goals as goal

pub returns-then-sectors-lt2-clause-answer : goal.returns-then-sectors-lt2-clause-answer
returns-then-sectors-lt2-clause-answer c = search rules

pub returns-then-sectors-lt2-clause-value : goal.returns-then-sectors-lt2-clause-value
returns-then-sectors-lt2-clause-value c = search rules

pub returns-clause-answer : goal.returns-clause-answer
returns-clause-answer c = search rules

pub returns-clause-value : goal.returns-clause-value
returns-clause-value c = search rules
