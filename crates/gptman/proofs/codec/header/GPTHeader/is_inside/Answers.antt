use Rattle.std.proofs.Common.{rules}
use Rattle.gptman.proofs.codec.header.GPTHeader.is_inside.Goals as goal

pub returns-then-end_of_header-from : goal.returns-then-end_of_header-from
returns-then-end_of_header-from c = search rules
