use Rattle.std.proofs.Common.{rules}
use Rattle.gptman.proofs.table.checks.check.Goals as goal

pub returns-then-not-own_guids : goal.returns-then-not-own_guids
returns-then-not-own_guids c = search rules

pub returns-then-not-good_boundaries : goal.returns-then-not-good_boundaries
returns-then-not-good_boundaries c = search rules

pub returns : goal.returns
returns c = search rules
