use Rattle.std.proofs.Common.{inl, rules}
use Rattle.gptedit_core.proofs.place.find_longest.Goals as goal

pub returns-in-Err-NoSpaceLeft-clause-value : goal.returns-in-Err-NoSpaceLeft-clause-value
returns-in-Err-NoSpaceLeft-clause-value c = inl (c.get_maximum_partition_size.ensures.full (search rules))
