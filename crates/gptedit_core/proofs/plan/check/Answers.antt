use Rattle.std.proofs.Common.{rules}
use Rattle.gptedit_core.proofs.Checked.{bad_bounds, no_memory}
use Rattle.gptedit_core.proofs.plan.check.Goals as goal

pub returns-in-Err-InvalidPartitionBoundaries-clause-refused : goal.returns-in-Err-InvalidPartitionBoundaries-clause-refused
returns-in-Err-InvalidPartitionBoundaries-clause-refused c =
    bad_bounds c.args.table.now c.args.size (search rules) c.requires _ c.in-Err-InvalidPartitionBoundaries.ensures.refused (search rules)

pub returns-in-Err : goal.returns-in-Err
returns-in-Err c = record {
  may = tt;
  refused = no_memory c.args.table.now c.args.size (search rules) c.requires _ c.in-Err.ensures.refused (search rules) (search rules);
}
