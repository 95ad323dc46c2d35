use Rattle.std.proofs.Common.{rules}
use Rattle.gptedit_core.proofs.Kept.{done_layout}
use Rattle.gptedit_core.proofs.Planned.{refused_check}
use Rattle.gptedit_core.proofs.plan.make.Goals as goal

pub check-requires : goal.check-requires
check-requires c = done_layout c.args.request.now.job c.args.request.now.random.items c.args.table.now c.do_job.new.table c.args.size (search rules) (c.has_layout.ensures.0 (search rules))

pub returns-clause-refused : goal.returns-clause-refused
returns-clause-refused c = refused_check c.args.request.now c.args.size c.args.table.now c.do_job.new.table c.check.result (c.has_layout.ensures.0 (search rules)) (search rules) c.check.ensures.refused
