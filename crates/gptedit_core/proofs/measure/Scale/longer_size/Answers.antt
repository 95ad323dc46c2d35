use Rattle.std.proofs.Common.{rules, ◌≡◌}
use Rattle.std.proofs.lemmas.Result.{IfErr-weaker}
use Rattle.gptedit_core.specs.Measuring.{RefusesCount, RefusesSize}
use Rattle.gptedit_core.specs.declared.measure.Extent.TheVariants.{More}
use Rattle.std.specs.Prelude.{None, Some, ◌+◌}
use Rattle.gptedit_core.proofs.Counts.{more_refused}
use Rattle.gptedit_core.proofs.measure.Scale.longer_size.Goals as goal

pub returns-clause-refused : goal.returns-clause-refused
returns-clause-refused c =
    IfErr-weaker c.counted.result (RefusesCount (λ n. n ≡ c.sectors_of.result + c.from.result)) (RefusesSize c.args.self None (Some c.args.range) (More c.args.measure))
    (more_refused c.args.self c.args.range c.args.measure c.in_ok-more.more (c.sectors_of.result + c.from.result) c.in_ok-more.ensures.ok (search rules)) c.counted.ensures.refused
