use Rattle.std.proofs.Common.{rules}
use Rattle.gptman.specs.Place.{IsFreeIn}
use Rattle.gptedit_core.proofs.Runs.{no_run, run_at}
use Rattle.gptedit_core.proofs.place.find_rest.Goals as goal

pub returns-in-Some-clause-value : goal.returns-in-Some-clause-value
returns-in-Some-clause-value c =
    let run = run_at (IsFreeIn c.args.table.now) c.in_ok-runs.runs.items c.args.first c.last-end.result c.in-Some.run' (search rules) (search rules) (search rules) c.last-end.ensures in
    (c.last-end.result, run, search rules)

pub returns-clause-value : goal.returns-clause-value
returns-clause-value c = no_run (IsFreeIn c.args.table.now) c.in_ok-runs.runs.items c.args.first (search rules) (search rules)
