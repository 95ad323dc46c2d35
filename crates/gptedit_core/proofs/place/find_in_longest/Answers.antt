use Rattle.std.proofs.Common.{◌+◌, ◌<◌, arith, inr, refl, rules}
use Rattle.gptman.specs.Place.{IsFreeIn}
use Rattle.gptedit_core.specs.Placing.{IsStartInLongest}
use Rattle.gptedit_core.proofs.place.find_in_longest.Goals as goal
use Rattle.gptedit_core.proofs.place.find_in_longest.Goals.{else-skipped-run-via-then-skipped-run+else-size-run, else-skipped-run-via-else-skipped-run}

pub returns-then-size-run-clause-value : goal.returns-then-size-run-clause-value
returns-then-size-run-clause-value c =
    (c.in-Some.run'.start + c.in-Some.run'.length, record { start = c.in-Some.run'.start; long = c.in-Some.run'.length; longest = search rules; first = c.skip-skipped.ensures; is = refl }, omega arith)

pub returns-else-skipped-run-clause-value : goal.returns-else-skipped-run-clause-value
returns-else-skipped-run-clause-value c =
    let table = c.args.table.now in
    let s = c.in-Some.run'.start + c.skip-skipped.result in
    let end = c.in-Some.run'.start + c.in-Some.run'.length in
    let at : IsStartInLongest (IsFreeIn table) table.align s end = record { start = c.in-Some.run'.start; long = c.in-Some.run'.length; longest = search rules; first = c.skip-skipped.ensures; is = refl } in
    let short : end < s + c.args.size = elim c.else-skipped-run.branch [
      | else-skipped-run-via-then-skipped-run+else-size-run w ↦ omega arith
      | else-skipped-run-via-else-skipped-run w ↦ omega arith
    ] in
    inr (s, end, at, short)
