use Rattle.std.proofs.Common.{◌+◌, ◌<◌, arith, inl, max}
use Rattle.gptedit_core.specs.Sectors.{pair_of}
use Rattle.gptedit_core.proofs.Offered.{in_longest, longest_of, no_longest_of, not_in_longest}
use Rattle.gptedit_core.proofs.slots.span_in_longest.Goals as goal
use Rattle.gptedit_core.proofs.slots.span_in_longest.Goals.{else-skipped-run-via-then-skipped-run+else-size-run, else-skipped-run-via-else-skipped-run}

pub returns-in_default : goal.returns-in_default
returns-in_default c = inl (no_longest_of c.args.table.now c.args.runs.now c.requires.runs c.in_default.ensures)

pub returns-then-size-run : goal.returns-then-size-run
returns-then-size-run c =
    let g = c.args.table.now in
    let run = c.in-Some.run' in
    let longest = longest_of g c.args.runs.now (pair_of run) c.requires.runs c.in-Some.ensures in
    (in_longest g c.args.size run.start run.length c.skip-skipped.result longest c.skip-skipped.ensures (omega arith), omega arith)

pub returns-else-skipped-run : goal.returns-else-skipped-run
returns-else-skipped-run c =
    let g = c.args.table.now in
    let n = c.args.size in
    let run = c.in-Some.run' in
    let longest = longest_of g c.args.runs.now (pair_of run) c.requires.runs c.in-Some.ensures in
    let short : run.start + run.length < run.start + c.skip-skipped.result + max 1 n = elim c.else-skipped-run.branch [
      | else-skipped-run-via-then-skipped-run+else-size-run w ↦ omega arith
      | else-skipped-run-via-else-skipped-run w ↦ omega arith
    ] in
    not_in_longest g n run.start run.length c.skip-skipped.result longest c.skip-skipped.ensures short
