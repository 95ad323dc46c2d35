use Rattle.std.proofs.Common.{◌+◌, arith}
use Rattle.gptman.proofs.Readers.{reads_then}
use Rattle.gptman.proofs.Runs.{keeps_then}
use Rattle.gptedit_look.proofs.Pieces.{free_step}
use Rattle.gptedit_look.proofs.guard.find_in_range.Goals as goal

pub loop-at-preserved : goal.loop-at-preserved
loop-at-preserved g c =
    let inv = c.loop-at.invariant in
    let grounds = c.args.grounds.now in
    let start = g.D.Disk.state c.args.disk.now in
    let here = g.D.Disk.state c.loop-at.disk in
    record {
      keeps = keeps_then inv.keeps c.find_in_block.ensures.reads.keeps;
      from = omega (arith, inv.from);
      reads = λ honest. reads_then (inv.reads honest) (c.find_in_block.ensures.reads.only (inv.reads honest).wrote.honest);
      free = λ honest.
          free_step grounds.look.now grounds.purpose grounds.next.now start.view here.view c.args.range.start c.loop-at.at
          (c.loop-at.at + c.min-count.result) c.in_ok-at.field-0 (inv.reads honest).view c.in-None.is (inv.free honest)
          (c.in_ok-at.ensures.value (inv.reads honest).wrote.honest);
    }
