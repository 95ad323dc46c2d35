use Rattle.std.proofs.Common.{◌≤◌, ◌+◌, length, take, arith}
use Rattle.gptedit_look.proofs.Clears.{zeros, zeros_are, zeros_part, zeros_written}
use Rattle.gptedit_look.proofs.zeros.put_block.Goals as goal

pub returns-clause-zeros : goal.returns-clause-zeros
returns-clause-zeros g c = λ honest.
    let seek = g.D.Disk.state c.seek_start.new.self in
    let read = c.seek_start.ensures.reads.only honest in
    let laid = c.in_ok-write_all.ensures.contents read.wrote.honest in
    let long = (g.met.D.Disk.sound c.seek_start.new.self read.wrote.honest).size in
    let room : c.args.at + c.args.count ≤ length seek.view = omega (arith, long, c.seek_start.ensures.reads.keeps.size, c.requires.room) in
    zeros_written seek.view (g.D.Disk.state c.write_all.new.self).view (take c.args.count (zeros 512)) seek.position c.args.at c.args.count c.in_ok-seek_start.ensures.answer.1
    (zeros_part c.args.count c.requires.few) room (zeros_are c.args.count 512) laid.view
