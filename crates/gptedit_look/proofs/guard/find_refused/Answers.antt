use Rattle.gptman.proofs.Readers.{reads_then}
use Rattle.gptedit_look.proofs.Pieces.{both_answer, own_refused}
use Rattle.gptedit_look.proofs.guard.find_refused.Goals as goal

pub returns-in-Some-clause-value : goal.returns-in-Some-clause-value
returns-in-Some-clause-value g c = λ honest.
    let end = c.seek_end.ensures.reads.only honest in
    let grounds = c.args.grounds.now in
    own_refused grounds.look.now grounds.purpose grounds.next.now (g.D.Disk.state c.args.disk.now).view (g.D.Disk.state c.seek_end.new.self).view
    c.in_ok-size.size c.touched_by-touched.result end.view c.touched_by-touched.ensures.inside c.in_ok-refused.field-0 c.in-Some.refused
    c.in-Some.is (c.in_ok-refused.ensures.value end.wrote.honest)

pub returns-in-None-clause-value : goal.returns-in-None-clause-value
returns-in-None-clause-value g c = λ honest.
    let end = c.seek_end.ensures.reads.only honest in
    let read = reads_then end (c.find_in_copy.ensures.reads.only end.wrote.honest) in
    let grounds = c.args.grounds.now in
    both_answer grounds.look.now grounds.purpose grounds.next.now (g.D.Disk.state c.args.disk.now).view (g.D.Disk.state c.seek_end.new.self).view
    (g.D.Disk.state c.find_in_copy.new.disk).view c.in_ok-size.size (g.D.Disk.state c.args.disk.now).size c.touched_by-touched.result end.view read.view
    c.in_ok-size.ensures.answer.0 c.touched_by-touched.ensures.inside c.in_ok-refused.field-0 c.in-None.is
    (c.in_ok-refused.ensures.value end.wrote.honest) c.find_in_copy-in-None.result (c.find_in_copy-in-None.ensures.value read.wrote.honest)
