use Rattle.gptedit_look.proofs.Pieces.{block_answer}
use Rattle.gptedit_look.proofs.guard.find_in_block.Goals as goal

pub returns-clause-value : goal.returns-clause-value
returns-clause-value g c = λ honest.
    block_answer c.args.grounds.now.look.now c.args.grounds.now.purpose c.args.grounds.now.next.now (g.D.Disk.state c.args.disk.now).view
    c.read_part.new.part c.args.at c.args.count (c.in_ok-read_part.ensures.value honest) c.read_part.ensures.length c.find_in_bytes.result c.find_in_bytes.ensures
