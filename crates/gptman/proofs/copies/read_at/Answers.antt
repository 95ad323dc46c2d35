use Rattle.gptman.specs.Copy.{copy_of_whole}
use Rattle.gptman.proofs.CopyParts.{copy_moved}
use Rattle.gptman.proofs.Readers.{answer_since}
use Rattle.gptman.proofs.copies.read_at.Goals as goal

pub returns-clause-answer : goal.returns-clause-answer
returns-clause-answer g c = λ honest.
    let seek = c.seek_start.ensures.reads.only honest in
    answer_since copy_of_whole c.read_copy.result (g.D.Disk.state c.args.disk.now) (g.D.Disk.state c.seek_start.new.self) (g.D.Disk.state c.read_copy.new.disk) _ _
    c.seek_start.ensures.reads.keeps (copy_moved c.args.sector_size seek.view c.in_ok-seek_start.ensures.answer.1) (c.read_copy.ensures.answer seek.wrote.honest)
