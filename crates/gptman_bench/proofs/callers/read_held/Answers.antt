use Rattle.gptman_bench.proofs.Readings.{held_read}
use Rattle.gptman_bench.proofs.callers.read_held.Goals as goal

pub returns-clause-held : goal.returns-clause-held
returns-clause-held g c = λ honest.
    held_read c.what_is_read_is_held.ensures c.args.sector_size c.read_from.result (g.D.Disk.state c.args.disk.now) (g.D.Disk.state c.read_from.new.disk)
    (c.read_from.ensures.reads.only honest) (c.read_from.ensures.answer honest)
