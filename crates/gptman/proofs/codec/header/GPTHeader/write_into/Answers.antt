use Rattle.std.proofs.Common.{rules}
use Rattle.gptman.specs.Write.{copy_ranges}
use Rattle.gptman_disk.proofs.Ranges.{within_none, within_self}
use Rattle.gptman.proofs.Runs.{wrote_then, wrote_wider}
use Rattle.gptman.proofs.codec.header.GPTHeader.write_into.Goals as goal

pub returns-in_err-write_summed-clause-wrote : goal.returns-in_err-write_summed-clause-wrote
returns-in_err-write_summed-clause-wrote g c = λ honest.
    let w1 = (c.seek_end.ensures.reads.only honest).wrote in
    wrote_then (within_self (copy_ranges c.args.self.now c.args.sector_size)) (wrote_wider within_none w1) (c.write_summed.ensures.wrote w1.honest)

pub returns-clause-wrote : goal.returns-clause-wrote
returns-clause-wrote g c = λ honest.
    let w1 = (c.seek_end.ensures.reads.only honest).wrote in
    wrote_then (within_self (copy_ranges c.args.self.now c.args.sector_size)) (wrote_wider within_none w1) (c.write_summed.ensures.wrote w1.honest)

pub returns-then-not-is_inside-clause-answer : goal.returns-then-not-is_inside-clause-answer
returns-then-not-is_inside-clause-answer g c = search rules
