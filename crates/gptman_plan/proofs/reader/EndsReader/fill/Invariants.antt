use Rattle.std.proofs.Common.{◌≡◌, take}
use Rattle.gptman.specs.Bytes.{part}
use Rattle.gptman_plan.specs.Ends.{zeroed}
use Rattle.gptman_plan.proofs.reader.EndsReader.fill.Given as goal

abbrev pub invariant-loop-i : goal.invariant-loop-i
invariant-loop-i l = take l.i l.buf ≡ part (zeroed l.self.ends) l.self.position l.i
