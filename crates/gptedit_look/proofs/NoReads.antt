-- Sequences of calls that only read.
use Rattle.std.proofs.Common.{IsTrue, rules}
use Rattle.gptman.specs.Disk.{DiskState, IsSound, Reads}
use Rattle.gptman.proofs.Readers.{reads_not}

-- no call yet
pub reads_none : (a : DiskState) → (IsTrue a.is_honest → IsSound a) → Reads a a
reads_none a sound = record {
  keeps = search rules;
  only = λ honest. reads_not a honest (sound honest);
}
