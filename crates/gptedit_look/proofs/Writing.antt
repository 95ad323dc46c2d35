-- Sequences of calls that read and write.
use Rattle.std.proofs.Common.{ℕ, List}
use Rattle.gptman.specs.Disk.{DiskState, Reads, Within, Writes}
use Rattle.gptman.proofs.Ranges.{within_none}
use Rattle.gptman.proofs.Runs.{wrote_then, wrote_wider}

-- two sequences
pub writes_then : {a b c : DiskState} (outer inner : List (ℕ × ℕ)) → Within inner outer → Writes outer a b → Writes inner b c → Writes outer a c
writes_then outer inner within first second honest = let ab = first honest in wrote_then within ab (second ab.honest)

-- a sequence that only reads
pub writes_read : {a b : DiskState} (ranges : List (ℕ × ℕ)) → Reads a b → Writes ranges a b
writes_read ranges reads honest = wrote_wider within_none (reads.only honest).wrote
