-- A call of the disk below, seen through a disk with its own failures.
use Rattle.std.proofs.Common.{arith, ◌≤◌, ℕ, [], List}
use Rattle.gptman_disk.specs.Disk.{DiskState, Elapses, Reads, Writes, Wrote}
use Rattle.gptman_disk.specs.Faulty.{faulty_state}

elapses_over : {a b : DiskState} (n m : ℕ) → Elapses a b → Elapses (faulty_state a n) (faulty_state b m)
elapses_over n m time = record { later = time.later; nothing_else = time.nothing_else; keeps = time.keeps; earlier = time.earlier }

wrote_over : {a b : DiskState} (n m : ℕ) (ranges : List (ℕ × ℕ)) → Wrote ranges a b → Wrote ranges (faulty_state a n) (faulty_state b m)
wrote_over n m ranges run = record { honest = run.honest; view = run.view; pending = run.pending; crash = run.crash; time = elapses_over n m run.time }

-- it writes in the same ranges
pub writes_over : {a b : DiskState} (n m : ℕ) (ranges : List (ℕ × ℕ)) → Writes ranges a b → Writes ranges (faulty_state a n) (faulty_state b m)
writes_over n m ranges writes = λ honest. wrote_over n m ranges (writes honest)

-- it only reads if the call below does
pub reads_over : {a b : DiskState} (n m : ℕ) → n ≤ m → Reads a b → Reads (faulty_state a n) (faulty_state b m)
reads_over n m more reads = record {
  keeps = record { size = reads.keeps.size; honest = reads.keeps.honest; failures = omega (arith, more, reads.keeps.failures) };
  only = λ honest. record { view = (reads.only honest).view; pending = (reads.only honest).pending; wrote = wrote_over n m [] (reads.only honest).wrote };
}

-- without a failure
pub reads_as_often : {a b : DiskState} (n : ℕ) → Reads a b → Reads (faulty_state a n) (faulty_state b n)
reads_as_often n reads = reads_over n n (omega arith) reads
