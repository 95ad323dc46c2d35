-- Each copy of a stored table is read without the other.
use Rattle.std.proofs.Common.{◌≡◌, ℕ, List, Result, Ok, Err, refl, rules}
use Rattle.std.specs.Prelude.{IsErr}
use Rattle.gptman.specs.Copy.{Copy}
use Rattle.gptman.specs.Crash.{IsReadFromEachCopy}
use Rattle.gptman_disk.specs.Disk.{DiskState}
use Rattle.gptman_disk.specs.Fault.{Fault}
use Rattle.gptman.specs.Layout.{Holds}
use Rattle.gptman.specs.Reading.{primary, backup, copy_in}
use Rattle.gptman.specs.Stop.{IsStored, ReadsTable}
use Rattle.gptman.specs.Table.{Table}
use Rattle.gptman.proofs.Fallback.{taken_first}
use Rattle.gptman.proofs.Held.{holds_local}
use Rattle.gptman.proofs.ReadingLaw.{from_first, from_second, taken_second}

reads_primary : (b : List ℕ) (ss : ℕ) (t : Table) → Holds b ss primary t → ReadsTable b ss primary t
reads_primary b ss t holds = record {
  copy = holds.copy;
  taken = taken_first b ss holds.copy holds.accepted;
  from = from_first b ss holds.copy holds.accepted;
  form = holds.form;
}

reads_backup : (b : List ℕ) (ss : ℕ) (t : Table) (r : Result Copy Fault) → copy_in primary b ss ≡ r → IsErr r → Holds b ss backup t → ReadsTable b ss backup t
reads_backup b ss t (Ok copy) is refused holds = absurd (search rules)
reads_backup b ss t (Err fault) is refused holds = record {
  copy = holds.copy;
  taken = taken_second b ss fault holds.copy is holds.accepted;
  from = from_second b ss fault is;
  form = holds.form;
}

pub stored_each_copy : (disk : DiskState) (ss : ℕ) (t : Table) (b : List ℕ) → IsStored disk ss t → IsReadFromEachCopy disk.view ss t b
stored_each_copy disk ss t b stored = record {
  from_primary = λ agrees. reads_primary b ss t (holds_local disk.view b ss primary t stored.at_primary agrees);
  from_backup = λ agrees refused. reads_backup b ss t (copy_in primary b ss) refl refused (holds_local disk.view b ss backup t stored.at_backup agrees);
}
