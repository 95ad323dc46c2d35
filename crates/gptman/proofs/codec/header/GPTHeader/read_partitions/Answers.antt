use Rattle.std.proofs.Common.{◌≡◌, ◌*◌, ℕ, List, IsTrue, length, Ok, Err, inr, sym, ap, ◌∙◌}
use Rattle.std.proofs.lemmas.Result.{err_from_is_err_and}
use Rattle.gptman_disk.specs.Bytes.{part}
use Rattle.gptman.specs.Copy.{entries_of}
use Rattle.gptman.specs.Crc.{crc_of}
use Rattle.gptman_disk.specs.Fault.{invalid_array_checksum}
use Rattle.gptman.proofs.ArrayOutcomes.{seek_refused, block_refused, in_place, array_read}
use Rattle.gptman.proofs.CopyTests.{array_changed, array_good, entries_start, entries_length, IsInPlace}
use Rattle.gptman.proofs.Readers.{both_read}
use Rattle.gptman.proofs.codec.header.GPTHeader.read_partitions.Given.{Over}
use Rattle.gptman.proofs.codec.header.GPTHeader.read_partitions.Goals as goal
use Rattle.gptman.proofs.codec.header.GPTHeader.read_partitions.Goals.{In_ok-array}

pub returns-in_err-seek_entries-clause-answer : goal.returns-in_err-seek_entries-clause-answer
returns-in_err-seek_entries-clause-answer g c = λ honest.
    let old = g.D.Disk.state c.args.disk.now in
    let p = err_from_is_err_and c.from_residual.result c.from_residual.ensures.1 in
    rw (p.1, p.2) (seek_refused old.view c.args.sector_size c.args.self.now _ old _ (g.met.D.Disk.sound c.args.disk.now honest).size c.in_err-seek_entries.ensures.refused)

pub returns-in_err-array-clause-answer : goal.returns-in_err-array-clause-answer
returns-in_err-array-clause-answer g c = λ honest.
    let old = g.D.Disk.state c.args.disk.now in
    let mid = g.D.Disk.state c.seek_entries.new.disk in
    let size : length old.view ≡ mid.size = (g.met.D.Disk.sound c.args.disk.now honest).size ∙ sym c.seek_entries.ensures.reads.keeps.size in
    let p = err_from_is_err_and c.from_residual-in_err-array.result c.from_residual-in_err-array.ensures.1 in
    rw (p.1, p.2) (block_refused old.view c.args.sector_size c.args.self.now _ old mid (g.D.Disk.state c.read_array.new.disk) c.in_ok-seek_entries.ensures.ready size c.seek_entries.ensures.reads.keeps
    c.in_err-array.ensures.some c.in_err-array.ensures.refused)

pub returns-then-self-array-clause-reads : goal.returns-then-self-array-clause-reads
returns-then-self-array-clause-reads g c = both_read c.seek_entries.ensures.reads c.read_array.ensures.reads

-- The entries are in place, and the computed checksum is theirs.
record AreRead (g : Over) (c : In_ok-array g) : Type 0 where
  placed : IsInPlace (g.D.Disk.state c.args.disk.now).view c.args.sector_size c.args.self.now
  bytes : part (g.D.Disk.state c.seek_entries.new.disk).view (g.D.Disk.state c.seek_entries.new.disk).position (128 * c.args.self.now.number_of_partition_entries)
      ≡ part (g.D.Disk.state c.args.disk.now).view (entries_start c.args.self.now c.args.sector_size) (entries_length c.args.self.now)
  sum : c.in_ok-array.array.checksum ≡ crc_of (part (g.D.Disk.state c.args.disk.now).view (entries_start c.args.self.now c.args.sector_size) (entries_length c.args.self.now))

are_read : (g : Over) (c : In_ok-array g) → IsTrue (g.D.Disk.state c.args.disk.now).is_honest → AreRead g c
are_read g c honest =
    let h = c.args.self.now in
    let ss = c.args.sector_size in
    let old = g.D.Disk.state c.args.disk.now in
    let mid = g.D.Disk.state c.seek_entries.new.disk in
    let reads = c.seek_entries.ensures.reads.only honest in
    let size : length old.view ≡ mid.size = (g.met.D.Disk.sound c.args.disk.now honest).size ∙ sym c.seek_entries.ensures.reads.keeps.size in
    let ready = c.in_ok-seek_entries.ensures.ready in
    let bytes : part mid.view mid.position (128 * h.number_of_partition_entries) ≡ part old.view (entries_start h ss) (entries_length h) =
    ap (λ (b : List ℕ). part b mid.position (128 * h.number_of_partition_entries)) reads.view ∙ array_read old.view ss h mid ready in
    record {
      placed = in_place old.view ss h mid ready size c.in_ok-array.ensures.within;
      bytes = bytes;
      sum = c.in_ok-array.ensures.checksum reads.wrote.honest ∙ ap crc_of bytes;
    }

pub returns-then-self-array-clause-answer : goal.returns-then-self-array-clause-answer
returns-then-self-array-clause-answer g c = λ honest.
    let h = c.args.self.now in
    let read = are_read g (goal.at.returns-then-self-array-clause-answer g c).In_ok-array honest in
    inr (inr (ap (λ (n : ℕ). Err (invalid_array_checksum h.partition_entry_array_crc32 n)) read.sum
    ∙ sym (array_changed (g.D.Disk.state c.args.disk.now).view c.args.sector_size h read.placed (λ same. c.if-self-array.true (same ∙ sym read.sum)))))

pub returns-clause-answer : goal.returns-clause-answer
returns-clause-answer g c = λ honest.
    let h = c.args.self.now in
    let read = are_read g (goal.at.returns-clause-answer g c).In_ok-array honest in
    let entries = c.in_ok-array.ensures.entries (c.seek_entries.ensures.reads.only honest).wrote.honest
    ∙ ap (λ (y : List ℕ). entries_of y h.number_of_partition_entries) read.bytes in
    inr (inr (ap Ok entries ∙ sym (array_good (g.D.Disk.state c.args.disk.now).view c.args.sector_size h read.placed (c.if-self-array.false ∙ read.sum))))
