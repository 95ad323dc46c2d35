use Rattle.std.proofs.Common.{◌≡◌, ◌≤◌, ⊎_elim, ℕ, ◌-◌, ◌*◌, ◌/◌, List, length, Err, sym, ap, ◌∙◌, arith}
use Rattle.gptman.specs.TableReads.{copy_of, read, no_memory, no_backup}
use Rattle.gptman.specs.Copy.{copy_at}
use Rattle.gptman_disk.specs.Fault.{fault_of, io}
use Rattle.gptman.specs.Reading.{backup, copy_in}
use Rattle.gptman.proofs.Fallback.{answer_refused, backup_long, both_io, fallback_long, refused_answer}
use Rattle.gptman.proofs.Readers.{both_read, reads_then}
use Rattle.gptman.proofs.Runs.{keeps_then, rose_since}
use Rattle.gptman.proofs.table.read.read_backup.Goals as goal
use Rattle.gptman.proofs.Fallback.{second_copy}

pub returns-clause-reads : goal.returns-clause-reads
returns-clause-reads g c = both_read (both_read c.seek_end.ensures.reads c.seek_start.ensures.reads) c.read_table-backup.ensures.reads

pub returns-clause-answer : goal.returns-clause-answer
returns-clause-answer g c = λ honest.
    let ss = c.args.sector_size in
    let old = g.D.Disk.state c.args.disk.now in
    let mid = g.D.Disk.state c.seek_start.new.self in
    let new = g.D.Disk.state c.read_table-backup.new.disk in
    let first = fault_of c.args.primary in
    let size : length old.view ≡ old.size = (g.met.D.Disk.sound c.args.disk.now honest).size in
    let long : ss ≤ length old.view = omega (arith, size, c.in_ok-size.ensures.answer.0, c.if-size-sector_size.false) in
    let end = c.seek_end.ensures.reads.only honest in
    let near = end.wrote.honest in
    let side = reads_then end (c.seek_start.ensures.reads.only near) in
    let kept = keeps_then c.seek_end.ensures.reads.keeps c.seek_start.ensures.reads.keeps in
    let at : mid.position ≡ (length old.view / ss - 1) * ss =
    c.in_ok-seek_start.ensures.answer.1 ∙ c.last_sector.ensures ∙ ap (λ (n : ℕ). (n / ss - 1) * ss) (c.in_ok-size.ensures.answer.0 ∙ sym size) in
    let here : copy_at mid.view mid.position ss ≡ copy_in backup old.view ss =
    ap (λ (b : List ℕ). copy_at b mid.position ss) side.view ∙ ap (λ (p : ℕ). copy_at old.view p ss) at ∙ sym (backup_long old.view ss long) in
    ⊎_elim (λ out. no_memory out)
    (λ settled. ⊎_elim
    (λ fails. no_backup
    (answer_refused copy_of c.settle.result _ (settled ∙ ap (second_copy first) (refused_answer copy_of c.read_table-backup.result io fails.0) ∙ ap Err (both_io first)))
    (rose_since old mid new kept fails.1))
    (λ rest. ⊎_elim
    (λ out. no_memory (c.settle.ensures.memory out))
    (λ is. read (settled ∙ ap (second_copy first) (is ∙ here) ∙ sym (fallback_long old.view ss first long)))
    rest)
    (c.read_table-backup.ensures.answer side.wrote.honest))
    c.settle.ensures.answer
