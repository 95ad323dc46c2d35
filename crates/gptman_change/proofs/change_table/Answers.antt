use Rattle.std.proofs.Common.{⊎_elim, inl, inr, ◌∙◌, subst, ℕ, IsTrue}
use Rattle.std.proofs.lemmas.Result.{err_from_is_err_and}
use Rattle.gptman.specs.Disk.{DiskState, HasFailedAsOften, Keeps, OnlyRead}
use Rattle.gptman.specs.Fault.{Fault, fault_of}
use Rattle.gptman.specs.Table.{Table}
use Rattle.gptman.specs.declared.table.GPT.{GPT}
use Rattle.gptman.proofs.Commits.{write_since}
use Rattle.gptman.proofs.Outcomes.{on_err_of}
use Rattle.gptman.proofs.Readers.{reads_then}
use Rattle.gptman.proofs.Runs.{keeps_then, rose_since}
use Rattle.gptman_change.specs.Changes.{is_left, is_written, unwritten, IsSafe, LeavesChange, StartsGoodFor}
use Rattle.gptman_change.specs.Changes.RefusesChange.{not_made, not_read, not_written}
use Rattle.gptman_change.specs.Planning.{of_left, of_written, AlwaysKeepsPlaces, IsPlannedAs, RefusesPlan}
use Rattle.gptman_change.specs.Reads.{size_for, IsReadFrom}
use Rattle.gptman_change.proofs.Left.{both_contents, change_written, laid_out_since, wrote_since}
use Rattle.gptman_change.proofs.Read.{counts_before, read_before}
use Rattle.gptman_change.proofs.Safe.{from_good, unwritten_safe, written_safe}
use Rattle.gptman_change.proofs.change_table.Given.{Over}
use Rattle.gptman_change.proofs.change_table.Goals as goal
use Rattle.gptman_change.proofs.change_table.Goals.{After-change, After-write_into, In-Leave, In-Write}

pub returns-in_err-table-clause-refused : goal.returns-in_err-table-clause-refused
returns-in_err-table-clause-refused g c = λ honest.
    let p = err_from_is_err_and c.from_residual.result c.from_residual.ensures.1 in
    rw (p.1, p.2) (not_read (c.in_err-table.ensures.refused honest))

pub returns-in_err-table-clause-safe : goal.returns-in_err-table-clause-safe
returns-in_err-table-clause-safe g c = λ places was good.
    unwritten_safe _ _ was (g.D.Disk.state c.args.disk.now) (g.D.Disk.state c.read_table.new.disk) good (c.read_table.ensures.reads.only good.honest)

-- an error of the plan, in terms of the state before the read
plan_since : (refuses : ℕ → GPT → Fault → Type 0) (asks : Type 0) (table : GPT) (fault : Fault) (old mid new : DiskState) → Keeps old mid
    → RefusesPlan (refuses mid.size) asks table fault mid new → RefusesPlan (refuses old.size) asks table fault old new
plan_since refuses asks table fault old mid new keeps (inl why) = inl (subst (λ (n : ℕ). refuses n table fault) keeps.size why)
plan_since refuses asks table fault old mid new keeps (inr failed) = inr (failed.0, (failed.1.0, rose_since old mid new keeps failed.1.1))

pub returns-in_err-planned-clause-refused : goal.returns-in_err-planned-clause-refused
returns-in_err-planned-clause-refused g c = λ honest.
    let old = g.D.Disk.state c.args.disk.now in
    let mid = g.D.Disk.state c.read_table.new.disk in
    let new = g.D.Disk.state c.change.new.disk in
    let table = c.in_ok-table.table in
    let p = err_from_is_err_and c.from_residual-in_err-planned.result c.from_residual-in_err-planned.ensures.1 in
    rw (p.1, p.2) (not_made table
    (read_before c.args.sector_size old mid new table (c.in_ok-table.ensures.value honest) c.change.ensures.reads.keeps)
    (plan_since (g.P.Plan.refuses c.args.plan.now) _ table _ old mid new c.read_table.ensures.reads.keeps c.in_err-planned.ensures.refused))

-- until the write the disk is only read
only_read : (g : Over) (c : After-change g) → IsTrue (g.D.Disk.state c.args.disk.now).is_honest → OnlyRead (g.D.Disk.state c.args.disk.now) (g.D.Disk.state c.change.new.disk)
only_read g c honest =
    let first = c.read_table.ensures.reads.only honest in
    reads_then first (c.change.ensures.reads.only first.wrote.honest)

keeps_to : (g : Over) (c : After-change g) → Keeps (g.D.Disk.state c.args.disk.now) (g.D.Disk.state c.change.new.disk)
keeps_to g c = keeps_then c.read_table.ensures.reads.keeps c.change.ensures.reads.keeps

pub returns-in_err-planned-clause-leaves : goal.returns-in_err-planned-clause-leaves
returns-in_err-planned-clause-leaves g c = λ honest. unwritten (only_read g (goal.at.returns-in_err-planned-clause-leaves g c).After-change honest)

pub returns-in_err-planned-clause-safe : goal.returns-in_err-planned-clause-safe
returns-in_err-planned-clause-safe g c = λ places was good.
    unwritten_safe _ _ was (g.D.Disk.state c.args.disk.now) (g.D.Disk.state c.change.new.disk) good
    (only_read g (goal.at.returns-in_err-planned-clause-safe g c).After-change good.honest)

pub returns-in_err-write_into-clause-kept : goal.returns-in_err-write_into-clause-kept
returns-in_err-write_into-clause-kept g c honest =
    let at = goal.at.returns-in_err-write_into-clause-kept g c in
    let read = only_read g at.After-change honest in
    let refused = c.in_err-write_into.ensures in
    on_err_of _ (⊎_elim
    (λ failed. inl (rose_since _ (g.D.Disk.state c.change.new.disk) (g.D.Disk.state c.write_into.new.disk) (keeps_to g at.After-change) (refused.failure.1 failed)))
    (λ same. inr (record { view = same.view ∙ read.view; pending = same.pending ∙ read.pending })) (refused.untouched read.wrote.honest))

-- what the plan made, in terms of the disk after the read
made_here : (g : Over) (c : In-Write g)
    → g.P.Plan.makes c.args.plan.now (g.D.Disk.state c.read_table.new.disk).size c.in_ok-table.table c.change.new.table c.in-Write.answer
made_here g c =
    let size = (g.D.Disk.state c.read_table.new.disk).size in
    subst (λ planned. IsPlannedAs (g.P.Plan.makes c.args.plan.now size) (g.P.Plan.leaves c.args.plan.now size) c.in_ok-table.table c.change.new.table planned)
    c.in-Write.is c.in_ok-planned.ensures.value

-- and in terms of the disk before the call
made : (g : Over) (c : In-Write g)
    → g.P.Plan.makes c.args.plan.now (g.D.Disk.state c.args.disk.now).size c.in_ok-table.table c.change.new.table c.in-Write.answer
made g c =
    subst (λ (n : ℕ). g.P.Plan.makes c.args.plan.now n c.in_ok-table.table c.change.new.table c.in-Write.answer) c.read_table.ensures.reads.keeps.size
    (made_here g c)

-- the answer for a table that the plan left
left : (g : Over) (c : In-Leave g) → g.P.Plan.leaves c.args.plan.now (g.D.Disk.state c.args.disk.now).size c.in_ok-table.table c.in-Leave.answer
left g c =
    let size = (g.D.Disk.state c.read_table.new.disk).size in
    subst (λ (n : ℕ). g.P.Plan.leaves c.args.plan.now n c.in_ok-table.table c.in-Leave.answer) c.read_table.ensures.reads.keeps.size
    (subst (λ planned. IsPlannedAs (g.P.Plan.makes c.args.plan.now size) (g.P.Plan.leaves c.args.plan.now size) c.in_ok-table.table c.change.new.table planned)
    c.in-Leave.is c.in_ok-planned.ensures.value)

pub returns-in-Leave-clause-answer : goal.returns-in-Leave-clause-answer
returns-in-Leave-clause-answer g c = of_left c.in_ok-table.table (left g (goal.at.returns-in-Leave-clause-answer g c).In-Leave)

pub returns-in-Leave-clause-changed : goal.returns-in-Leave-clause-changed
returns-in-Leave-clause-changed g c honest =
    let at = goal.at.returns-in-Leave-clause-changed g c in
    let old = g.D.Disk.state c.args.disk.now in
    let mid = g.D.Disk.state c.read_table.new.disk in
    let new = g.D.Disk.state c.change.new.disk in
    is_left (record {
      table = c.in_ok-table.table;
      read = read_before c.args.sector_size old mid new c.in_ok-table.table (c.in_ok-table.ensures.value honest) c.change.ensures.reads.keeps;
      counts =
          let answered : HasFailedAsOften mid new = ⊎_elim (λ same. same) (λ io. absurd io.0) c.in_ok-planned.ensures.failure.0 in
          counts_before old mid new c.in_ok-table.table (c.in_ok-table.ensures.counts honest) answered;
      answered = left g at.In-Leave;
      only = only_read g at.After-change honest;
    })

pub returns-in-Leave-clause-leaves : goal.returns-in-Leave-clause-leaves
returns-in-Leave-clause-leaves g c = λ honest. unwritten (only_read g (goal.at.returns-in-Leave-clause-leaves g c).After-change honest)

pub returns-in-Leave-clause-safe : goal.returns-in-Leave-clause-safe
returns-in-Leave-clause-safe g c = λ places was good.
    unwritten_safe _ _ was (g.D.Disk.state c.args.disk.now) (g.D.Disk.state c.change.new.disk) good
    (only_read g (goal.at.returns-in-Leave-clause-safe g c).After-change good.honest)

-- the table was read, also in terms of the disk after the write
was_read : (g : Over) (c : After-write_into g) → IsTrue (g.D.Disk.state c.args.disk.now).is_honest
    → IsReadFrom c.args.sector_size (g.D.Disk.state c.args.disk.now) (g.D.Disk.state c.write_into.new.disk) c.in_ok-table.table
was_read g c honest =
    read_before c.args.sector_size (g.D.Disk.state c.args.disk.now) (g.D.Disk.state c.read_table.new.disk) (g.D.Disk.state c.write_into.new.disk) c.in_ok-table.table
    (c.in_ok-table.ensures.value honest) (keeps_then c.change.ensures.reads.keeps c.write_into.ensures.keeps)

pub returns-in_err-write_into-clause-refused : goal.returns-in_err-write_into-clause-refused
returns-in_err-write_into-clause-refused g c = λ honest.
    let at = goal.at.returns-in_err-write_into-clause-refused g c in
    let next = c.change.new.table in
    let p = err_from_is_err_and c.from_residual-in_err-write_into.result c.from_residual-in_err-write_into.ensures.1 in
    rw (p.1, p.2) (not_written c.in_ok-table.table next c.in-Write.answer (was_read g at.After-write_into honest) (made g at.In-Write)
    (write_since next (fault_of c.in_err-write_into.field-0.0) (g.D.Disk.state c.args.disk.now) (g.D.Disk.state c.change.new.disk) (g.D.Disk.state c.write_into.new.disk)
    (keeps_to g at.After-change) c.in_err-write_into.ensures.refused))

pub returns-clause-answer : goal.returns-clause-answer
returns-clause-answer g c = of_written c.in_ok-table.table c.change.new.table (made g (goal.at.returns-clause-answer g c).In-Write)

pub returns-clause-changed : goal.returns-clause-changed
returns-clause-changed g c honest =
    let at = goal.at.returns-clause-changed g c in
    let old = g.D.Disk.state c.args.disk.now in
    let mid = g.D.Disk.state c.read_table.new.disk in
    let last = g.D.Disk.state c.change.new.disk in
    let new = g.D.Disk.state c.write_into.new.disk in
    let next = c.change.new.table in
    let read = only_read g at.After-change honest in
    let keeps = keeps_to g at.After-change in
    is_written (record {
      table = c.in_ok-table.table;
      next = next;
      read = was_read g at.After-write_into honest;
      counts =
          let answered : HasFailedAsOften mid last = ⊎_elim (λ same. same) (λ io. absurd io.0) c.in_ok-planned.ensures.failure.0 in
          let written : HasFailedAsOften last new = ⊎_elim (λ same. same) (λ io. absurd io.0) c.in_ok-write_into.ensures.failure.0 in
          counts_before old mid new c.in_ok-table.table (c.in_ok-table.ensures.counts honest) (written ∙ answered);
      made = made g at.In-Write;
      wrote = wrote_since next old last new read (c.write_into.ensures.wrote read.wrote.honest);
      synced = c.in_ok-write_into.ensures.synced read.wrote.honest;
      contents = λ apart. both_contents new.view next c.write_into.new.self _ c.in_ok-write_into.ensures.value c.in_ok-write_into.ensures.other
          (c.in_ok-write_into.ensures.contents read.wrote.honest apart);
      stored = λ layout. c.in_ok-write_into.ensures.stored (laid_out_since next old last read keeps layout);
      each_copy = λ layout. c.in_ok-write_into.ensures.each_copy (laid_out_since next old last read keeps layout);
      good = λ was good stays. from_good c.in_ok-table.table next was old mid (c.in_ok-table.ensures.value honest).accepted good stays;
    })

-- what the write leaves, whether or not it fails
leaves : (g : Over) (c : After-write_into g) → g.P.Plan.makes c.args.plan.now (g.D.Disk.state c.read_table.new.disk).size c.in_ok-table.table c.change.new.table c.in-Write.answer
    → IsTrue (g.D.Disk.state c.args.disk.now).is_honest
    → LeavesChange (g.P.Plan.makes c.args.plan.now (g.D.Disk.state c.args.disk.now).size) c.args.sector_size (g.D.Disk.state c.args.disk.now) (g.D.Disk.state c.write_into.new.disk)
leaves g c was_made honest =
    change_written (g.P.Plan.makes c.args.plan.now) c.args.sector_size c.in_ok-table.table c.change.new.table c.in-Write.answer (g.D.Disk.state c.args.disk.now)
    (g.D.Disk.state c.read_table.new.disk) (g.D.Disk.state c.change.new.disk) (g.D.Disk.state c.write_into.new.disk) honest c.read_table.ensures.reads c.change.ensures.reads
    c.write_into.ensures.keeps (c.in_ok-table.ensures.value honest) was_made c.write_into.ensures.wrote c.write_into.ensures.one_good

pub returns-in_err-write_into-clause-leaves : goal.returns-in_err-write_into-clause-leaves
returns-in_err-write_into-clause-leaves g c =
    let at = goal.at.returns-in_err-write_into-clause-leaves g c in
    leaves g at.After-write_into (made_here g at.In-Write)

pub returns-clause-leaves : goal.returns-clause-leaves
returns-clause-leaves g c =
    let at = goal.at.returns-clause-leaves g c in
    leaves g at.After-write_into (made_here g at.In-Write)

-- and what it leaves of one good copy
safe : (g : Over) (c : After-write_into g) → g.P.Plan.makes c.args.plan.now (g.D.Disk.state c.args.disk.now).size c.in_ok-table.table c.change.new.table c.in-Write.answer
    → AlwaysKeepsPlaces (g.P.Plan.makes c.args.plan.now (g.D.Disk.state c.args.disk.now).size) → (was : Table)
    → StartsGoodFor (g.D.Disk.state c.args.disk.now) c.args.sector_size was
    → IsSafe (g.P.Plan.makes c.args.plan.now (g.D.Disk.state c.args.disk.now).size) (size_for (g.D.Disk.state c.args.disk.now).view c.args.sector_size) was
    (g.D.Disk.state c.args.disk.now) (g.D.Disk.state c.write_into.new.disk)
safe g c was_made places was good =
    let old = g.D.Disk.state c.args.disk.now in
    let mid = g.D.Disk.state c.read_table.new.disk in
    let last = g.D.Disk.state c.change.new.disk in
    let table = c.in_ok-table.table in
    let first = c.read_table.ensures.reads.only good.honest in
    let read = reads_then first (c.change.ensures.reads.only first.wrote.honest) in
    written_safe _ c.args.sector_size was table c.change.new.table c.in-Write.answer old last (g.D.Disk.state c.write_into.new.disk) _ good read
    (keeps_then c.read_table.ensures.reads.keeps c.change.ensures.reads.keeps)
    (read_before c.args.sector_size old mid last table (c.in_ok-table.ensures.value good.honest) c.change.ensures.reads.keeps)
    was_made places (c.write_into.ensures.wrote read.wrote.honest) c.what_is_read_is_kept.ensures.kept (c.write_into.ensures.one_good was)

pub returns-in_err-write_into-clause-safe : goal.returns-in_err-write_into-clause-safe
returns-in_err-write_into-clause-safe g c =
    let at = goal.at.returns-in_err-write_into-clause-safe g c in
    safe g at.After-write_into (made g at.In-Write)

pub returns-clause-safe : goal.returns-clause-safe
returns-clause-safe g c =
    let at = goal.at.returns-clause-safe g c in
    safe g at.After-write_into (made g at.In-Write)
