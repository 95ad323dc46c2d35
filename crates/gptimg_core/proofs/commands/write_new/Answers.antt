use Rattle.std.proofs.Common.{◌≡◌, ⊎_elim, inl, inr, ℕ, sym, ◌∙◌, subst}
use Rattle.std.specs.Prelude.{IsTrue, None}
use Rattle.std.proofs.lemmas.Result.{err_from_is_err_and}
use Rattle.gptman.specs.Disk.{OnlyRead, DiskState, Keeps, Wrote}
use Rattle.gptman.specs.Fault.{fault_of}
use Rattle.gptman.specs.Fit.{fit_fault, new_header}
use Rattle.gptman.specs.Layout.{HasLayout}
use Rattle.gptman.specs.Stop.{IsStored}
use Rattle.gptman.specs.Table.{new_table, table_in}
use Rattle.gptman.specs.Crash.{StartsLaidOut}
use Rattle.gptman.specs.declared.table.GPT.{GPT}
use Rattle.gptman.proofs.Outcomes.{on_err_of}
use Rattle.gptman.proofs.Ranges.{within_none, within_self}
use Rattle.gptman.proofs.Runs.{rose_since, wrote_then, wrote_wider}
use Rattle.gptman.specs.TableWrites.{table_ranges, RefusesWrite}
use Rattle.gptimg_core.specs.Refusals.RefusesNew.{not_written}
use Rattle.gptman.proofs.Commits.{write_since}
use Rattle.gptimg_core.proofs.Replacing.{read_replaces, write_replaces}
use Rattle.gptimg_core.proofs.commands.write_new.Goals as goal

-- a new table was written, after the length of the disk was taken
new_wrote : (table next : GPT) (old mid new : DiskState) → table ≡ next → OnlyRead old mid → Wrote (table_ranges table) mid new → Wrote (table_ranges next) old new
new_wrote table next old mid new is read wrote =
    wrote_then (within_self _) (wrote_wider within_none read.wrote) (subst (λ (t : GPT). Wrote (table_ranges t) mid new) is wrote)

-- it is stored if it has the layout
new_stored : (table next : GPT) (old mid new : DiskState) → table ≡ next → Keeps old mid → (StartsLaidOut mid table → IsStored new table.sector_size (table_in table))
    → StartsLaidOut old next → IsStored new next.sector_size (table_in next)
new_stored table next old mid new is keeps stored start =
    let here : StartsLaidOut mid next = record { honest = keeps.honest ∙ start.honest; layout = subst (λ (n : ℕ). HasLayout next n) (sym keeps.size) start.layout } in
    subst (λ (t : GPT). IsStored new t.sector_size (table_in t)) is (stored (subst (λ (t : GPT). StartsLaidOut mid t) (sym is) here))

pub returns-in_err-write_into-clause-wrote : goal.returns-in_err-write_into-clause-wrote
returns-in_err-write_into-clause-wrote g c honest =
    let still : IsTrue (g.D.Disk.state c.new_from.new.disk).is_honest = subst (λ b. IsTrue b) (sym c.new_from.ensures.reads.keeps.honest) honest in
    new_wrote c.in_ok-table.table _ _ (g.D.Disk.state c.new_from.new.disk) _ c.in_ok-table.ensures.value
    (c.new_from.ensures.reads.only honest) (c.write_into.ensures.wrote still)

pub returns-clause-wrote : goal.returns-clause-wrote
returns-clause-wrote g c honest =
    let still : IsTrue (g.D.Disk.state c.new_from.new.disk).is_honest = subst (λ b. IsTrue b) (sym c.new_from.ensures.reads.keeps.honest) honest in
    new_wrote c.in_ok-table.table _ _ (g.D.Disk.state c.new_from.new.disk) _ c.in_ok-table.ensures.value
    (c.new_from.ensures.reads.only honest) (c.write_into.ensures.wrote still)

pub returns-clause-stored : goal.returns-clause-stored
returns-clause-stored g c start =
    let old = g.D.Disk.state c.args.disk.now in
    let next = new_table c.args.guid c.args.sector_size old.size in
    new_stored c.in_ok-table.table next old (g.D.Disk.state c.new_from.new.disk) (g.D.Disk.state c.write_into.new.disk) c.in_ok-table.ensures.value c.new_from.ensures.reads.keeps
    c.in_ok-write_into.ensures.stored start

pub returns-in_err-write_into-clause-kept : goal.returns-in_err-write_into-clause-kept
returns-in_err-write_into-clause-kept g c honest =
    let still : IsTrue (g.D.Disk.state c.new_from.new.disk).is_honest = subst (λ b. IsTrue b) (sym c.new_from.ensures.reads.keeps.honest) honest in
    let read = c.new_from.ensures.reads.only honest in
    let refused = c.in_err-write_into.ensures in
    on_err_of _ (⊎_elim (λ failed. inl (rose_since _ (g.D.Disk.state c.new_from.new.disk) (g.D.Disk.state c.write_into.new.disk) c.new_from.ensures.reads.keeps (refused.failure.1 failed)))
    (λ same. inr (record { view = same.view ∙ read.view; pending = same.pending ∙ read.pending })) (refused.untouched still))

pub returns-in_err-write_into-clause-refused : goal.returns-in_err-write_into-clause-refused
returns-in_err-write_into-clause-refused g c =
    let old = g.D.Disk.state c.args.disk.now in
    let mid = g.D.Disk.state c.new_from.new.disk in
    let new = g.D.Disk.state c.write_into.new.disk in
    let p = err_from_is_err_and c.from_residual-in_err-write_into.result c.from_residual-in_err-write_into.ensures.1 in
    let fits : fit_fault (new_header c.args.guid) c.args.sector_size old.size ≡ None =
    ⊎_elim (λ memory. absurd memory) (λ settles. ⊎_elim (λ is. sym is) (λ failed. absurd failed.0) settles) c.in_ok-table.ensures.answer in
    rw (p.1, p.2) (not_written fits (subst (λ (t : GPT). RefusesWrite t (fault_of c.in_err-write_into.field-0.0) old new) c.in_ok-table.ensures.value
    (write_since c.in_ok-table.table (fault_of c.in_err-write_into.field-0.0) old mid new c.new_from.ensures.reads.keeps c.in_err-write_into.ensures.refused)))

pub returns-in_err-table-clause-replaces : goal.returns-in_err-table-clause-replaces
returns-in_err-table-clause-replaces g c = read_replaces _ (g.D.Disk.state c.args.disk.now) (g.D.Disk.state c.new_from.new.disk) c.new_from.ensures.reads

pub returns-in_err-write_into-clause-replaces : goal.returns-in_err-write_into-clause-replaces
returns-in_err-write_into-clause-replaces g c =
    write_replaces c.in_ok-table.table _ (g.D.Disk.state c.args.disk.now) (g.D.Disk.state c.new_from.new.disk) (g.D.Disk.state c.write_into.new.disk) c.in_ok-table.ensures.value
    c.new_from.ensures.reads c.write_into.ensures.wrote c.write_into.ensures.one_good

pub returns-clause-replaces : goal.returns-clause-replaces
returns-clause-replaces g c =
    write_replaces c.in_ok-table.table _ (g.D.Disk.state c.args.disk.now) (g.D.Disk.state c.new_from.new.disk) (g.D.Disk.state c.write_into.new.disk) c.in_ok-table.ensures.value
    c.new_from.ensures.reads c.write_into.ensures.wrote c.write_into.ensures.one_good
