use Rattle.std.proofs.Common.{◌≡◌, ◌⊎◌, ⊎_elim, inl, inr, ℕ, List, map, Result, Ok, Err, refl, sym, ap, subst, ◌∙◌}
use Rattle.gptman.specs.Answers.{answer_of, Fails}
use Rattle.gptman.specs.Copy.{copy_of_whole, Copy, copy_at}
use Rattle.gptman_disk.specs.Disk.{DiskState, Rose}
use Rattle.gptman_disk.specs.Fault.{Fault}
use Rattle.gptman.specs.Reading.{primary, backup, copy_in}
use Rattle.gptman.specs.Table.{Table, table_of}
use Rattle.gptman.proofs.WrittenCopy.{content_of}
use Rattle.gptman.specs.declared.codec.entry.GPTPartitionEntry.{GPTPartitionEntry}
use Rattle.gptman_disk.specs.declared.error.Error.{Error}
use Rattle.gptman.proofs.ReadBack.{same_entries}
use Rattle.gptman.proofs.Readers.{both_read, reads_then}
use Rattle.gptman.proofs.Runs.{keeps_then}
use Rattle.gptman.specs.Copies.{AreFoundSame, AreOneTable, HoldOneTable}
use Rattle.gptman.specs.declared.copy.WholeCopy.{WholeCopy}
use Rattle.gptman.proofs.Found.{found_before, found_since}
use Rattle.gptman.proofs.copies.check.Goals as goal

-- Copies that are found as one table are held as one.
both_hold : (view : List ℕ) (ss : ℕ) (p b : Result WholeCopy Error) (old new : DiskState) → Fails p old new ⊎ (answer_of copy_of_whole p ≡ copy_in primary view ss)
    → Fails b old new ⊎ (answer_of copy_of_whole b ≡ copy_in backup view ss) → AreFoundSame (answer_of copy_of_whole p) (answer_of copy_of_whole b)
    → HoldOneTable view ss × AreFoundSame (answer_of copy_of_whole p) (answer_of copy_of_whole b)
both_hold view ss (Ok p) (Ok b) old new (inl fails) at_backup same = absurd fails.0
both_hold view ss (Ok p) (Ok b) old new (inr first) (inl fails) same = absurd fails.0
both_hold view ss (Ok p) (Ok b) old new (inr first) (inr second) same = (
  record {
    table = table_of p.header p.entries.items;
    at_primary = record { copy = copy_of_whole p; accepted = sym first; form = record { table = refl; form = same.forms.at_primary } };
    at_backup = record {
      copy = copy_of_whole b;
      accepted = sym second;
      form = record {
        table = ap (λ (es : List GPTPartitionEntry). table_of b.header es) (sym same.entries) ∙ same.forms.same p.entries.items;
        form = same.forms.at_backup;
      };
    };
  },
  same,
)
both_hold view ss (Ok p) (Err e) old new at_primary at_backup same = absurd same
both_hold view ss (Err e) (Ok b) old new at_primary at_backup same = absurd same
both_hold view ss (Err e) (Err d) old new at_primary at_backup same = absurd same

-- A table that both places hold is found as one.
found_so : (view : List ℕ) (ss : ℕ) (p b : Result WholeCopy Error) (old new : DiskState) → Fails p old new ⊎ (answer_of copy_of_whole p ≡ copy_in primary view ss)
    → Fails b old new ⊎ (answer_of copy_of_whole b ≡ copy_in backup view ss) → HoldOneTable view ss
    → AreFoundSame (answer_of copy_of_whole p) (answer_of copy_of_whole b) ⊎ Rose old new
found_so view ss p b old new at_primary at_backup holds =
    let first : Copy = holds.at_primary.copy in
    let second : Copy = holds.at_backup.copy in
    let tables : table_of second.header second.entries ≡ table_of first.header first.entries = holds.at_backup.form.table ∙ sym holds.at_primary.form.table in
    let are : AreOneTable first second = record {
      forms = record {
        at_primary = holds.at_primary.form.form;
        at_backup = holds.at_backup.form.form;
        same = λ es. ap (λ (t : Table). record t { entries = map content_of es }) tables;
      };
      entries = same_entries primary backup view view ss first second holds.at_primary.accepted holds.at_backup.accepted
          (ap (λ (t : Table). t.entries) (sym tables));
    } in
    ⊎_elim
    (λ fails. inr fails.1)
    (λ here. ⊎_elim
    (λ fails. inr fails.1)
    (λ there. inl (subst (λ (x : Result Copy Fault). AreFoundSame x (answer_of copy_of_whole b)) (sym (here ∙ holds.at_primary.accepted))
    (subst (λ (y : Result Copy Fault). AreFoundSame (Ok first) y) (sym (there ∙ holds.at_backup.accepted)) are)))
    at_backup)
    at_primary

primary_as : (old start : List ℕ) (ss : ℕ) → start ≡ old → copy_at start ss ss ≡ copy_in primary old ss
unfolding copy_in
primary_as old start ss same = ap (λ (x : List ℕ). copy_at x ss ss) same

pub returns-clause-reads : goal.returns-clause-reads
returns-clause-reads g c = both_read (both_read c.seek_end.ensures.reads c.look_at.ensures.reads) c.look_at_backup.ensures.reads

pub returns-in_err-backup-clause-reads : goal.returns-in_err-backup-clause-reads
returns-in_err-backup-clause-reads g c = both_read (both_read c.seek_end.ensures.reads c.look_at.ensures.reads) c.look_at_backup.ensures.reads

pub returns-clause-value : goal.returns-clause-value
returns-clause-value g c = λ honest.
    let ss = c.args.sector_size in
    let old = g.D.Disk.state c.args.disk.now in
    let start = g.D.Disk.state c.seek_end.new.self in
    let mid = g.D.Disk.state c.look_at.new.disk in
    let new = g.D.Disk.state c.look_at_backup.new.disk in
    let p = c.in_ok-primary.primary in
    let b = c.in_ok-backup.backup in
    let end = c.seek_end.ensures.reads.only honest in
    let first = reads_then end (c.look_at.ensures.reads.only end.wrote.honest) in
    let at_primary = found_before copy_of_whole p old mid new (copy_in primary old.view ss) c.look_at_backup.ensures.reads.keeps
    (found_since copy_of_whole p old start mid _ _ c.seek_end.ensures.reads.keeps (primary_as old.view start.view ss end.view) (c.in_ok-primary.ensures.value end.wrote.honest)) in
    let at_backup = found_since copy_of_whole b old mid new (copy_in backup old.view ss) _ (keeps_then c.seek_end.ensures.reads.keeps c.look_at.ensures.reads.keeps)
    (ap (λ (x : List ℕ). copy_in backup x ss) first.view) (c.in_ok-backup.ensures.value first.wrote.honest) in
    record {
      at_primary = at_primary;
      at_backup = at_backup;
      same = λ yes. both_hold old.view ss p b old new at_primary at_backup (c.are_same-are_same.ensures.0 yes);
      differ = λ holds. ⊎_elim (λ same. inl (c.are_same-are_same.ensures.1 same)) (λ rose. inr rose) (found_so old.view ss p b old new at_primary at_backup holds);
    }
