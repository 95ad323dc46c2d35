use Rattle.std.proofs.Common.{◌∙◌, ◌≡◌, ◌⊎◌, ◌≤◌, ◌+◌, ℕ, ⊎_elim, inr, ap, subst, sym, [], ◌∷◌, IsTrue, Err}
use Rattle.std.specs.Prelude.{IfErr, OnOk}
use Rattle.std.proofs.lemmas.Result.{err_from_is_err_and, on_err_weaker, on_ok_weaker}
use Rattle.gptman.specs.Answers.{IsFailure, Refuses}
use Rattle.gptman_disk.specs.Disk.{HasFailedAsOften, Wrote}
use Rattle.gptman_disk.specs.Fault.{fault_of, io}
use Rattle.gptman.specs.Crash.{AreReadFromEachCopy, StartsFromOne, StartsLaidOut, StartsSynced, StopsComeInOrder}
use Rattle.gptman.specs.Stop.{IsStored, StopsHold}
use Rattle.gptman.specs.Table.{Table, entries_in, table_in}
use Rattle.gptman.specs.TableWrites.{table_ranges, table_write_fault, HasRoomOn, MayBeWritten}
use Rattle.gptman.specs.TableWrites.RefusesWrite.{disk_failed}
use Rattle.gptman.specs.Valid.{IsValid}
use Rattle.gptman.specs.declared.codec.header.GPTHeader.{GPTHeader}
use Rattle.gptman.proofs.Outcomes.{if_err_weaker, on_ok_of}
use Rattle.gptman.proofs.Readers.{reads_not}
use Rattle.gptman.proofs.Runs.{rose_since}
use Rattle.gptman.proofs.Accepted.{checked_valid, failed_or_memory, failure_rose, layout_fits, write_refused}
use Rattle.gptman.proofs.Argument.{only_read}
use Rattle.gptman.proofs.OneGood.{leaves_outside, one_is_synced, one_of_stored}
use Rattle.gptman.proofs.EachCopy.{stored_each_copy}
use Rattle.gptman.proofs.ReadBefore.{after_still, laid_out_still, order_still, order_then, synced_still, wrote_still}
use Rattle.gptman.proofs.ReadingLaw.{reads_one_of}
use Rattle.gptman.proofs.TwoPlaces.{ComesFor, good_of, order_of}
use Rattle.gptman.proofs.table.GPT.write_into.Given.{Over}
use Rattle.gptman.proofs.table.GPT.write_into.Goals as goal

-- ---- the checks refuse the table: no call was made

come_check : (g : Over) (c : goal.After-from_residual g) (honest : IsTrue (g.D.Disk.state c.args.disk.now).is_honest)
    → ComesFor c.args.self.now (g.D.Disk.state c.args.disk.now) (g.D.Disk.state c.args.disk.now) (g.met.D.Disk.sound c.args.disk.now honest).size
come_check g c honest side form laid = only_read (reads_not (g.D.Disk.state c.args.disk.now) honest (g.met.D.Disk.sound c.args.disk.now honest))

order_check : (g : Over) (c : goal.After-from_residual g) → StartsSynced (g.D.Disk.state c.args.disk.now) c.args.self.now
    → StopsComeInOrder (g.D.Disk.state c.args.disk.now) (g.D.Disk.state c.args.disk.now) c.args.self.now
order_check g c from =
    let old = g.D.Disk.state c.args.disk.now in
    order_of c.args.self.now old old (g.met.D.Disk.sound c.args.disk.now from.start.honest).size from (come_check g c from.start.honest)

good_check : (g : Over) (c : goal.After-from_residual g) (was : Table) → StartsFromOne (g.D.Disk.state c.args.disk.now) c.args.self.now was
    → StopsHold (g.D.Disk.state c.args.disk.now) (g.D.Disk.state c.args.disk.now) c.args.self.now.sector_size (was ∷ table_in c.args.self.now ∷ [])
good_check g c was from =
    let old = g.D.Disk.state c.args.disk.now in
    good_of c.args.self.now old old (g.met.D.Disk.sound c.args.disk.now from.start.honest).size was from (order_check g c (one_is_synced old c.args.self.now was from))

pub returns-in_err-check-clause-order : goal.returns-in_err-check-clause-order
returns-in_err-check-clause-order g c = order_check g c

pub returns-in_err-check-clause-one_good : goal.returns-in_err-check-clause-one_good
returns-in_err-check-clause-one_good g c = good_check g c

pub returns-in_err-check-clause-read : goal.returns-in_err-check-clause-read
returns-in_err-check-clause-read g c = λ was from x left known. reads_one_of x _ _ (good_check g c was from x left) known

pub returns-in_err-check-clause-crash_safe : goal.returns-in_err-check-clause-crash_safe
returns-in_err-check-clause-crash_safe g c = λ was from x left known.
    reads_one_of x _ _ (good_check g c was (one_of_stored (g.D.Disk.state c.args.disk.now) c.args.self.now was from) x left) known

-- ---- the length is taken, or the other header refused: the disk was only read

order_read : (g : Over) (c : goal.After-from_residual-in_err-other g) → StartsSynced (g.D.Disk.state c.args.disk.now) c.args.self.now
    → StopsComeInOrder (g.D.Disk.state c.args.disk.now) (g.D.Disk.state c.writable_other.new.disk) c.args.self.now
order_read g c from =
    order_still c.args.self.now (g.D.Disk.state c.args.disk.now) (g.D.Disk.state c.writable_other.new.disk) c.in_err-other.ensures.reads
    (g.met.D.Disk.sound c.args.disk.now from.start.honest).size from

still : (g : Over) (c : goal.After-from_residual-in_err-other g) (was : Table) → StartsFromOne (g.D.Disk.state c.args.disk.now) c.args.self.now was
    → StopsHold (g.D.Disk.state c.args.disk.now) (g.D.Disk.state c.writable_other.new.disk) c.args.self.now.sector_size (was ∷ table_in c.args.self.now ∷ [])
still g c was from =
    let old = g.D.Disk.state c.args.disk.now in
    good_of c.args.self.now old (g.D.Disk.state c.writable_other.new.disk) (g.met.D.Disk.sound c.args.disk.now from.start.honest).size was from
    (order_read g c (one_is_synced old c.args.self.now was from))

pub returns-in_err-other-clause-order : goal.returns-in_err-other-clause-order
returns-in_err-other-clause-order g c = order_read g c

pub returns-in_err-other-clause-one_good : goal.returns-in_err-other-clause-one_good
returns-in_err-other-clause-one_good g c = still g c

pub returns-in_err-other-clause-read : goal.returns-in_err-other-clause-read
returns-in_err-other-clause-read g c = λ was from x left known. reads_one_of x _ _ (still g c was from x left) known

pub returns-in_err-other-clause-crash_safe : goal.returns-in_err-other-clause-crash_safe
returns-in_err-other-clause-crash_safe g c = λ was from x left known.
    reads_one_of x _ _ (still g c was (one_of_stored (g.D.Disk.state c.args.disk.now) c.args.self.now was from) x left) known

-- The table is valid if the checks passed.
valid_then : (g : Over) (c : goal.After-from_residual-in_err-other g) → IsValid c.args.self.now.header (entries_in c.args.self.now)
valid_then g c = checked_valid c.args.self.now.header (entries_in c.args.self.now) _ c.as_slice.ensures.items c.in_ok-check.ensures

pub returns-in_err-other-clause-refused : goal.returns-in_err-other-clause-refused
returns-in_err-other-clause-refused g c =
    let p = err_from_is_err_and c.from_residual-in_err-other.result c.from_residual-in_err-other.ensures.1 in
    rw (p.1, p.2) (write_refused {T = GPTHeader} c.args.self.now (Err c.in_err-other.field-0.0) (g.D.Disk.state c.args.disk.now) (g.D.Disk.state c.writable_other.new.disk)
    (valid_then g c) c.in_err-other.ensures.at_once c.in_err-other.ensures.answer)

pub returns-in_err-other-clause-room : goal.returns-in_err-other-clause-room
returns-in_err-other-clause-room g c = λ layout valid.
    let p = err_from_is_err_and c.from_residual-in_err-other.result c.from_residual-in_err-other.ensures.1 in
    let old = g.D.Disk.state c.args.disk.now in
    let fits = layout_fits c.args.self.now old.size (g.met.D.Disk.bounded c.args.disk.now) layout in
    rw (p.1, p.2) (failed_or_memory c.args.self.now (fault_of c.in_err-other.field-0.0) old (g.D.Disk.state c.writable_other.new.disk) valid fits
    (write_refused {T = GPTHeader} c.args.self.now (Err c.in_err-other.field-0.0) old (g.D.Disk.state c.writable_other.new.disk) valid c.in_err-other.ensures.at_once c.in_err-other.ensures.answer))

-- ---- both copies are written

valid_there : (g : Over) (c : goal.After-write_both g) → IsValid c.args.self.now.header (entries_in c.args.self.now)
valid_there g c = checked_valid c.args.self.now.header (entries_in c.args.self.now) _ c.as_slice.ensures.items c.in_ok-check.ensures

-- There is room.
room : (g : Over) (c : goal.After-write_both g) → HasRoomOn c.args.self.now (g.D.Disk.state c.args.disk.now).size
room g c = ⊎_elim (λ is. sym is) (λ fails. absurd fails.0) c.in_ok-other.ensures.answer

pub write_both-requires-clause-room : goal.write_both-requires-clause-room
write_both-requires-clause-room g c =
    ap (table_write_fault c.args.self.now) c.in_ok-other.ensures.reads.keeps.size ∙ ⊎_elim (λ is. sym is) (λ fails. absurd fails.0) c.in_ok-other.ensures.answer

failed : (g : Over) (c : goal.After-write_both g)
    → IfErr c.write_both.result (λ e. IsFailure (fault_of e) (g.D.Disk.state c.args.disk.now) (g.D.Disk.state c.write_both.new.disk))
failed g c = if_err_weaker c.write_both.result
    (λ e is. (is.0, rose_since _ (g.D.Disk.state c.writable_other.new.disk) (g.D.Disk.state c.write_both.new.disk) c.in_ok-other.ensures.reads.keeps is.1))
    c.write_both.ensures.refused

pub returns-clause-answer : goal.returns-clause-answer
returns-clause-answer g c =
    let may : MayBeWritten c.args.self.now (g.D.Disk.state c.args.disk.now).size = record { valid = valid_there g c; room = room g c } in
    on_ok_of _ may

pub returns-clause-refused : goal.returns-clause-refused
returns-clause-refused g c = if_err_weaker c.write_both.result
    (λ e is. disk_failed (valid_there g c) (λ far. let e = sym (room g c) ∙ far in absurd (cc)) is) (failed g c)

pub returns-clause-room : goal.returns-clause-room
returns-clause-room g c = λ layout valid. if_err_weaker c.write_both.result (λ e is. inr is) (failed g c)

pub returns-clause-failure : goal.returns-clause-failure
returns-clause-failure g c =
    let old = g.D.Disk.state c.args.disk.now in
    let new = g.D.Disk.state c.write_both.new.disk in
    let still : HasFailedAsOften old (g.D.Disk.state c.writable_other.new.disk) = ⊎_elim (λ same. same) (λ io. absurd io.0) c.in_ok-other.ensures.failure.0 in (
      subst (λ (n : ℕ). (new.failures ≡ n) ⊎ (Refuses c.write_both.result io × new.failures ≤ n + 1)) still c.write_both.ensures.counts,
      failure_rose c.write_both.result old new (failed g c),
    )

wrote : (g : Over) (c : goal.After-write_both g) (honest : IsTrue (g.D.Disk.state c.args.disk.now).is_honest)
    → Wrote (table_ranges c.args.self.now) (g.D.Disk.state c.args.disk.now) (g.D.Disk.state c.write_both.new.disk)
wrote g c honest =
    wrote_still c.args.self.now (g.D.Disk.state c.args.disk.now) (g.D.Disk.state c.writable_other.new.disk) c.in_ok-other.ensures.reads (g.D.Disk.state c.write_both.new.disk)
    (table_ranges c.args.self.now) honest (c.write_both.ensures.wrote (c.in_ok-other.ensures.reads.only honest).wrote.honest)

pub returns-clause-wrote : goal.returns-clause-wrote
returns-clause-wrote g c = wrote g c

pub returns-clause-outside : goal.returns-clause-outside
returns-clause-outside g c = λ from.
    leaves_outside c.args.self.now _ (g.D.Disk.state c.write_both.new.disk) from.synced from.start.layout (wrote g c from.start.honest)

order : (g : Over) (c : goal.After-write_both g) → StartsSynced (g.D.Disk.state c.args.disk.now) c.args.self.now
    → StopsComeInOrder (g.D.Disk.state c.args.disk.now) (g.D.Disk.state c.write_both.new.disk) c.args.self.now
order g c from =
    let old = g.D.Disk.state c.args.disk.now in
    let mid = g.D.Disk.state c.writable_other.new.disk in
    let reads = c.in_ok-other.ensures.reads in
    order_then c.args.self.now old mid reads (g.D.Disk.state c.write_both.new.disk) (table_ranges c.args.self.now) (g.met.D.Disk.sound c.args.disk.now from.start.honest).size from
    (c.write_both.ensures.wrote (reads.only from.start.honest).wrote.honest) (c.write_both.ensures.order (synced_still c.args.self.now old mid reads from))

pub returns-clause-order : goal.returns-clause-order
returns-clause-order g c = order g c

good : (g : Over) (c : goal.After-write_both g) (was : Table) → StartsFromOne (g.D.Disk.state c.args.disk.now) c.args.self.now was
    → StopsHold (g.D.Disk.state c.args.disk.now) (g.D.Disk.state c.write_both.new.disk) c.args.self.now.sector_size (was ∷ table_in c.args.self.now ∷ [])
good g c was from =
    let old = g.D.Disk.state c.args.disk.now in
    good_of c.args.self.now old (g.D.Disk.state c.write_both.new.disk) (g.met.D.Disk.sound c.args.disk.now from.start.honest).size was from
    (order g c (one_is_synced old c.args.self.now was from))

pub returns-clause-one_good : goal.returns-clause-one_good
returns-clause-one_good g c = good g c

pub returns-clause-read : goal.returns-clause-read
returns-clause-read g c = λ was from x left known. reads_one_of x _ _ (good g c was from x left) known

pub returns-clause-crash_safe : goal.returns-clause-crash_safe
returns-clause-crash_safe g c = λ was from x left known.
    reads_one_of x _ _ (good g c was (one_of_stored (g.D.Disk.state c.args.disk.now) c.args.self.now was from) x left) known

pub returns-clause-after : goal.returns-clause-after
returns-clause-after g c = λ from.
    let old = g.D.Disk.state c.args.disk.now in
    let mid = g.D.Disk.state c.writable_other.new.disk in
    let reads = c.in_ok-other.ensures.reads in
    on_err_weaker _ (after_still c.args.self.now old mid reads (g.D.Disk.state c.write_both.new.disk) from.start.honest)
    (c.write_both.ensures.after (synced_still c.args.self.now old mid reads from))

stored : (g : Over) (c : goal.After-write_both g) → StartsLaidOut (g.D.Disk.state c.args.disk.now) c.args.self.now
    → OnOk c.write_both.result (IsStored (g.D.Disk.state c.write_both.new.disk) c.args.self.now.sector_size (table_in c.args.self.now))
stored g c start =
    c.write_both.ensures.stored (laid_out_still c.args.self.now (g.D.Disk.state c.args.disk.now) (g.D.Disk.state c.writable_other.new.disk) c.in_ok-other.ensures.reads start)

pub returns-clause-stored : goal.returns-clause-stored
returns-clause-stored g c = stored g c

pub returns-clause-each_copy : goal.returns-clause-each_copy
returns-clause-each_copy g c = λ start.
    let each : IsStored (g.D.Disk.state c.write_both.new.disk) c.args.self.now.sector_size (table_in c.args.self.now) → AreReadFromEachCopy (g.D.Disk.state c.write_both.new.disk).view c.args.self.now =
    λ is b. stored_each_copy (g.D.Disk.state c.write_both.new.disk) c.args.self.now.sector_size (table_in c.args.self.now) b is in
    on_ok_weaker _ each (stored g c start)
