use Rattle.std.proofs.Common.{◌≡◌, ◌++◌, List, [], ◌∷◌, length, refl, sym, ap, ◌∙◌, append_assoc, length-append, arith, inr, ⊎_elim, rules, Some}
use Rattle.std.specs.Vec.Iter.{into_iter_items}
use Rattle.gptman.specs.Commit.{reached, tables_to}
use Rattle.gptman.specs.Crash.{StartsFromOne}
use Rattle.gptman_disk.specs.Fault.{fault_of}
use Rattle.gptman.specs.Stop.{StopsHold}
use Rattle.gptman.specs.Table.{table_in}
use Rattle.gptman.specs.declared.edit.Edit.{Edit}
use Rattle.gptman.proofs.CommitFailure.{done_each_copy, failed_after}
use Rattle.gptman.proofs.CommitLoop.{accepted_more, done_contents, done_leaves, done_stored, done_value, failed_cause, failed_contents, failed_last, failed_leaves, failed_refused, failed_room, failed_stored, failed_untouched, leaves_next, made_next, made_none, wrote_next}
use Rattle.gptman.proofs.OneGood.{leaves_outside, one_of_stored}
use Rattle.gptman.proofs.ReadingLaw.{reads_one_of}
use Rattle.gptman.proofs.table.GPT.commit_all.Given.{Over}
use Rattle.gptman.proofs.table.GPT.commit_all.Goals as goal

nothing_left : {X : Type 0} (xs : List X) → length xs ≡ 0 → xs ≡ []
nothing_left [] none = refl
nothing_left (x ∷ xs) none = absurd (omega (arith, none))

pub loop-edit-init : goal.loop-edit-init
loop-edit-init g c = (
  made_none c.args.self.now (g.D.Disk.state c.args.disk.now) c.requires.coherent (λ honest. g.met.D.Disk.sound c.args.disk.now honest),
  refl,
  refl,
  search rules,
  λ none. refl,
  refl,
)

pub loop-edit-preserved : goal.loop-edit-preserved
loop-edit-preserved g c =
    let at = c.loop-edit in
    let edit : Edit = c.in-Some.edit in
    let are = at.invariant.0 in
    let count = at.invariant.2 in
    let steps : into_iter_items at.edit-iterator ≡ edit ∷ into_iter_items c.next.new.self = c.in-Some.ensures.steps.0 in
    let next = c.commit.ensures in
    let done = c.in_default.ensures in
    let long_s : length c.args.self.now.header.signature ≡ 8 = c.note_sizes.ensures.signature in
    let long_r : length c.args.self.now.header.revision ≡ 4 = c.note_sizes.ensures.revision in (
      made_next c.args.self.now at.yielded at.self (g.D.Disk.state c.args.disk.now) (g.D.Disk.state at.disk) are edit c.commit.new.self (g.D.Disk.state c.commit.new.disk) long_s long_r (record {
        coherent = next.coherent;
        accepted = done.allowed;
        fits = done.fits;
        value = done.value;
        keeps = next.keeps;
        wrote = next.wrote;
        synced = done.synced;
        contents = done.contents;
        stored = λ honest layout. done.stored (record { honest = honest; layout = layout });
        good = λ honest layout kept. next.one_good (record { start = record { honest = honest; layout = layout }; kept = kept });
      }),
      append_assoc at.yielded (edit ∷ []) (into_iter_items c.next.new.self) ∙ (ap (λ (l : List Edit). at.yielded ++ l) (sym steps) ∙ at.invariant.1),
      omega (arith, count, length-append at.yielded (edit ∷ [])),
      let was = at.invariant.3 in
          let gone = c.in-Some.ensures.steps.1 in
          let short = ap length steps in
          omega arith,
      λ none. absurd (omega (arith, none, length-append at.yielded (edit ∷ []))),
      ⊎_elim (λ same. same ∙ at.invariant.5) (λ refused. absurd refused.0) done.failure.0,
    )

-- ---- an edit failed

-- The edits so far, the one that failed, and those after it.
all_edits : (g : Over) (c : goal.After-drop-edit-iterator g) → c.args.edits.items ≡ c.loop-edit.yielded ++ c.in-Some.edit ∷ into_iter_items c.next.new.self
all_edits g c =
    let at = c.loop-edit in
    let steps : into_iter_items at.edit-iterator ≡ c.in-Some.edit ∷ into_iter_items c.next.new.self = c.in-Some.ensures.steps.0 in
    sym c.into_iter-edit-iterator.ensures.into_iter_gives.0 ∙ (sym at.invariant.1 ∙ ap (λ (l : List Edit). at.yielded ++ l) steps)

pub returns-in-Err-clause-allowed : goal.returns-in-Err-clause-allowed
returns-in-Err-clause-allowed g c k below =
    let count = c.loop-edit.invariant.2 in
    accepted_more c.args.self.now c.loop-edit.yielded _ c.args.edits.items (all_edits g c) c.loop-edit.invariant.0.accepted k (omega (arith, below, count))

pub returns-in-Err-clause-refused : goal.returns-in-Err-clause-refused
returns-in-Err-clause-refused g c =
    let at = c.loop-edit in
    failed_refused c.args.self.now at.yielded at.self (g.D.Disk.state c.args.disk.now) (g.D.Disk.state at.disk) (g.D.Disk.state c.commit.new.disk) at.invariant.0 c.args.edits.items _ at.done
    c.in-Some.edit (all_edits g c) at.invariant.2 (fault_of c.in-Err.fault) c.commit.new.self c.in-Err.ensures.refused

pub returns-in-Err-clause-room : goal.returns-in-Err-clause-room
returns-in-Err-clause-room g c = λ layout.
    let at = c.loop-edit in
    failed_room c.args.self.now at.yielded at.self (g.D.Disk.state c.args.disk.now) (g.D.Disk.state at.disk) (g.D.Disk.state c.commit.new.disk) at.invariant.0 c.args.edits.items _ at.done
    c.in-Some.edit (all_edits g c) at.invariant.2 (fault_of c.in-Err.fault) layout c.in-Err.ensures.room

pub returns-in-Err-clause-cause : goal.returns-in-Err-clause-cause
returns-in-Err-clause-cause g c = λ failed.
    let at = c.loop-edit in
    failed_cause c.args.self.now at.yielded at.self (g.D.Disk.state c.args.disk.now) (g.D.Disk.state at.disk) (g.D.Disk.state c.commit.new.disk) at.invariant.0 c.args.edits.items _ at.done
    c.in-Some.edit (all_edits g c) at.invariant.2 (fault_of c.in-Err.fault) failed c.in-Err.ensures.failure.1

pub returns-in-Err-clause-wrote : goal.returns-in-Err-clause-wrote
returns-in-Err-clause-wrote g c = λ honest.
    let at = c.loop-edit in
    wrote_next c.args.self.now at.yielded at.self (g.D.Disk.state c.args.disk.now) (g.D.Disk.state at.disk) at.invariant.0 (g.D.Disk.state c.commit.new.disk) honest c.commit.ensures.wrote

pub returns-in-Err-clause-untouched : goal.returns-in-Err-clause-untouched
returns-in-Err-clause-untouched g c = λ honest none.
    let at = c.loop-edit in
    failed_untouched c.args.self.now at.yielded at.self (g.D.Disk.state c.args.disk.now) (g.D.Disk.state at.disk) (g.D.Disk.state c.commit.new.disk) at.invariant.0 c.args.edits.items _ at.done
    c.in-Some.edit (all_edits g c) at.invariant.2 (fault_of c.in-Err.fault) honest none c.in-Err.ensures.untouched

pub returns-in-Err-clause-contents : goal.returns-in-Err-clause-contents
returns-in-Err-clause-contents g c = λ honest some.
    let at = c.loop-edit in
    failed_contents c.args.self.now at.yielded at.self (g.D.Disk.state c.args.disk.now) (g.D.Disk.state at.disk) (g.D.Disk.state c.commit.new.disk) at.invariant.0 c.args.edits.items _ at.done
    c.in-Some.edit (all_edits g c) at.invariant.2 (fault_of c.in-Err.fault) honest some c.in-Err.ensures.untouched

pub returns-in-Err-clause-stored : goal.returns-in-Err-clause-stored
returns-in-Err-clause-stored g c = λ start.
    let at = c.loop-edit in
    failed_stored c.args.self.now at.yielded at.self (g.D.Disk.state c.args.disk.now) (g.D.Disk.state at.disk) (g.D.Disk.state c.commit.new.disk) at.invariant.0 c.args.edits.items _ at.done
    c.in-Some.edit (all_edits g c) at.invariant.2 (fault_of c.in-Err.fault) start.honest start.layout c.in-Err.ensures.untouched

pub returns-in-Err-clause-each_copy : goal.returns-in-Err-clause-each_copy
returns-in-Err-clause-each_copy g c = λ start some.
    done_each_copy c.args.self.now c.args.edits.items c.loop-edit.done (g.D.Disk.state c.args.disk.now) (g.D.Disk.state c.commit.new.disk) some (returns-in-Err-clause-stored g c start)

pub returns-in-Err-clause-after : goal.returns-in-Err-clause-after
returns-in-Err-clause-after g c = λ from.
    let at = c.loop-edit in
    failed_after c.args.self.now at.yielded at.self (g.D.Disk.state c.args.disk.now) (g.D.Disk.state at.disk) (g.D.Disk.state c.commit.new.disk) at.invariant.0 c.args.edits.items _ at.done
    c.in-Some.edit (all_edits g c) at.invariant.2 from (g.met.D.Disk.sound at.disk) c.in-Err.ensures.after

-- A crash leaves the table after some of the edits.
failed_good : (g : Over) (c : goal.After-drop-edit-iterator g) → StartsFromOne (g.D.Disk.state c.args.disk.now) c.args.self.now (table_in c.args.self.now)
    → StopsHold (g.D.Disk.state c.args.disk.now) (g.D.Disk.state c.commit.new.disk) c.args.self.now.sector_size
    (tables_to c.args.self.now c.args.edits.items (reached c.loop-edit.done (Some c.in-Err.fault)))
failed_good g c from =
    let honest = from.start.honest in
    let layout = from.start.layout in
    let kept = from.kept in
    let at = c.loop-edit in
    let own = c.args.self.now in
    let a = g.D.Disk.state c.args.disk.now in
    let b = g.D.Disk.state at.disk in
    let new = g.D.Disk.state c.commit.new.disk in
    let still = (at.invariant.0.wrote honest).honest in
    let next = leaves_next own at.yielded at.self a b at.invariant.0 c.in-Some.edit new honest layout kept (c.commit.ensures.wrote still)
    (λ here good. c.commit.ensures.one_good (record { start = record { honest = still; layout = here }; kept = good })) in
    failed_leaves own at.yielded at.self a b new at.invariant.0 c.args.edits.items _ at.done c.in-Some.edit (all_edits g c) at.invariant.2 (fault_of c.in-Err.fault) honest layout kept
    (g.met.D.Disk.sound at.disk) c.in-Err.ensures.untouched next

pub returns-in-Err-clause-one_good : goal.returns-in-Err-clause-one_good
returns-in-Err-clause-one_good g c = failed_good g c

pub returns-in-Err-clause-read : goal.returns-in-Err-clause-read
returns-in-Err-clause-read g c = λ from x left known. reads_one_of x _ _ (failed_good g c from x left) known

pub returns-in-Err-clause-outside : goal.returns-in-Err-clause-outside
returns-in-Err-clause-outside g c = λ from.
    let at = c.loop-edit in
    leaves_outside c.args.self.now (g.D.Disk.state c.args.disk.now) (g.D.Disk.state c.commit.new.disk) from.synced from.start.layout
    (wrote_next c.args.self.now at.yielded at.self (g.D.Disk.state c.args.disk.now) (g.D.Disk.state at.disk) at.invariant.0 (g.D.Disk.state c.commit.new.disk) from.start.honest c.commit.ensures.wrote)

pub returns-in-Err-clause-last : goal.returns-in-Err-clause-last
returns-in-Err-clause-last g c = λ from.
    let at = c.loop-edit in
    let still = (at.invariant.0.wrote from.start.honest).honest in
    let wrote = c.commit.ensures.wrote still in
    failed_last c.args.self.now at.yielded at.self (g.D.Disk.state c.args.disk.now) (g.D.Disk.state at.disk) (g.D.Disk.state c.commit.new.disk) at.invariant.0 c.args.edits.items _ at.done
    c.in-Some.edit (all_edits g c) at.invariant.2 (fault_of c.in-Err.fault) from.start.honest from.start.layout from.kept (g.met.D.Disk.sound at.disk) wrote.time.later
    (g.met.D.Disk.sound c.commit.new.disk wrote.honest) c.in-Err.ensures.untouched
    (λ here good. c.commit.ensures.one_good (record { start = record { honest = still; layout = here }; kept = good }))

pub returns-in-Err-clause-crash_safe : goal.returns-in-Err-clause-crash_safe
returns-in-Err-clause-crash_safe g c = λ from x left known. reads_one_of x _ _ (failed_good g c (one_of_stored _ _ _ from) x left) known

pub returns-in-Err-clause-empty : goal.returns-in-Err-clause-empty
returns-in-Err-clause-empty g c = λ empty.
    let none : length (c.loop-edit.yielded ++ c.in-Some.edit ∷ into_iter_items c.next.new.self) ≡ 0 = ap length (sym (all_edits g c) ∙ empty) in
    absurd (omega (arith, none, length-append c.loop-edit.yielded (c.in-Some.edit ∷ into_iter_items c.next.new.self)))

-- ---- all edits were written

made_all : (g : Over) (c : goal.After-drop-edit-iterator-2 g) → c.args.edits.items ≡ c.loop-edit.yielded ++ []
made_all g c =
    let at = c.loop-edit in
    let none : into_iter_items at.edit-iterator ≡ [] = nothing_left _ (sym at.invariant.3 ∙ c.in-None.ensures.steps.0) in
    sym c.into_iter-edit-iterator.ensures.into_iter_gives.0 ∙ (sym at.invariant.1 ∙ ap (λ (l : List Edit). at.yielded ++ l) none)

pub returns-clause-empty : goal.returns-clause-empty
returns-clause-empty g c = λ empty.
    let none : length (c.loop-edit.yielded ++ []) ≡ 0 = ap length (sym (made_all g c) ∙ empty) in
    c.loop-edit.invariant.4 (omega (arith, none, length-append c.loop-edit.yielded []))

pub returns-clause-value : goal.returns-clause-value
returns-clause-value g c =
    let at = c.loop-edit in
    done_value c.args.self.now at.yielded at.self (g.D.Disk.state c.args.disk.now) (g.D.Disk.state at.disk) at.invariant.0 c.args.edits.items [] at.done (made_all g c) at.invariant.2

pub returns-clause-untouched : goal.returns-clause-untouched
returns-clause-untouched g c = λ honest none. inr (c.loop-edit.invariant.0.untouched honest (sym c.loop-edit.invariant.2 ∙ none))

pub returns-clause-contents : goal.returns-clause-contents
returns-clause-contents g c = λ honest some.
    let at = c.loop-edit in
    inr (done_contents c.args.self.now at.yielded at.self (g.D.Disk.state c.args.disk.now) (g.D.Disk.state at.disk) at.invariant.0 c.args.edits.items [] at.done (made_all g c) at.invariant.2 honest some)

pub returns-clause-stored : goal.returns-clause-stored
returns-clause-stored g c = λ start.
    let at = c.loop-edit in
    inr (done_stored c.args.self.now at.yielded at.self (g.D.Disk.state c.args.disk.now) (g.D.Disk.state at.disk) at.invariant.0 c.args.edits.items [] at.done (made_all g c) at.invariant.2 start.honest start.layout)

pub returns-clause-each_copy : goal.returns-clause-each_copy
returns-clause-each_copy g c = λ start some.
    done_each_copy c.args.self.now c.args.edits.items c.loop-edit.done (g.D.Disk.state c.args.disk.now) (g.D.Disk.state c.loop-edit.disk) some (returns-clause-stored g c start)

done_good : (g : Over) (c : goal.After-drop-edit-iterator-2 g) → StartsFromOne (g.D.Disk.state c.args.disk.now) c.args.self.now (table_in c.args.self.now)
    → StopsHold (g.D.Disk.state c.args.disk.now) (g.D.Disk.state c.loop-edit.disk) c.args.self.now.sector_size (tables_to c.args.self.now c.args.edits.items c.loop-edit.done)
done_good g c from =
    let at = c.loop-edit in
    done_leaves c.args.self.now at.yielded at.self (g.D.Disk.state c.args.disk.now) (g.D.Disk.state at.disk) at.invariant.0 c.args.edits.items [] at.done (made_all g c) at.invariant.2
    from.start.honest from.start.layout from.kept

pub returns-clause-one_good : goal.returns-clause-one_good
returns-clause-one_good g c = done_good g c

pub returns-clause-read : goal.returns-clause-read
returns-clause-read g c = λ from x left known. reads_one_of x _ _ (done_good g c from x left) known

pub returns-clause-crash_safe : goal.returns-clause-crash_safe
returns-clause-crash_safe g c = λ from x left known. reads_one_of x _ _ (done_good g c (one_of_stored _ _ _ from) x left) known

pub returns-clause-outside : goal.returns-clause-outside
returns-clause-outside g c = λ from. leaves_outside c.args.self.now _ (g.D.Disk.state c.loop-edit.disk) from.synced from.start.layout (c.loop-edit.invariant.0.wrote from.start.honest)
