use Rattle.std.proofs.Common.{◌≡◌, ◌≢◌, ⊎_elim, ℕ, List, inr, refl, [], Result, Err, None, rules, sym, ap, ◌∙◌, subst}
use Rattle.std.specs.Prelude.{IfErr}
use Rattle.gptman_disk.specs.Disk.{OnlyRead, Wrote}
use Rattle.gptman.specs.Commit.{RefusesEdit}
use Rattle.gptman.specs.Edit.{after_edit, edit_fault}
use Rattle.gptman_disk.specs.Fault.{fault_of, no_space_left, overflow}
use Rattle.gptman_disk.specs.Ranges.{AreApart}
use Rattle.gptman.specs.TableWrites.{other_with_checksums, table_ranges, HasBothCopies}
use Rattle.gptman.specs.declared.codec.header.GPTHeader.{GPTHeader}
use Rattle.gptman_disk.specs.declared.error.Error.{Error}
use Rattle.gptman.proofs.CommitFailure.{edited_after, still_after}
use Rattle.gptman.proofs.Commits.{coherent_still, edit_keeps, keeps_both, layout_still, leaves_edited, leaves_kept, ranges_still, refused_edit, refused_room, stored_edited, sums_keep}
use Rattle.gptman.proofs.Outcomes.{if_err_of, on_err_of}
use Rattle.gptman.proofs.Runs.{wrote_not}
use Rattle.gptman.proofs.table.GPT.commit.Given.{Over}
use Rattle.gptman.proofs.table.GPT.commit.Goals as goal

pub returns-in_err-apply-clause-one_good : goal.returns-in_err-apply-clause-one_good
returns-in_err-apply-clause-one_good g c = λ from.
    leaves_kept c.args.self.now (g.D.Disk.state c.args.disk.now) _ _ (g.met.D.Disk.sound c.args.disk.now from.start.honest) from.kept

pub returns-in_err-apply-clause-untouched : goal.returns-in_err-apply-clause-untouched
returns-in_err-apply-clause-untouched g c = λ honest.
    let disk = g.D.Disk.state c.args.disk.now in
    let still : OnlyRead disk disk = record { view = refl; pending = refl; wrote = wrote_not [] disk honest (g.met.D.Disk.sound c.args.disk.now honest) } in
    if_err_of _ (λ e. inr still)

pub write_into-requires-clause-coherent : goal.write_into-requires-clause-coherent
write_into-requires-clause-coherent g c =
    coherent_still c.args.self.now c.apply.new.self (edit_keeps c.args.self.now c.apply.new.self c.args.edit c.in_ok-apply.ensures.value) c.requires.coherent

pub returns-in_err-write_into-clause-coherent : goal.returns-in_err-write_into-clause-coherent
returns-in_err-write_into-clause-coherent g c =
    coherent_still c.args.self.now c.write_into.new.self (keeps_both c.args.self.now c.apply.new.self c.write_into.new.self
    (edit_keeps c.args.self.now c.apply.new.self c.args.edit c.in_ok-apply.ensures.value) (sums_keep c.apply.new.self c.write_into.new.self c.write_into.ensures.sums)) c.requires.coherent

-- Why the write fails.
why : (g : Over) (c : goal.After-from_residual-in_err-write_into g)
    → RefusesEdit c.args.self.now c.args.edit (fault_of c.in_err-write_into.field-0.0) c.write_into.new.self (g.D.Disk.state c.args.disk.now) (g.D.Disk.state c.write_into.new.disk)
why g c =
    let none : edit_fault c.args.self.now c.args.edit ≡ None = ⊎_elim (λ said. sym said) (λ never. absurd never.1) c.in_ok-apply.ensures.answer in
    refused_edit c.args.self.now c.apply.new.self c.write_into.new.self c.args.edit (fault_of c.in_err-write_into.field-0.0) (g.D.Disk.state c.args.disk.now) (g.D.Disk.state c.write_into.new.disk)
    c.in_ok-apply.ensures.value none c.in_err-write_into.ensures.refused c.in_err-write_into.ensures.kept c.write_into.ensures.sums

refusal : (g : Over) (c : goal.After-from_residual-in_err-write_into g) → c.from_residual-in_err-write_into.result ≡ Err c.in_err-write_into.field-0.0
refusal g c = search rules

pub returns-in_err-write_into-clause-refused : goal.returns-in_err-write_into-clause-refused
returns-in_err-write_into-clause-refused g c =
    subst (λ (r : Result Unit Error). IfErr r (λ e. RefusesEdit c.args.self.now c.args.edit (fault_of e) c.write_into.new.self (g.D.Disk.state c.args.disk.now) (g.D.Disk.state c.write_into.new.disk)))
    (sym (refusal g c)) (why g c)

pub returns-in_err-write_into-clause-room : goal.returns-in_err-write_into-clause-room
returns-in_err-write_into-clause-room g c = λ layout.
    subst (λ (r : Result Unit Error). IfErr r (λ e. (fault_of e ≢ overflow) × (fault_of e ≢ no_space_left))) (sym (refusal g c))
    (refused_room c.args.self.now c.write_into.new.self c.args.edit (fault_of c.in_err-write_into.field-0.0) _ _ (g.met.D.Disk.bounded c.args.disk.now) layout (why g c))

pub returns-in_err-write_into-clause-one_good : goal.returns-in_err-write_into-clause-one_good
returns-in_err-write_into-clause-one_good g c = λ from.
    leaves_edited c.args.self.now c.apply.new.self c.args.edit (g.D.Disk.state c.args.disk.now) (g.D.Disk.state c.write_into.new.disk) c.in_ok-apply.ensures.value from
    c.write_into.ensures.one_good

pub returns-clause-coherent : goal.returns-clause-coherent
returns-clause-coherent g c =
    coherent_still c.args.self.now c.write_into.new.self (keeps_both c.args.self.now c.apply.new.self c.write_into.new.self
    (edit_keeps c.args.self.now c.apply.new.self c.args.edit c.in_ok-apply.ensures.value) (sums_keep c.apply.new.self c.write_into.new.self c.write_into.ensures.sums)) c.requires.coherent

pub returns-clause-stored : goal.returns-clause-stored
returns-clause-stored g c = λ start.
    let keeps = edit_keeps c.args.self.now c.apply.new.self c.args.edit c.in_ok-apply.ensures.value in
    stored_edited c.args.self.now c.apply.new.self c.args.edit (g.D.Disk.state c.write_into.new.disk) c.in_ok-apply.ensures.value
    (c.in_ok-write_into.ensures.stored (record { honest = start.honest; layout = layout_still c.args.self.now c.apply.new.self keeps _ start.layout }))

pub returns-clause-one_good : goal.returns-clause-one_good
returns-clause-one_good g c = λ from.
    leaves_edited c.args.self.now c.apply.new.self c.args.edit (g.D.Disk.state c.args.disk.now) (g.D.Disk.state c.write_into.new.disk) c.in_ok-apply.ensures.value from
    c.write_into.ensures.one_good

pub returns-clause-allowed : goal.returns-clause-allowed
returns-clause-allowed g c = search rules

pub returns-clause-fits : goal.returns-clause-fits
returns-clause-fits g c = search rules

pub returns-clause-value : goal.returns-clause-value
returns-clause-value g c = search rules

pub returns-clause-contents : goal.returns-clause-contents
returns-clause-contents g c = λ honest apart.
    let new = g.D.Disk.state c.write_into.new.disk in
    let keeps = edit_keeps c.args.self.now c.apply.new.self c.args.edit c.in_ok-apply.ensures.value in
    let here : AreApart (table_ranges c.apply.new.self) = subst (λ (rs : List (ℕ × ℕ)). AreApart rs) (sym (ranges_still c.args.self.now c.apply.new.self keeps)) apart in
    subst (λ (h : GPTHeader). HasBothCopies new.view c.write_into.new.self h) (c.in_ok-write_into.ensures.other ∙ ap other_with_checksums c.in_ok-apply.ensures.value)
    (c.in_ok-write_into.ensures.contents honest here)

pub returns-clause-wrote : goal.returns-clause-wrote
returns-clause-wrote g c = λ honest.
    let keeps = edit_keeps c.args.self.now c.apply.new.self c.args.edit c.in_ok-apply.ensures.value in
    subst (λ (rs : List (ℕ × ℕ)). Wrote rs (g.D.Disk.state c.args.disk.now) (g.D.Disk.state c.write_into.new.disk)) (ranges_still c.args.self.now c.apply.new.self keeps)
    (c.write_into.ensures.wrote honest)

pub returns-in_err-apply-clause-after : goal.returns-in_err-apply-clause-after
returns-in_err-apply-clause-after g c = λ from. on_err_of _ (still_after (after_edit c.args.self.now c.args.edit) (g.D.Disk.state c.args.disk.now) from.synced)

pub returns-in_err-write_into-clause-after : goal.returns-in_err-write_into-clause-after
returns-in_err-write_into-clause-after g c = λ from.
    on_err_of _ (edited_after c.args.self.now c.apply.new.self c.args.edit (g.D.Disk.state c.args.disk.now) (g.D.Disk.state c.write_into.new.disk) c.in_ok-apply.ensures.value from
    c.in_err-write_into.ensures.after)
