use Rattle.std.proofs.Common.{ℕ, ⊎_elim, inl, inr, sym, ◌∙◌, subst}
use Rattle.std.proofs.lemmas.Bool.{false≢true}
use Rattle.gptman.specs.Layout.{IsLaidOut}
use Rattle.gptman.specs.Table.{table_in}
use Rattle.gptman_plan.specs.Planning.RefusesPlan.{is_not_read}
use Rattle.gptman_plan.proofs.Stated.{other_layout, other_length}
use Rattle.gptman_plan.proofs.planning.read_stated.Goals as goal

pub returns-clause-table : goal.returns-clause-table
returns-clause-table c =
    let told = c.in-Table.ensures.reading in
    let stated = c.is_stated.ensures.0 c.if-not-is_stated.false in
    record { is_backup = c.in-Table.is_backup; read = told; form = stated.0; laid_out = subst (λ (n : ℕ). IsLaidOut (table_in c.in-Table.table) n c.args.ends.now.size) told.sector stated.1 }

pub returns-in-Fault-clause-refused : goal.returns-in-Fault-clause-refused
returns-in-Fault-clause-refused c = λ partitions. ⊎_elim (λ none. inl none) (λ told. inr (λ b ends. is_not_read (told b ends))) c.in-Fault.ensures.reading

pub returns-then-not-is_made_for-clause-refused : goal.returns-then-not-is_made_for-clause-refused
returns-then-not-is_made_for-clause-refused c = λ partitions.
    let a = c.args in
    other_length a.ends.now a.sector_size c.in-Table.table c.in-Table.is_backup c.in-Table.ensures.reading
    (λ made. false≢true (sym c.if-not-is_made_for.true ∙ c.is_made_for.ensures.1 made))

pub returns-then-not-is_stated-clause-refused : goal.returns-then-not-is_stated-clause-refused
returns-then-not-is_stated-clause-refused c = λ partitions.
    let a = c.args in
    other_layout a.ends.now a.sector_size c.in-Table.table c.in-Table.is_backup c.in-Table.ensures.reading
    (c.is_made_for.ensures.0 c.if-not-is_made_for.false) (λ stated. false≢true (sym c.if-not-is_stated.true ∙ c.is_stated.ensures.1 stated))
