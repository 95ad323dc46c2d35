use Rattle.std.proofs.Common.{rules, subst, List}
use Rattle.std.proofs.lemmas.Result.{err_from_is_err_and}
use Rattle.gptedit_core.specs.Applying.{IsStopOf, RefusesPutting}
use Rattle.gptedit_core.specs.Applying.RefusesAsked.{no_align, not_cleared, not_put, not_removed, others_there}
use Rattle.gptedit_core.specs.declared.refusal.Refusal.{Refusal}
use Rattle.gptedit_core.specs.declared.refusal.Stop.{Stop}
use Rattle.gptedit_core.specs.declared.refusal.Stop.TheVariants.{Refused, Failed}
use Rattle.gptedit_core.specs.declared.resolve.ResolvedPartition.{ResolvedPartition}
use Rattle.gptedit_core.proofs.applying.apply_layout.Goals as goal

stop_of : (P Q : Refusal → Type 0) → ((r : Refusal) → P r → Q r) → (s : Stop) → IsStopOf P s → IsStopOf Q s
stop_of P Q turn (Refused r) is = turn r is
stop_of P Q turn (Failed e) is = is

pub returns-in_err-table-clause-refused : goal.returns-in_err-table-clause-refused
returns-in_err-table-clause-refused c =
    let p = err_from_is_err_and c.from_residual-in_err-table.result c.from_residual-in_err-table.ensures.1 in
    rw (p.1, p.2) (no_align c.in_ok-partitions.partitions.items (search rules) (search rules))

pub returns-in_err-remove_all-clause-refused : goal.returns-in_err-remove_all-clause-refused
returns-in_err-remove_all-clause-refused c =
    let p = err_from_is_err_and c.from_residual-in_err-remove_all.result c.from_residual-in_err-remove_all.ensures.1 in
    rw (p.1, p.2) (not_removed c.in_ok-partitions.partitions.items c.in_ok-table.field-0 (search rules) (search rules) (search rules))

pub returns-in_err-clear-clause-refused : goal.returns-in_err-clear-clause-refused
returns-in_err-clear-clause-refused c =
    let p = err_from_is_err_and c.from_residual-in_err-clear.result c.from_residual-in_err-clear.ensures.1 in
    rw (p.1, p.2) (not_cleared c.in_ok-partitions.partitions.items c.in_ok-table.field-0 c.remove_all.new.table (search rules) (search rules) (search rules) (search rules))

pub returns-in_err-check_others-clause-refused : goal.returns-in_err-check_others-clause-refused
returns-in_err-check_others-clause-refused c =
    let p = err_from_is_err_and c.from_residual-in_err-check_others.result c.from_residual-in_err-check_others.ensures.1 in
    rw (p.1, p.2) (others_there c.in_ok-partitions.partitions.items c.in_ok-table.field-0 c.remove_all.new.table c.clear.new.table (search rules) (search rules)
    (search rules) (search rules) (search rules))

pub returns-in_err-put_all-clause-refused : goal.returns-in_err-put_all-clause-refused
returns-in_err-put_all-clause-refused c =
    let p = err_from_is_err_and c.from_residual-in_err-put_all.result c.from_residual-in_err-put_all.ensures.1 in
    rw (p.1, p.2) (stop_of _ _ (λ r is. not_put c.in_ok-partitions.partitions.items c.in_ok-table.field-0 c.remove_all.new.table c.clear.new.table (search rules)
    (search rules) (search rules) (search rules) (search rules)
    (subst (λ (ps : List ResolvedPartition). RefusesPutting ps c.clear.new.table r) (search rules) is)) _ c.in_err-put_all.ensures.refused)
