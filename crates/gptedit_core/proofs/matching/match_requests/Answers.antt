use Rattle.std.proofs.Common.{rules, subst, List}
use Rattle.std.proofs.lemmas.Result.{err_from_is_err_and}
use Rattle.gptedit_core.specs.Matching.{all_found, new_found, new_numbers}
use Rattle.gptedit_core.specs.Resolving.{IsStopFor}
use Rattle.gptedit_core.specs.declared.asked.Asked.{Asked}
use Rattle.gptedit_core.proofs.Rejected.{new_role, too_few}
use Rattle.gptedit_core.proofs.matching.match_requests.Goals as goal

pub returns-in_err-matches-clause-refused : goal.returns-in_err-matches-clause-refused
returns-in_err-matches-clause-refused c =
    let a = c.args in
    let p = err_from_is_err_and c.from_residual-in_err-matches.result c.from_residual-in_err-matches.ensures.1 in
    rw (p.1, p.2) (too_few a.table.now a.layout.asked.items a.replace c.in_ok-found.field-0.found.items c.in_err-matches.field-0.0 (search rules) (subst (λ (xs : List Asked). IsStopFor (all_found (new_found a.table.now xs (new_numbers a.table.now xs c.in_ok-found.field-0.found.items) c.in_ok-found.field-0.found.items)) c.in_err-matches.field-0.0)
    (search rules) c.in_err-matches.ensures.refused))

pub returns-in_err-check_roles-clause-refused : goal.returns-in_err-check_roles-clause-refused
returns-in_err-check_roles-clause-refused c =
    let a = c.args in
    let p = err_from_is_err_and c.from_residual-in_err-check_roles.result c.from_residual-in_err-check_roles.ensures.1 in
    rw (p.1, p.2) (new_role a.table.now a.layout.asked.items a.replace c.in_ok-found.found.items c.in_ok-matches.matches.items c.in_err-check_roles.field-0.0
    (search rules) (search rules) (search rules))
