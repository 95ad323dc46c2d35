use Rattle.std.proofs.Common.{◌≡◌, ◌+◌, Some, None, ◌∙◌, rules}
use Rattle.gptman.specs.Number.{number_at}
use Rattle.gptman.specs.Table.{entries_in}
use Rattle.gptman.proofs.Covering.{only_number}
use Rattle.gptman.proofs.table.GPT.find_at_sector.Goals as goal

pub returns-in-Some-clause-only : goal.returns-in-Some-clause-only
returns-in-Some-clause-only c = λ valid i number covered.
    let lowest : Some (c.in-Some.index + 1) ≡ number_at c.args.sector (entries_in c.args.self.now) = search rules in
    lowest ∙ only_number _ _ _ i valid number.0 number.1 covered

pub returns-in-None-clause-only : goal.returns-in-None-clause-only
returns-in-None-clause-only c = λ valid i number covered.
    let lowest : None ≡ number_at c.args.sector (entries_in c.args.self.now) = search rules in
    lowest ∙ only_number _ _ _ i valid number.0 number.1 covered
