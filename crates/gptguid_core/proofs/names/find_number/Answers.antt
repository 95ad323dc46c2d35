use Rattle.std.proofs.Common.{◌∙◌, map, sym}
use Rattle.std.proofs.lemmas.List.{at_drop_more}
use Rattle.gptguid_core.specs.Types.{number_in}
use Rattle.gptguid_core.proofs.Found.{hit, miss}
use Rattle.gptguid_core.proofs.names.find_number.Goals as goal

pub returns-then-eq : goal.returns-then-eq
returns-then-eq c =
    let step = at_drop_more (λ l. number_in (map (λ t. (t.0.now, t.1)) l) c.args.name.now) c.args.types.now c.loop-known.known-index _ c.loop-known-test.true in
    sym (sym c.loop-known.invariant ∙ step ∙ hit _ _ c.args.name.now (sym c.if-eq.true ∙ c.eq.ensures))

pub loop-known-preserved : goal.loop-known-preserved
loop-known-preserved c =
    let step = at_drop_more (λ l. number_in (map (λ t. (t.0.now, t.1)) l) c.args.name.now) c.args.types.now c.loop-known.known-index _ c.loop-known-test.true in
    sym (step ∙ miss _ _ c.args.name.now (sym c.if-eq.false ∙ c.eq.ensures)) ∙ c.loop-known.invariant
