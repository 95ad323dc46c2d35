use Rattle.std.proofs.Common.{◌∙◌, map, sym}
use Rattle.std.proofs.lemmas.Bool.Decides.{same_from_decides}
use Rattle.std.proofs.lemmas.List.{at_drop_more}
use Rattle.std.proofs.lemmas.Slice.Eq.{bytes_eq-Decides}
use Rattle.gptguid_core.specs.OtherTypes.{number_in_any_case}
use Rattle.gptguid_core.proofs.Found.{hit_in_any_case, miss_in_any_case}
use Rattle.gptguid_core.proofs.names.find_in_any_case.Goals as goal

pub returns-then-eq_ignore_ascii_case : goal.returns-then-eq_ignore_ascii_case
returns-then-eq_ignore_ascii_case c =
    let step = at_drop_more (λ l. number_in_any_case (map (λ t. (t.0.now, t.1)) l) c.args.name.now) c.args.types.now c.loop-known.known-index _ c.loop-known-test.true in
    let same = same_from_decides _ _ c.eq_ignore_ascii_case.ensures.test (bytes_eq-Decides _ _) in
    record { value = sym (sym c.loop-known.invariant ∙ step ∙ hit_in_any_case _ _ c.args.name.now (sym c.if-eq_ignore_ascii_case.true ∙ same)) }

pub loop-known-preserved : goal.loop-known-preserved
loop-known-preserved c =
    let step = at_drop_more (λ l. number_in_any_case (map (λ t. (t.0.now, t.1)) l) c.args.name.now) c.args.types.now c.loop-known.known-index _ c.loop-known-test.true in
    let same = same_from_decides _ _ c.eq_ignore_ascii_case.ensures.test (bytes_eq-Decides _ _) in
    sym (step ∙ miss_in_any_case _ _ c.args.name.now (sym c.if-eq_ignore_ascii_case.false ∙ same)) ∙ c.loop-known.invariant
