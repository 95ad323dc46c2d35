use Rattle.std.proofs.Common.{rules, ◌≡◌, ℕ, ◌*◌, ◌/◌, ◌≤◌, ◌^◌, refl, subst}
use Rattle.gptedit_core.specs.Measuring.{IsFloor}
use Rattle.gptedit_core.proofs.Floors.{floor_of}
use Rattle.gptedit_core.proofs.scale.round_down.Goals as goal

pub returns-in-Ok-clause-ok : goal.returns-in-Ok-clause-ok
returns-in-Ok-clause-ok c =
    let is : c.args.value / (c.args.align * c.args.unit) * c.args.align ≡ c.in-Ok.sectors = search rules in
    subst (λ (x : ℕ). IsFloor c.args.align c.args.unit c.args.value x) is (floor_of c.args.align c.args.unit c.args.value c.requires.aligned c.requires.counts)

pub returns-in-Err-clause-refused : goal.returns-in-Err-clause-refused
returns-in-Err-clause-refused c =
    let high : 2 ^ 64 ≤ c.args.value / (c.args.align * c.args.unit) * c.args.align = search rules in
    (refl, (c.args.value / (c.args.align * c.args.unit) * c.args.align, floor_of c.args.align c.args.unit c.args.value c.requires.aligned c.requires.counts, high))
