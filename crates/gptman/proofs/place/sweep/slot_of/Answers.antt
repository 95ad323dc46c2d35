-- The remainder determines the distance to the next multiple.
use Rattle.std.proofs.Common.{arith}
use Rattle.gptman.proofs.Multiples.{first_by}
use Rattle.gptman.proofs.place.sweep.slot_of.Goals as goal
use Rattle.gptman.proofs.place.sweep.slot_of.Goals.{then-over-eq0, else-over-eq0}

pub returns-then-skip-to : goal.returns-then-skip-to
returns-then-skip-to c = record {
  start = first_by c.args.align c.args.from c.if-over-eq0.skip c.requires.aligned
      (λ e. elim c.if-over-eq0.branch [ then-over-eq0 w ↦ omega arith | else-over-eq0 w ↦ omega arith ])
      (λ e. elim c.if-over-eq0.branch [ then-over-eq0 w ↦ omega arith | else-over-eq0 w ↦ omega arith ]);
  within = omega arith;
  long = omega arith;
}

pub returns-else-skip-to : goal.returns-else-skip-to
returns-else-skip-to c = λ s p.
    let here = first_by c.args.align c.args.from c.if-over-eq0.skip c.requires.aligned
    (λ e. elim c.if-over-eq0.branch [ then-over-eq0 w ↦ omega arith | else-over-eq0 w ↦ omega arith ])
    (λ e. elim c.if-over-eq0.branch [ then-over-eq0 w ↦ omega arith | else-over-eq0 w ↦ omega arith ]) in
    let far = here.least s p.multiple p.from in
    omega arith
