use Rattle.std.proofs.Common.{ℕ, get_or, arith}
use Rattle.std.proofs.lemmas.List.{get_or_default}
use Rattle.gptman.proofs.Sweeping.{going_on, all_passed, slots_fit}
use Rattle.gptman.proofs.place.sweep.sweep.Goals as goal

pub loop-range-preserved : goal.loop-range-preserved
loop-range-preserved c =
    let i = c.loop-range.range-index in
    let here = c.loop-range-test.true in
    let r : ℕ × ℕ = get_or c.args.ranges.now i (0, 0) in (
      going_on c.args.header.now c.args.align c.args.ranges.now i c.loop-range.passed c.min-to.result c.max-passed.result c.loop-range.slots.items _ r
          c.requires.sorted here (get_or_default c.args.ranges.now i (0, 0) r here) (c.requires.ordered i (0, 0) here)
          c.loop-range.invariant.0 (omega arith) c.in_ok-push_gap.ensures c.max-passed.ensures,
      omega arith,
    )

pub returns-clause-slots : goal.returns-clause-slots
returns-clause-slots c =
    all_passed c.args.header.now c.args.align c.args.ranges.now c.loop-range.range-index c.loop-range.passed _ _ c.requires.sorted (omega arith)
    c.loop-range.invariant.0 c.in_ok-push_gap-2.ensures

pub returns-clause-fits : goal.returns-clause-fits
returns-clause-fits c = slots_fit c.args.header.now c.args.align c.args.ranges.now _ (omega arith) (returns-clause-slots c)
