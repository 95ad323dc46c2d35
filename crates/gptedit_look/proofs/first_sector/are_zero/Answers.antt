use Rattle.std.proofs.Common.{◌≡◌, ◌≤◌, get_or, sym, ◌∙◌, below_more}
use Rattle.gptedit_look.proofs.first_sector.are_zero.Goals as goal

pub loop-at-preserved : goal.loop-at-preserved
loop-at-preserved c =
    below_more (λ k. c.args.first ≤ k → get_or c.args.bytes.now k 0 ≡ 0) c.loop-at.at c.loop-at.invariant
    (λ from. sym c.byte_at.ensures ∙ c.if-byte_at-ne0.false)
