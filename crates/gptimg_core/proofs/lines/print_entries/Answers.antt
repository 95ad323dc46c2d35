use Rattle.std.proofs.Common.{sym, subst, ◌∙◌}
use Rattle.std.specs.Io.KnownBytes.{Appends}
use Rattle.gptimg_core.specs.Lines.{entry_lines}
use Rattle.gptimg_core.proofs.Printing.{appends_nothing, unused_line, used_line}
use Rattle.gptimg_core.proofs.lines.print_entries.Goals as goal

pub loop-number-init : goal.loop-number-init
loop-number-init g c = (
  tt,
  tt,
  λ new lines. subst (λ ps. Appends (g.W.Write.contents c.args.out.now) new (entry_lines ps)) (c.into_iter-number-iterator.ensures.into_iter_gives ∙ c.iter-number-items.ensures.items) lines,
)

pub loop-number-preserved-in-Continue-1 : goal.loop-number-preserved-in-Continue-1
loop-number-preserved-in-Continue-1 g c = (
  tt,
  tt,
  λ new lines. c.loop-number.invariant.2 new (used_line _ _ new _ _ _ c.in-Some.ensures.steps (sym c.is_used.ensures ∙ c.if-is_used.true) c.in_ok-print_entry.ensures lines),
)

pub loop-number-preserved : goal.loop-number-preserved
loop-number-preserved g c = (
  tt,
  tt,
  λ new lines. c.loop-number.invariant.2 new (unused_line _ new _ _ _ c.in-Some.ensures.steps (sym c.is_used.ensures ∙ c.if-is_used.false) lines),
)

pub returns : goal.returns
returns g c =
    let done = g.W.Write.contents c.loop-number.out in
    c.loop-number.invariant.2 done (subst (λ ps. Appends done done (entry_lines ps)) (sym c.in-None.ensures.steps.0) (appends_nothing done))
