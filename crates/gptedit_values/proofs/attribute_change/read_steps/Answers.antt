use Rattle.std.proofs.Common.{arith, refl}
use Rattle.std.proofs.lemmas.Result.{err_from_is_err_and}
use Rattle.std.proofs.lemmas.Iterator.Splits.{YieldsList-from_str_split}
use Rattle.gptedit_values.proofs.Steps.{follows_all, follows_first, follows_next, follows_wrong}
use Rattle.gptedit_values.proofs.attribute_change.read_steps.Goals as goal

pub loop-word-init : goal.loop-word-init
loop-word-init c = (
  tt,
  tt,
  rw c.into_iter-word-iterator.ensures.into_iter_gives (follows_first _ _ _ _ _
      (YieldsList-from_str_split 44 c.args.text.now (omega arith) c.split-word-items.ensures.text c.split-word-items.ensures.has_more c.split-word-items.ensures.pattern) refl refl),
)

pub loop-word-preserved : goal.loop-word-preserved
loop-word-preserved c = (
  tt,
  tt,
  follows_next _ _ _ c.loop-word.word-iterator c.next.new.self c.in-Some.word c.loop-word.change c.in_ok-step.step c.then-change.result
      c.loop-word.invariant.2 c.in-Some.ensures.steps c.in_ok-step.ensures.said c.then-change.ensures.bits,
)

pub returns-clause-said : goal.returns-clause-said
returns-clause-said c = follows_all _ _ _ c.loop-word.word-iterator c.next.new.self c.loop-word.change c.loop-word.invariant.2 c.in-None.ensures.steps

pub returns-in_err-step-clause-refused : goal.returns-in_err-step-clause-refused
returns-in_err-step-clause-refused c =
    let p = err_from_is_err_and c.from_residual.result c.from_residual.ensures.1 in
    rw (p.1) (follows_wrong _ _ _ c.loop-word.word-iterator c.next.new.self c.in-Some.word c.loop-word.change
    c.loop-word.invariant.2 c.in-Some.ensures.steps c.in_err-step.ensures.refused)
