use Rattle.std.proofs.Common.{arith, refl}
use Rattle.std.proofs.lemmas.Result.{err_from_is_err_and}
use Rattle.std.proofs.lemmas.Iterator.Splits.{YieldsList-from_str_split}
use Rattle.gptedit_values.specs.Words.{SaysBit}
use Rattle.gptedit_values.proofs.BitLists.{reads_all, reads_first, reads_next, reads_wrong}
use Rattle.gptedit_values.proofs.attributes.read_list.Goals as goal

pub loop-word-init : goal.loop-word-init
loop-word-init c = (
  tt,
  tt,
  rw c.into_iter-word-iterator.ensures.into_iter_gives (reads_first _ _ SaysBit _ _ 0
      (YieldsList-from_str_split 44 c.args.text.now (omega arith) c.split-word-items.ensures.text c.split-word-items.ensures.has_more c.split-word-items.ensures.pattern) refl),
)

pub loop-word-preserved : goal.loop-word-preserved
loop-word-preserved c = (
  tt,
  tt,
  reads_next _ _ SaysBit _ c.loop-word.word-iterator c.next.new.self c.in-Some.word c.loop-word.bits c.in_ok-more.more
      c.loop-word.invariant.2 c.in-Some.ensures.steps c.in_ok-more.ensures.said,
)

pub returns-clause-said : goal.returns-clause-said
returns-clause-said c = reads_all _ _ SaysBit _ c.loop-word.word-iterator c.next.new.self c.loop-word.bits c.loop-word.invariant.2 c.in-None.ensures.steps

pub returns-in_err-more-clause-refused : goal.returns-in_err-more-clause-refused
returns-in_err-more-clause-refused c =
    let p = err_from_is_err_and c.from_residual.result c.from_residual.ensures.1 in
    rw (p.1) (reads_wrong _ _ SaysBit _ c.loop-word.word-iterator c.next.new.self c.in-Some.word c.loop-word.bits
    c.loop-word.invariant.2 c.in-Some.ensures.steps c.in_err-more.ensures.refused)
