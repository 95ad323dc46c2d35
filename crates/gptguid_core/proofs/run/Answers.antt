use Rattle.std.proofs.Common.{◌≡◌, ◌∙◌, IfOk, OnOk, sym, subst, ap}
use Rattle.std.specs.Io.KnownBytes.{Appends}
use Rattle.gptguid_core.specs.Lines.{answer_to}
use Rattle.gptguid_core.proofs.OneWord.{only_word, other_word}
use Rattle.gptguid_core.proofs.run.Goals as goal

pub returns-in_default-as_str-clause-status : goal.returns-in_default-as_str-clause-status
returns-in_default-as_str-clause-status g c =
    let one = only_word c.args.words.now c.word-item.result c.as_str.result.now c.in-len1.len_at_least c.in-len1.len_below c.word-item.is c.as_str.ensures.value in
    λ other. subst (λ answer. IfOk c.print_word.result (λ status. status ≡ answer.0))
    (sym (ap answer_to one ∙ other_word c.as_str.result.now c.in_default-as_str.not-list)) c.print_word.ensures.status

pub returns-in_default-as_str-clause-printed : goal.returns-in_default-as_str-clause-printed
returns-in_default-as_str-clause-printed g c =
    let one = only_word c.args.words.now c.word-item.result c.as_str.result.now c.in-len1.len_at_least c.in-len1.len_below c.word-item.is c.as_str.ensures.value in
    λ other. subst (λ answer. OnOk c.print_word.result (Appends (g.W.Write.contents c.args.out.now) (g.W.Write.contents c.print_word.new.out) answer.1))
    (sym (ap answer_to one ∙ other_word c.as_str.result.now c.in_default-as_str.not-list)) c.print_word.ensures.printed
