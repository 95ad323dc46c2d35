use Rattle.std.proofs.Common.{◌∙◌, ap}
use Rattle.std.specs.Borrow.{Bor}
use Rattle.clap.specs.Words.{Text}
use Rattle.gptedit_words.proofs.Shapes.{long_word_is}
use Rattle.gptedit_words.proofs.definition.long_word.Goals as goal

pub returns : goal.returns
returns c = ap (λ (x : Bor Text). x.now) c.unwrap_or.ensures ∙ long_word_is c.strip_prefix.result c.args.word c.strip_prefix.ensures.cases
