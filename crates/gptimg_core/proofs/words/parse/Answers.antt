use Rattle.std.proofs.Common.{◌≡◌, ◌<◌, List, [], ◌∷◌, length, None, arith}
use Rattle.std.proofs.lemmas.Grind.{common_steps}
use Rattle.std.specs.Prelude.{String}
use Rattle.gptimg_core.specs.Spelling.{texts_of}
use Rattle.gptimg_core.specs.Words.{command_in}
use Rattle.gptimg_core.proofs.Spelling.{answers_only, answers_spelled, answers_usual}
use Rattle.gptimg_core.proofs.words.parse.Goals as goal

-- fewer than two words are not a command
too_few : {A : Type 0} (words : List (String A)) → length words < 2 → None ≡ command_in (texts_of words)
too_few [] few = λ i. None
too_few (a ∷ []) few = λ i. None
too_few (a ∷ b ∷ words) few = absurd (omega (arith, few))

pub returns-in_default-clause-only : goal.returns-in_default-clause-only
returns-in_default-clause-only c = answers_only None (texts_of c.args.words.now) (too_few c.args.words.now c.in_default.len_below)

pub returns-in_default-clause-usual : goal.returns-in_default-clause-usual
returns-in_default-clause-usual c = answers_usual None (texts_of c.args.words.now) (too_few c.args.words.now c.in_default.len_below)

pub returns-clause-spelled : goal.returns-clause-spelled
returns-clause-spelled c = answers_spelled c.parse_command.result (texts_of c.args.words.now) (grind (arith, common_steps))

pub returns-clause-only : goal.returns-clause-only
returns-clause-only c = answers_only c.parse_command.result (texts_of c.args.words.now) (grind (arith, common_steps))

pub returns-clause-usual : goal.returns-clause-usual
returns-clause-usual c = answers_usual c.parse_command.result (texts_of c.args.words.now) (grind (arith, common_steps))
