use Rattle.gptimg_core.proofs.Spelling.{usual_words}
use Rattle.gptimg_core.proofs.usual_words_spell.Goals as goal

pub returns : goal.returns
returns c = usual_words
