use Rattle.gptimg_core.proofs.Spelling.{spelled_once}
use Rattle.gptimg_core.proofs.words_spell_one.Goals as goal

pub returns : goal.returns
returns c = spelled_once
