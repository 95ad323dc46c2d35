use Rattle.gptman.proofs.NameText.{units_more, units_full}
use Rattle.gptman.proofs.codec.name.add_unit.Goals as goal

pub returns-then-len-lt36 : goal.returns-then-len-lt36
returns-then-len-lt36 c = λ us h. units_more _ us _ _ c.if-len-lt36.true h

pub returns-else-len-lt36 : goal.returns-else-len-lt36
returns-else-len-lt36 c = λ us h. units_full _ us _ _ c.if-len-lt36.false h
