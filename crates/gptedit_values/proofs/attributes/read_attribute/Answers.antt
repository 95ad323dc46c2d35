use Rattle.std.proofs.Common.{refl}
use Rattle.gptedit_values.proofs.BitLists.{not_attribute}
use Rattle.gptedit_values.proofs.attributes.read_attribute.Goals as goal

pub returns-in-Err-clause-refused : goal.returns-in-Err-clause-refused
returns-in-Err-clause-refused c = not_attribute c.args.word.now (c.in-None.ensures.unknown refl) c.in-Err.ensures
