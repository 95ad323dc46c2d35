use Rattle.std.proofs.Common.{refl}
use Rattle.gptguid_core.specs.OtherTypes.{other_types}
use Rattle.gptguid_core.proofs.others.other_types.Goals as goal

pub returns : goal.returns
unfolding other_types
returns c = record { value = refl }
