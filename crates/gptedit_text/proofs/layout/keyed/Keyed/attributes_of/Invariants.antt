use Rattle.gptedit_text.proofs.Lists.{SofarAt}
use Rattle.gptedit_text.proofs.layout.keyed.Keyed.attributes_of.Given as goal

abbrev pub invariant-loop-value : goal.invariant-loop-value
invariant-loop-value l = SofarAt l.list l.value-index l.bits
