use Rattle.gptedit_core.proofs.Bits.{chained_bit}
use Rattle.gptedit_core.proofs.attributes.AttributeChange.then.Goals as goal

pub returns : goal.returns
returns c = record {
  bits = λ k b within.
      chained_bit c.args.self.set c.args.self.clear c.args.next.set c.args.next.clear c.apply.result k b (c.apply.ensures.bits k within);
}
