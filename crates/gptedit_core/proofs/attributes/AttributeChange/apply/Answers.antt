use Rattle.std.proofs.Common.{rules}
use Rattle.gptedit_core.proofs.Bits.{applied_bit}
use Rattle.gptedit_core.proofs.attributes.AttributeChange.apply.Goals as goal

pub returns : goal.returns
returns c = record { bits = λ k within. applied_bit c.args.attributes c.args.self.clear c.args.self.set k (search rules) within }
