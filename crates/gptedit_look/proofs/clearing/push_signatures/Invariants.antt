use Rattle.std.proofs.Common.{◌⊎◌, ℕ, drop}
use Rattle.gptman.specs.Ranges.{Inside}
use Rattle.gptedit_look.specs.Wiped.{ranges_in, IsOfSignature}
use Rattle.gptedit_look.proofs.clearing.push_signatures.Given as goal

abbrev pub invariant-loop-signature : goal.invariant-loop-signature
invariant-loop-signature l = record {
  only : (k : ℕ) → Inside (ranges_in l.ranges.items) k → Inside (ranges_in l.fn.ranges.items) k ⊎ IsOfSignature k l.signatures;
  kept : (k : ℕ) → Inside (ranges_in l.fn.ranges.items) k → Inside (ranges_in l.ranges.items) k;
  all : (k : ℕ) → IsOfSignature k l.signatures → IsOfSignature k (drop l.signature-index l.signatures) ⊎ Inside (ranges_in l.ranges.items) k;
}
