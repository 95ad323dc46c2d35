use Rattle.std.proofs.Common.{rules, ◌≡◌, ◌++◌, codes}
use Rattle.gptedit_values.proofs.BitLists.{reads_digits}
use Rattle.gptedit_values.proofs.attributes.read_attributes.Goals as goal

pub returns-in-Some-clause-refused : goal.returns-in-Some-clause-refused
returns-in-Some-clause-refused c =
    let is : c.args.text.now ≡ codes "0x" ++ c.in-Some.digits.now = search rules in
    reads_digits c.args.text.now c.in-Some.digits.now c.read_digits.result is c.read_digits.ensures
