use Rattle.std.proofs.Common.{map, subst}
use Rattle.std.specs.Prelude.{Some}
use Rattle.toml.specs.View.{view}
use Rattle.gptedit_text.specs.Layouts.{GivesAttributesOf, SaysBitOf}
use Rattle.gptedit_values.specs.Words.{HasBitsOf}
use Rattle.gptedit_text.proofs.Lists.{says_list}
use Rattle.gptedit_text.proofs.layout.keyed.Keyed.attributes.Goals as goal

pub returns-in-Ok : goal.returns-in-Ok
returns-in-Ok c =
    let said : HasBitsOf SaysBitOf (map view c.in-Some-as_array.list.now.items) c.in-Ok.attributes =
    subst (λ values. HasBitsOf SaysBitOf (map view values) c.in-Ok.attributes) c.deref.ensures.value c.in-Ok.ensures.said in
    subst (λ found. GivesAttributesOf found (Some c.in-Ok.attributes)) c.in-Some.ensures
    (says_list c.in-Some.value.now c.in-Some-as_array.list.now c.in-Ok.attributes c.in-Some-as_array.ensures said)
