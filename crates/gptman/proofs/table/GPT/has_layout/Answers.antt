use Rattle.gptman.proofs.Layouts.{laid_out, places_of}
use Rattle.gptman.proofs.table.GPT.has_layout.Goals as goal

pub returns-then-has_right_header : goal.returns-then-has_right_header
returns-then-has_right_header c =
    let header = c.has_right_header.ensures.0 c.if-has_right_header.true in (
      λ yes. let places = c.has_right_places.ensures.0 yes in laid_out c.args.self.now c.args.size header.0 header.2 header.1 places.0 places.1,
      λ layout. c.has_right_places.ensures.1 (places_of c.args.self.now c.args.size layout),
    )
