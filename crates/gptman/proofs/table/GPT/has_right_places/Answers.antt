use Rattle.gptman.proofs.table.GPT.has_right_places.Goals as goal

pub returns-then-has_right_sectors : goal.returns-then-has_right_sectors
returns-then-has_right_sectors c =
    (λ yes. (c.has_right_sectors.ensures.0 c.if-has_right_sectors.true, c.are_in_place.ensures.0 yes), λ is. c.are_in_place.ensures.1 is.1)
