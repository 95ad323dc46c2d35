use Rattle.std.proofs.Common.{rules}
use Rattle.gptedit_core.proofs.Ordered.{clear_is}
use Rattle.gptedit_core.proofs.order.has_safe_order.Goals as goal

pub of-read-requires : goal.of-read-requires
of-read-requires c = c.has_layout.ensures.0 (search rules)

pub of-first-requires : goal.of-first-requires
of-first-requires c = c.has_layout-2.ensures.0 (search rules)

pub returns : goal.returns
returns c =
    let clear =
    clear_is c.args.was.now c.args.next.now c.args.size c.is_primary-is_primary.result c.of-read.result c.of-first.result c.is_primary-is_primary.ensures c.of-read.ensures c.of-first.ensures in (
      λ yes. record {
        place = c.are_of_one_place.ensures.0 (search rules);
        layout = c.has_layout.ensures.0 (search rules);
        next_layout = c.has_layout-2.ensures.0 (search rules);
        clear = clear.0 (c.is_clear_of.ensures.0 yes);
      },
      λ is. c.is_clear_of.ensures.1 (clear.1 is.clear),
    )
