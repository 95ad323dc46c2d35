use Rattle.std.proofs.Common.{rules}
use Rattle.gptedit_core.proofs.Remade.{order_else}
use Rattle.gptedit_core.proofs.order.has_order.Goals as goal

pub returns-else-may_lose : goal.returns-else-may_lose
returns-else-may_lose c = order_else c.args.was.now c.args.next.now c.args.size c.args.may_lose c.has_safe_order.result (search rules) c.has_safe_order.ensures
