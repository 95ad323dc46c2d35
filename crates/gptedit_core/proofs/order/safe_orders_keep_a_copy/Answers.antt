use Rattle.gptedit_core.proofs.Remade.{kept_in_order}
use Rattle.gptedit_core.proofs.order.safe_orders_keep_a_copy.Goals as goal

pub returns : goal.returns
returns g c = kept_in_order (g.D.Disk.state c.args.disk.now)
