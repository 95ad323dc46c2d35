use Rattle.std.proofs.Common.{◌≡◌, ◌<◌, ◌^◌, ℕ, length, subst, sym}
use Rattle.gptman.specs.Disk.{DiskState}
use Rattle.gptman_bench.proofs.Readings.{right_copy_read}
use Rattle.gptman_bench.proofs.callers.read_right_copy.Goals as goal

pub returns : goal.returns
returns g c = λ h es stands honest.
    let old : DiskState = g.D.Disk.state c.args.disk.now in
    let size : length old.view ≡ old.size = (g.met.D.Disk.sound c.args.disk.now honest).size in
    let small : length old.view < 2 ^ 64 = subst (λ (n : ℕ). n < 2 ^ 64) (sym size) (g.met.D.Disk.bounded c.args.disk.now) in
    right_copy_read c.right_copies_are_accepted.ensures c.args.sector_size c.read_from.result old (g.D.Disk.state c.read_from.new.disk) h es small stands c.read_from.ensures.answer honest
