use Rattle.std.proofs.Common.{rules, ◌≡◌, ◌++◌, [], ◌∷◌, refl}
use Rattle.gptman_disk.specs.declared.disk.memory.Event.TheVariants.{Sync}
use Rattle.gptman_disk.proofs.Counting.{counts_kept, counts_sync}
use Rattle.gptman_disk.proofs.Events.{synced}
use Rattle.gptman_disk.proofs.disk.memory.MemoryDiskDisk.sync.Goals as goal

pub returns-clause-wrote : goal.returns-clause-wrote
returns-clause-wrote c = λ honest.
    let d = c.args.self.now in
    let one_more : c.push.new.self.items ≡ d.events.items ++ Sync ∷ [] = search rules in
    synced d.start.items d.bytes.items d.bytes.items d.events.items c.push.new.self.items d.replays one_more refl _ _ _ _

pub returns-then-is_err-clause-kept : goal.returns-then-is_err-clause-kept
returns-then-is_err-clause-kept c = search rules

pub returns-clause-stops : goal.returns-clause-stops
returns-clause-stops c =
    let d = c.args.self.now in
    let one_more : c.push.new.self.items ≡ d.events.items ++ Sync ∷ [] = search rules in
    counts_sync d.start.items d.bytes.items d.bytes.items d.events.items c.push.new.self.items d.replays d.fits _ _ _ _ one_more refl

pub returns-then-not-is_served-clause-stops : goal.returns-then-not-is_served-clause-stops
returns-then-not-is_served-clause-stops c =
    let d = c.args.self.now in
    counts_kept d.start.items d.bytes.items d.bytes.items d.events.items d.events.items d.replays d.fits _ _ _ _ refl

pub returns-then-is_err-clause-stops : goal.returns-then-is_err-clause-stops
returns-then-is_err-clause-stops c =
    let d = c.args.self.now in
    let same : c.push.new.self.items ≡ d.events.items = search rules in
    counts_kept d.start.items d.bytes.items d.bytes.items d.events.items c.push.new.self.items d.replays d.fits _ _ _ _ same
