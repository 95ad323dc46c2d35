use Rattle.std.proofs.Common.{arith, rules, ◌≡◌, ◌∙◌, ◌++◌, [], ◌∷◌, inl, inr, refl, ap, sym, List}
use Rattle.std.proofs.lemmas.Grind.{common_steps}
use Rattle.gptman_disk.specs.declared.disk.memory.Event.{Event}
use Rattle.gptman_disk.specs.declared.disk.memory.Written.{Written}
use Rattle.gptman_disk.specs.declared.disk.memory.Event.TheVariants.{Write}
use Rattle.gptman_disk.proofs.Counting.{counts_kept, counts_write}
use Rattle.gptman_disk.proofs.Events.{served, refused}
use Rattle.gptman_disk.proofs.disk.memory.MemoryDiskDisk.write_all.Goals as goal

pub returns-then-not-done-clause-wrote : goal.returns-then-not-done-clause-wrote
returns-then-not-done-clause-wrote c = λ honest.
    let d = c.args.self.now in
    let w : Written = record { at = d.position; bytes = c.in-Ok.bytes; done = c.is_served-done.result } in
    let one_more : c.push.new.self.items ≡ d.events.items ++ Write w ∷ [] = search rules in
    let same : c.in-Ok.bytes.items ≡ c.args.buf.now = search rules in
    refused d.start.items d.bytes.items d.bytes.items d.events.items c.push.new.self.items d.replays w d.position c.args.buf.now refl same c.if-not-done.true one_more refl _ _ _ _

pub returns-clause-wrote : goal.returns-clause-wrote
returns-clause-wrote c = λ honest.
    let d = c.args.self.now in
    let w : Written = record { at = d.position; bytes = c.in-Ok.bytes; done = c.is_served-done.result } in
    let one_more : c.push.new.self.items ≡ d.events.items ++ Write w ∷ [] = search rules in
    let same : c.in-Ok.bytes.items ≡ c.args.buf.now = search rules in
    served d.start.items d.bytes.items c.overwrite.new.bytes.items d.events.items c.push.new.self.items d.replays w d.position c.args.buf.now refl same c.if-not-done.false c.requires one_more c.overwrite.ensures.after _ _ _ _

pub returns-clause-moves : goal.returns-clause-moves
returns-clause-moves c = grind (arith, common_steps)

pub returns-then-not-done-clause-refused : goal.returns-then-not-done-clause-refused
returns-then-not-done-clause-refused c =
    let d = c.args.self.now in
    let w : Written = record { at = d.position; bytes = c.in-Ok.bytes; done = c.is_served-done.result } in
    let one_more : c.push.new.self.items ≡ d.events.items ++ Write w ∷ [] = search rules in
    let same : c.in-Ok.bytes.items ≡ c.args.buf.now = search rules in
    inr (sym c.is_served-done.ensures.answers ∙ c.if-not-done.true, record { written = w; place = refl; bytes_are = same; done_is = c.if-not-done.true; start = refl; events = one_more })

pub returns-clause-recorded : goal.returns-clause-recorded
returns-clause-recorded c =
    let d = c.args.self.now in
    let w : Written = record { at = d.position; bytes = c.in-Ok.bytes; done = c.is_served-done.result } in
    let one_more : c.push.new.self.items ≡ d.events.items ++ Write w ∷ [] = search rules in
    let same : c.in-Ok.bytes.items ≡ c.args.buf.now = search rules in
    record { written = w; place = refl; bytes_are = same; done_is = c.if-not-done.false; start = refl; events = one_more }

pub returns-then-not-done-clause-stops : goal.returns-then-not-done-clause-stops
returns-then-not-done-clause-stops c =
    let d = c.args.self.now in
    let w : Written = record { at = d.position; bytes = c.in-Ok.bytes; done = c.is_served-done.result } in
    let one_more : c.push.new.self.items ≡ d.events.items ++ Write w ∷ [] = search rules in
    let same : c.in-Ok.bytes.items ≡ c.args.buf.now = search rules in
    inl (counts_write d.start.items d.bytes.items d.bytes.items d.events.items c.push.new.self.items d.replays d.fits _ _ _ _ w d.position c.args.buf.now refl same d.size c.requires one_more)

pub returns-clause-stops : goal.returns-clause-stops
returns-clause-stops c =
    let d = c.args.self.now in
    let w : Written = record { at = d.position; bytes = c.in-Ok.bytes; done = c.is_served-done.result } in
    let one_more : c.push.new.self.items ≡ d.events.items ++ Write w ∷ [] = search rules in
    let same : c.in-Ok.bytes.items ≡ c.args.buf.now = search rules in
    counts_write d.start.items d.bytes.items c.overwrite.new.bytes.items d.events.items c.push.new.self.items d.replays d.fits _ _ _ _ w d.position c.args.buf.now refl same d.size c.requires one_more

pub returns-in_default-clause-stops : goal.returns-in_default-clause-stops
returns-in_default-clause-stops c =
    let d = c.args.self.now in
    inr ((c.lack_memory.ensures.kind, refl), counts_kept d.start.items d.bytes.items d.bytes.items d.events.items d.events.items d.replays d.fits _ _ _ _ refl)

pub returns-then-is_err-clause-stops : goal.returns-then-is_err-clause-stops
returns-then-is_err-clause-stops c =
    let d = c.args.self.now in
    let same : c.push.new.self.items ≡ d.events.items = search rules in
    inr ((c.lack_memory-then-is_err.ensures.kind, ap (λ (es : List Event). record { start = d.start.items; events = es }) same), counts_kept d.start.items d.bytes.items d.bytes.items d.events.items c.push.new.self.items d.replays d.fits _ _ _ _ same)
