use Rattle.std.proofs.Common.{rules, ◌≡◌, ◌+◌, ◌++◌, [], ◌∷◌, true, List, ℕ, length, get_or, take, refl, arith, subst, sym, ap, ◌∙◌, Vec}
use Rattle.std.specs.List.{list_all}
use Rattle.std.specs.declared.alloc.Global.{Global}
use Rattle.gptman_disk.specs.declared.disk.memory.Event.{Event}
use Rattle.gptman_disk.specs.declared.disk.memory.Event.TheVariants.{Write, Sync}
use Rattle.gptman_disk.specs.declared.disk.memory.Fate.TheVariants.{Old}
use Rattle.std.proofs.lemmas.Grind.{common_steps}
use Rattle.std.proofs.lemmas.List.{take_all, take_more}
use Rattle.std.proofs.lemmas.Result.{IfOk-weaker}
use Rattle.gptman_disk.specs.Disk.{AgreesOutside, IsFresh}
use Rattle.gptman_disk.specs.Fate.{bytes_left, fate_step, history_of}
use Rattle.gptman_disk.specs.Memory.{event_fits, memory_state, pending_of, view_step}
use Rattle.gptman_disk.proofs.Stops.{StopsAt, stops_first, stops_synced, stops_written, written_fits}
use Rattle.gptman_disk.proofs.disk.memory.MemoryDisk.stop.Goals as goal
use Rattle.gptman_disk.proofs.disk.memory.MemoryDisk.stop.Goals.{in-Sync+in_ok-left-in-Sync, in-Write+then-written, in-Write+else-written}

pub loop-event-init : goal.loop-event-init
loop-event-init c = record {
  so_far = stops_first c.args.self.start.items c.args.fates.now _ _ 0 (search rules) (search rules) refl;
  few = search rules;
  long_view = search rules;
  long_left = search rules;
}

pub loop-event-preserved : goal.loop-event-preserved
loop-event-preserved c =
    let d = c.args.self in
    let events = c.deref-event-items.result.now in
    let i = c.loop-event.event-index in
    let e = c.event-item.result in
    let fates = c.args.fates.now in
    let before : List Event = take i events in
    let after : List Event = take (i + 1) events in
    let view : List ℕ = c.loop-event.view.items in
    let left : List ℕ = c.loop-event.left.items in
    let next = c.loop-event.next in
    let inv = c.loop-event.invariant in
    let step : after ≡ before ++ e ∷ [] = take_more events i e c.loop-event-test.true ∙ ap (λ (x : Event). before ++ x ∷ []) (sym c.event-item.is) in
    let same : events ≡ d.events.items = search rules in
    let fits : list_all (event_fits (length d.start.items)) events ≡ true = ap (list_all (event_fits (length d.start.items))) same ∙ d.fits in
    elim c.match-event.branch [
      | in-Sync+in_ok-left-in-Sync w ↦
          let one_more : after ≡ before ++ Sync ∷ [] = step ∙ ap (λ (x : Event). before ++ x ∷ []) w.in-Sync.is in
          let copied : w.in_ok-left-in-Sync.left.items ≡ view = search rules in
          let view_is = ap (λ (v : Vec ℕ Global). v.items) w.view-is in
          let left_is = ap (λ (v : Vec ℕ Global). v.items) w.left-is ∙ copied in
          record {
            so_far = stops_synced d.start.items fates before after view left next inv.so_far one_more _ _ _ view_is left_is w.next-is;
            few = omega (arith, w.next-is);
            long_view = ap length view_is ∙ inv.long_view;
            long_left = ap length left_is ∙ inv.long_view;
          }
      | in-Write+then-written w ↦
          let here = w.in-Write.written in
          let one_more : after ≡ before ++ Write here ∷ [] = step ∙ ap (λ (x : Event). before ++ x ∷ []) w.in-Write.is in
          let room = written_fits (length d.start.items) events i e here c.loop-event-test.true c.event-item.is w.in-Write.is fits in
          let view_is : c.match-event.view.items ≡ view_step view (Write here) = grind (arith, common_steps) in
          let fate : w.unwrap_or-fate.result ≡ get_or fates next Old = grind (arith, common_steps) in
          let left_is : c.match-event.left.items ≡ fate_step (get_or fates next Old) left here.at here.bytes.items = grind (arith, common_steps) in
          record {
            so_far = stops_written d.start.items fates before after view left next inv.so_far here one_more (omega (arith, room, inv.long_view)) _ _ _ view_is left_is w.next-is;
            few = omega (arith, w.next-is, inv.few);
            long_view = ap (λ (v : Vec ℕ Global). length v.items) w.view-is ∙ w.overwrite.ensures.len ∙ inv.long_view;
            long_left = ap (λ (v : Vec ℕ Global). length v.items) w.left-is ∙ w.leave.ensures.len ∙ inv.long_left;
          }
      | in-Write+else-written w ↦
          let here = w.in-Write.written in
          let one_more : after ≡ before ++ Write here ∷ [] = step ∙ ap (λ (x : Event). before ++ x ∷ []) w.in-Write.is in
          let room = written_fits (length d.start.items) events i e here c.loop-event-test.true c.event-item.is w.in-Write.is fits in
          let view_is : c.match-event.view.items ≡ view_step view (Write here) = grind (arith, common_steps) in
          let fate : w.unwrap_or-fate.result ≡ get_or fates next Old = grind (arith, common_steps) in
          let left_is : c.match-event.left.items ≡ fate_step (get_or fates next Old) left here.at here.bytes.items = grind (arith, common_steps) in
          record {
            so_far = stops_written d.start.items fates before after view left next inv.so_far here one_more (omega (arith, room, inv.long_view)) _ _ _ view_is left_is w.next-is;
            few = omega (arith, w.next-is, inv.few);
            long_view = ap (λ (v : Vec ℕ Global). length v.items) w.view-is ∙ inv.long_view;
            long_left = ap (λ (v : Vec ℕ Global). length v.items) w.left-is ∙ w.leave.ensures.len ∙ inv.long_left;
          }
    ]

pub returns-clause-image : goal.returns-clause-image
returns-clause-image c =
    let d = c.args.self in
    let events = c.deref-event-items.result.now in
    let same : events ≡ d.events.items = search rules in
    let whole : take c.loop-event.event-index events ≡ d.events.items = take_all _ _ c.loop-event-test.false ∙ same in
    let so_far : StopsAt d.start.items c.args.fates.now d.events.items c.loop-event.view.items c.loop-event.left.items c.loop-event.next =
    subst (λ (es : List Event). StopsAt d.start.items c.args.fates.now es c.loop-event.view.items c.loop-event.left.items c.loop-event.next) whole c.loop-event.invariant.so_far in
    let image : AgreesOutside (pending_of d.events.items) d.bytes.items c.loop-event.left.items =
    subst (λ v. AgreesOutside (pending_of d.events.items) v c.loop-event.left.items) (so_far.view_is ∙ sym d.replays) so_far.image in
    IfOk-weaker c.new.result _ _ (λ disk is. subst (λ b. AgreesOutside (pending_of d.events.items) d.bytes.items b) (sym is.view) image) c.new.ensures.value

pub returns-clause-value : goal.returns-clause-value
returns-clause-value c =
    let d = c.args.self in
    let events = c.deref-event-items.result.now in
    let same : events ≡ d.events.items = search rules in
    let whole : take c.loop-event.event-index events ≡ d.events.items = take_all _ _ c.loop-event-test.false ∙ same in
    let left_is : c.loop-event.left.items ≡ bytes_left c.args.fates.now (history_of d) =
    c.loop-event.invariant.so_far.left_is ∙ ap (λ (es : List Event). bytes_left c.args.fates.now (record { start = d.start.items; events = es })) whole in
    IfOk-weaker c.new.result _ _ (λ disk is. subst (λ b. IsFresh b (memory_state disk.start.items disk.bytes.items disk.events.items disk.position disk.failures)) left_is is) c.new.ensures.value
