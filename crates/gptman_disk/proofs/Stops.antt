-- A crash after one more event leaves an image.
use Rattle.std.proofs.Common.{◌≡◌, true, false, cond, Bool, ◌≤◌, ℕ, ◌+◌, List, [], ◌∷◌, ◌++◌, length, get_or, replicate, ◌<◌, refl, sym, ◌∙◌, ap, subst, arith}
use Rattle.std.proofs.Math.Bool.{or-true, or-false}
use Rattle.std.proofs.lemmas.Bool.{cond-true, leb-true}
use Rattle.std.proofs.lemmas.List.{length-replicate, length_push}
use Rattle.std.proofs.lemmas.List.Folds.{list_any-append}
use Rattle.std.proofs.lemmas.List.Sums.{fold_push, AllPass-from_list_all}
use Rattle.std.specs.List.{list_all, list_any}
use Rattle.gptman_disk.specs.Disk.{AgreesOutside, overlay}
use Rattle.gptman_disk.specs.Memory.{view_step, view_of, pending_step, pending_of, event_fits}
use Rattle.gptman_disk.specs.Fate.{bytes_left, fate_step, is_sync, since_sync, until_sync, with_fates}
use Rattle.gptman_disk.specs.declared.disk.memory.Written.{Written}
use Rattle.gptman_disk.specs.declared.disk.memory.Event.{Event}
use Rattle.gptman_disk.specs.declared.disk.memory.Event.TheVariants.{Write, Sync}
use Rattle.gptman_disk.specs.declared.disk.memory.Fate.{Fate}
use Rattle.gptman_disk.specs.declared.disk.memory.Fate.TheVariants.{Old, New, Garbage}
use Rattle.gptman_disk.proofs.Ranges.{Ranges, agrees_self, agrees_then, agrees_back, agrees_wider, within_left, within_later, within_self}
use Rattle.gptman_disk.proofs.Overlays.{agrees_overlay}

-- after a sync the last event is a sync; a write does not change whether there is one
has_sync : (events : List Event) → list_any is_sync (events ++ Sync ∷ []) ≡ true
has_sync events = list_any-append is_sync events (Sync ∷ []) ∙ or-true (list_any is_sync events)

has_as_before : (events : List Event) (w : Written) → list_any is_sync (events ++ Write w ∷ []) ≡ list_any is_sync events
has_as_before events w = list_any-append is_sync events (Write w ∷ []) ∙ or-false (list_any is_sync events)

until_here : (events : List Event) → until_sync (events ++ Sync ∷ []) ≡ events ++ Sync ∷ []
until_here [] = refl
until_here (e ∷ events) = cond-true _ _ _ (has_sync (e ∷ events)) ∙ ap (λ es. e ∷ es) (until_here events)

until_as_before : (events : List Event) (w : Written) → until_sync (events ++ Write w ∷ []) ≡ until_sync events
until_as_before [] w = refl
until_as_before (e ∷ events) w =
    ap (λ b. cond b (e ∷ until_sync (events ++ Write w ∷ [])) []) (has_as_before (e ∷ events) w)
    ∙ ap (λ es. cond (list_any is_sync (e ∷ events)) (e ∷ es) []) (until_as_before events w)

since_none : (events : List Event) → since_sync (events ++ Sync ∷ []) ≡ []
since_none [] = refl
since_none (Sync ∷ events) = since_none events
since_none (Write v ∷ events) = cond-true _ _ _ (has_sync events) ∙ since_none events

either_more : (b : Bool) (writes : List Written) (v w : Written) → cond b (writes ++ w ∷ []) (v ∷ (writes ++ w ∷ [])) ≡ cond b writes (v ∷ writes) ++ w ∷ []
either_more true writes v w = refl
either_more false writes v w = refl

since_more : (events : List Event) (w : Written) → since_sync (events ++ Write w ∷ []) ≡ since_sync events ++ w ∷ []
since_more [] w = refl
since_more (Sync ∷ events) w = since_more events w
since_more (Write v ∷ events) w =
    ap (λ b. cond b (since_sync (events ++ Write w ∷ [])) (v ∷ since_sync (events ++ Write w ∷ []))) (has_as_before events w)
    ∙ ap (λ ws. cond (list_any is_sync events) ws (v ∷ ws)) (since_more events w)
    ∙ either_more (list_any is_sync events) (since_sync events) v w

-- the last write has the fate at its index
fate_more : (fates : List Fate) (writes : List Written) (w : Written) (bytes : List ℕ)
    → with_fates fates (writes ++ w ∷ []) bytes ≡ fate_step (get_or fates (length writes) Old) (with_fates fates writes bytes) w.at w.bytes.items
fate_more [] [] w bytes = refl
fate_more (fate ∷ fates) [] w bytes = refl
fate_more [] (v ∷ writes) w bytes = fate_more [] writes w bytes
fate_more (fate ∷ fates) (v ∷ writes) w bytes = fate_more fates writes w (fate_step fate bytes v.at v.bytes.items)

fate_agrees : (fate : Fate) (b : List ℕ) (at : ℕ) (bytes : List ℕ) → at + length bytes ≤ length b → AgreesOutside ((at, length bytes) ∷ []) b (fate_step fate b at bytes)
fate_agrees Old b at bytes fits = agrees_self _ b
fate_agrees New b at bytes fits = agrees_overlay b at bytes fits
fate_agrees (Garbage byte) b at bytes fits =
    let same : length (replicate (length bytes) byte) ≡ length bytes = length-replicate (length bytes) byte in
    subst (λ n. AgreesOutside ((at, n) ∷ []) b (overlay b at (replicate (length bytes) byte))) same
    (agrees_overlay b at (replicate (length bytes) byte) (omega (arith, same, fits)))

pub view_agrees : (view : List ℕ) (w : Written) (done : Bool) → w.at + length w.bytes.items ≤ length view
    → AgreesOutside ((w.at, length w.bytes.items) ∷ []) view (cond done (overlay view w.at w.bytes.items) view)
view_agrees view w true fits = agrees_overlay view w.at w.bytes.items fits
view_agrees view w false fits = agrees_self _ view

-- a recorded write is within the disk
pub written_fits : (size : ℕ) (events : List Event) (i : ℕ) (e : Event) (w : Written) → i < length events → e ≡ get_or events i e → e ≡ Write w
    → list_all (event_fits size) events ≡ true → w.at + length w.bytes.items ≤ size
written_fits size events i e w below at_i is fits =
    leb-true _ _ (ap (λ x. event_fits size x) (sym is ∙ at_i) ∙ AllPass-from_list_all (event_fits size) events fits i e below)

-- After these events: the view, what a crash leaves, and the number of the next fate.
pub record StopsAt (start : List ℕ) (fates : List Fate) (events : List Event) (view left : List ℕ) (next : ℕ) : Type 0 where
  pub view_is : view ≡ view_of start events
  pub left_is : left ≡ bytes_left fates (record { start = start; events = events })
  pub next_is : next ≡ length (since_sync events)
  pub image : AgreesOutside (pending_of events) view left

pub stops_first : (start : List ℕ) (fates : List Fate) (view left : List ℕ) (next : ℕ) → view ≡ start → left ≡ start → next ≡ 0 → StopsAt start fates [] view left next
stops_first start fates view left next view_is left_is next_is = record {
  view_is = view_is;
  left_is = left_is;
  next_is = next_is;
  image = subst (λ b. AgreesOutside [] view b) (view_is ∙ sym left_is) (agrees_self [] view);
}

module _ (start : List ℕ) (fates : List Fate) (events more : List Event) (view left : List ℕ) (next : ℕ) (so_far : StopsAt start fates events view left next) where
  pub stops_synced : more ≡ events ++ Sync ∷ [] → (view' left' : List ℕ) (next' : ℕ) → view' ≡ view → left' ≡ view → next' ≡ 0 → StopsAt start fates more view' left' next'
  stops_synced synced view' left' next' view_is left_is next_is = record {
    view_is = view_is ∙ so_far.view_is ∙ sym (ap (λ (es : List Event). view_of start es) synced ∙ replayed);
    left_is = left_is ∙ so_far.view_is ∙ sym (ap (λ (es : List Event). bytes_left fates (record { start = start; events = es })) synced
        ∙ ap (λ ws. with_fates fates ws (view_of start (until_sync (events ++ Sync ∷ [])))) (since_none events)
        ∙ ap (λ es. view_of start es) (until_here events) ∙ replayed);
    next_is = next_is ∙ sym (ap (λ (es : List Event). length (since_sync es)) synced ∙ ap length (since_none events));
    image = subst (λ b. AgreesOutside (pending_of more) view' b) (view_is ∙ sym left_is) (agrees_self _ view');
  }
    where
      replayed : view_of start (events ++ Sync ∷ []) ≡ view_of start events
      replayed = fold_push view_step start events Sync

  module _ (w : Written) (written : more ≡ events ++ Write w ∷ []) (room : w.at + length w.bytes.items ≤ length view) where
    image_written : (fate : Fate) → AgreesOutside (pending_of more) (view_step view (Write w)) (fate_step fate left w.at w.bytes.items)
    image_written fate =
        let range : ℕ × ℕ = (w.at, length w.bytes.items) in
        let pending : Ranges = pending_of events in
        let is : pending_of more ≡ range ∷ pending = ap (λ (es : List Event). pending_of es) written ∙ fold_push pending_step [] events (Write w) in
        let room_left : w.at + length w.bytes.items ≤ length left = omega (arith, room, so_far.image.long) in
        let moved = agrees_back (agrees_wider (within_left (range ∷ []) pending) (view_agrees view w w.done room)) in
        let kept = agrees_wider (within_later (within_self pending)) so_far.image in
        let fated = agrees_wider (within_left (range ∷ []) pending) (fate_agrees fate left w.at w.bytes.items room_left) in
        subst (λ ps. AgreesOutside ps (view_step view (Write w)) (fate_step fate left w.at w.bytes.items)) (sym is) (agrees_then moved (agrees_then kept fated))

    left_written : bytes_left fates (record { start = start; events = more }) ≡ fate_step (get_or fates next Old) left w.at w.bytes.items
    left_written = ap (λ (es : List Event). bytes_left fates (record { start = start; events = es })) written
        ∙ ap (λ es. with_fates fates (since_sync (events ++ Write w ∷ [])) (view_of start es)) (until_as_before events w)
        ∙ ap (λ ws. with_fates fates ws (view_of start (until_sync events))) (since_more events w)
        ∙ fate_more fates (since_sync events) w (view_of start (until_sync events))
        ∙ ap (λ n. fate_step (get_or fates n Old) (bytes_left fates (record { start = start; events = events })) w.at w.bytes.items) (sym so_far.next_is)
        ∙ ap (λ b. fate_step (get_or fates next Old) b w.at w.bytes.items) (sym so_far.left_is)

    pub stops_written : (view' left' : List ℕ) (next' : ℕ) → view' ≡ view_step view (Write w) → left' ≡ fate_step (get_or fates next Old) left w.at w.bytes.items → next' ≡ next + 1
        → StopsAt start fates more view' left' next'
    stops_written view' left' next' view_is left_is next_is = record {
      view_is = view_is ∙ ap (λ v. view_step v (Write w)) so_far.view_is ∙ sym (ap (λ (es : List Event). view_of start es) written ∙ fold_push view_step start events (Write w));
      left_is = left_is ∙ sym left_written;
      next_is = next_is ∙ ap (λ n. n + 1) so_far.next_is ∙ sym (ap (λ (es : List Event). length (since_sync es)) written ∙ ap length (since_more events w) ∙ length_push (since_sync events) w);
      image = subst (λ v. AgreesOutside (pending_of more) v left') (sym view_is)
          (subst (λ b. AgreesOutside (pending_of more) (view_step view (Write w)) b) (sym left_is) (image_written (get_or fates next Old)));
    }
