-- One more event in the record of a disk in memory.
use Rattle.std.proofs.Common.{◌≡◌, true, false, inl, inr, ⊎_elim, ◌≤◌, ℕ, ◌+◌, List, [], ◌∷◌, ◌++◌, length, take, refl, sym, ◌∙◌, ap, subst, arith}
use Rattle.std.proofs.lemmas.List.{take_all, take-append-le, length_push}
use Rattle.std.proofs.lemmas.List.Sums.{fold_push}
use Rattle.std.proofs.lemmas.Bool.{cases_lt}
use Rattle.gptman_disk.specs.Disk.{AgreesOutside, Within, Elapses, Wrote, overlay}
use Rattle.gptman_disk.specs.Memory.{view_step, pending_step, view_of, pending_of, LeftSince, memory_state, memory_sound}
use Rattle.gptman_disk.specs.declared.disk.memory.Written.{Written}
use Rattle.gptman_disk.specs.declared.disk.memory.Event.{Event}
use Rattle.gptman_disk.specs.declared.disk.memory.Event.TheVariants.{Write, Sync}
use Rattle.gptman_disk.proofs.Ranges.{Ranges, agrees_self, agrees_then, agrees_wider, within_self, within_left, within_right, within_none}
use Rattle.gptman_disk.proofs.Overlays.{agrees_overlay}

module _ (start bytes after_bytes : List ℕ) (events after_events : List Event) (e : Event) (ranges : Ranges)
    (replays : bytes ≡ view_of start events) (one_more : after_events ≡ events ++ e ∷ []) (changed : after_bytes ≡ view_step bytes e)
    (here : AgreesOutside ranges bytes (view_step bytes e)) (joins : Within (pending_step (pending_of events) e) (ranges ++ pending_of events)) where
  longer : length after_events ≡ length events + 1
  longer = ap (λ (l : List Event). length l) one_more ∙ length_push events e

  still : (n : ℕ) → n ≤ length events → take n after_events ≡ take n events
  still n le = ap (λ (l : List Event). take n l) one_more ∙ take-append-le n events (e ∷ []) le

  replays_after : after_bytes ≡ view_of start after_events
  replays_after = changed ∙ ap (λ v. view_step v e) replays ∙ sym (ap (λ (l : List Event). view_of start l) one_more ∙ fold_push view_step start events e)

  pending_after : pending_of after_events ≡ pending_step (pending_of events) e
  pending_after = ap (λ (l : List Event). pending_of l) one_more ∙ fold_push pending_step [] events e

  agrees : AgreesOutside ranges bytes after_bytes
  agrees = subst (λ v. AgreesOutside ranges bytes v) (sym changed) here

  within : Within (pending_of after_events) (ranges ++ pending_of events)
  within = subst (λ ps. Within ps (ranges ++ pending_of events)) (sym pending_after) joins

  earlier_image : (n : ℕ) (b : List ℕ) → n ≤ length events → AgreesOutside (pending_of (take n after_events)) (view_of start (take n after_events)) b → AgreesOutside (pending_of (take n events)) (view_of start (take n events)) b
  earlier_image n b le image = subst (λ (l : List Event). AgreesOutside (pending_of l) (view_of start l) b) (still n le) image

  elapses : (p f p' f' : ℕ) → Elapses (memory_state start bytes events p f) (memory_state start after_bytes after_events p' f')
  elapses p f p' f' = record {
    later = omega (arith, longer);
    nothing_else = λ t b le left. ⊎_elim
        (λ new. inr (record { after = left.after; since = omega (arith, new); until = left.until; image = left.image }))
        (λ old. inl (record { after = left.after; since = left.since; until = old; image = earlier_image left.after b old left.image }))
        (cases_lt (length events) left.after);
    keeps = λ t b le left. record {
      after = left.after;
      since = left.since;
      until = omega (arith, left.until, longer);
      image = subst (λ (l : List Event). AgreesOutside (pending_of l) (view_of start l) b) (sym (still left.after left.until)) left.image;
    };
    earlier = (memory_sound start after_bytes after_events p' f' replays_after).earlier;
  }

  leaves : (b : List ℕ) → LeftSince start after_events (length events) b → AgreesOutside (ranges ++ pending_of events) bytes b
  leaves b left = ⊎_elim
      (λ new.
      let all : take left.after after_events ≡ after_events = take_all left.after after_events (omega (arith, new, longer)) in
      let image : AgreesOutside (pending_of after_events) after_bytes b =
      subst (λ v. AgreesOutside (pending_of after_events) v b) (sym replays_after) (subst (λ (l : List Event). AgreesOutside (pending_of l) (view_of start l) b) all left.image) in
      agrees_then (agrees_wider (within_left ranges (pending_of events)) agrees) (agrees_wider within image))
      (λ old.
      let all : take left.after events ≡ events = take_all left.after events left.since in
      let image : AgreesOutside (pending_of events) bytes b =
      subst (λ v. AgreesOutside (pending_of events) v b) (sym replays) (subst (λ (l : List Event). AgreesOutside (pending_of l) (view_of start l) b) all (earlier_image left.after b old left.image)) in
      agrees_wider (within_right ranges (pending_of events)) image)
      (cases_lt (length events) left.after)

  pub recorded : (p f p' f' : ℕ) → Wrote ranges (memory_state start bytes events p f) (memory_state start after_bytes after_events p' f')
  recorded p f p' f' = record { honest = refl; view = agrees; pending = within; crash = leaves; time = elapses p f p' f' }

module _ (start bytes after_bytes : List ℕ) (events after_events : List Event) (replays : bytes ≡ view_of start events) where
  pub synced : after_events ≡ events ++ Sync ∷ [] → after_bytes ≡ bytes → (p f p' f' : ℕ) → Wrote [] (memory_state start bytes events p f) (memory_state start after_bytes after_events p' f')
  synced one_more same = recorded start bytes after_bytes events after_events Sync [] replays one_more same (agrees_self [] bytes) within_none

  pub served : (w : Written) (at : ℕ) (buf : List ℕ) → w.at ≡ at → w.bytes.items ≡ buf → w.done ≡ true → at + length buf ≤ length bytes → after_events ≡ events ++ Write w ∷ [] → after_bytes ≡ overlay bytes at buf
      → (p f p' f' : ℕ) → Wrote ((at, length buf) ∷ []) (memory_state start bytes events p f) (memory_state start after_bytes after_events p' f')
  served w at buf at_is buf_is done fits one_more is = recorded start bytes after_bytes events after_events (Write w) ((at, length buf) ∷ []) replays one_more (is ∙ sym step)
      (subst (λ v. AgreesOutside ((at, length buf) ∷ []) bytes v) (sym step) (agrees_overlay bytes at buf fits))
      (subst (λ r. Within (r ∷ pending_of events) ((at, length buf) ∷ pending_of events)) (sym range) (within_self ((at, length buf) ∷ pending_of events)))
    where
      step : view_step bytes (Write w) ≡ overlay bytes at buf
      step = grind (arith, at_is, buf_is, done)

      range : ◌≡◌ {A = ℕ × ℕ} (w.at, length w.bytes.items) (at, length buf)
      range = λ i. (at_is i, length (buf_is i))

  pub refused : (w : Written) (at : ℕ) (buf : List ℕ) → w.at ≡ at → w.bytes.items ≡ buf → w.done ≡ false → after_events ≡ events ++ Write w ∷ [] → after_bytes ≡ bytes
      → (p f p' f' : ℕ) → Wrote ((at, length buf) ∷ []) (memory_state start bytes events p f) (memory_state start after_bytes after_events p' f')
  refused w at buf at_is buf_is not_done one_more is = recorded start bytes after_bytes events after_events (Write w) ((at, length buf) ∷ []) replays one_more (is ∙ sym step)
      (subst (λ v. AgreesOutside ((at, length buf) ∷ []) bytes v) (sym step) (agrees_self ((at, length buf) ∷ []) bytes))
      (subst (λ r. Within (r ∷ pending_of events) ((at, length buf) ∷ pending_of events)) (sym range) (within_self ((at, length buf) ∷ pending_of events)))
    where
      step : view_step bytes (Write w) ≡ bytes
      step = grind (arith, not_done)

      range : ◌≡◌ {A = ℕ × ℕ} (w.at, length w.bytes.items) (at, length buf)
      range = λ i. (at_is i, length (buf_is i))
