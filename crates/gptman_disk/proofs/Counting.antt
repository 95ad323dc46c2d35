-- Each image that a crash may leave counts as left.
use Rattle.std.proofs.Common.{◌≡◌, true, ◌≤◌, ℕ, ◌+◌, List, [], ◌∷◌, ◌++◌, length, get_or, refl, sym, ◌∙◌, ap, subst, arith, append_assoc}
use Rattle.std.proofs.lemmas.Bool.{and_from, and_parts, leb-true, le-leb}
use Rattle.std.proofs.lemmas.List.{append-nil, length_push}
use Rattle.std.proofs.lemmas.List.Folds.{list_all-append}
use Rattle.std.proofs.lemmas.List.Sums.{fold_push}
use Rattle.std.specs.List.{list_all}
use Rattle.gptman_disk.specs.Disk.{AgreesOutside}
use Rattle.gptman_disk.specs.Fate.{bytes_left, fate_step, CountsStops}
use Rattle.gptman_disk.specs.Memory.{event_fits, memory_sound, memory_state, pending_of, pending_step, view_of, view_step, LeftSince}
use Rattle.gptman_disk.specs.declared.disk.memory.Written.{Written}
use Rattle.gptman_disk.specs.declared.disk.memory.Event.{Event}
use Rattle.gptman_disk.specs.declared.disk.memory.Event.TheVariants.{Write, Sync}
use Rattle.gptman_disk.specs.declared.disk.memory.Fate.{Fate}
use Rattle.gptman_disk.specs.declared.disk.memory.Fate.TheVariants.{Old}
use Rattle.gptman_disk.proofs.Ranges.{agrees_back, agrees_then, agrees_wider, within_left}
use Rattle.gptman_disk.proofs.Events.{synced}
use Rattle.gptman_disk.proofs.Stops.{StopsAt, stops_first, stops_synced, stops_written, view_agrees}

-- The bytes that a crash with these fates leaves after these events, and the number of the next fate.
record StopsWith (start : List ℕ) (fates : List Fate) (events : List Event) : Type 0 where
  view : List ℕ
  left : List ℕ
  next : ℕ
  so_far : StopsAt start fates events view left next
  long : length view ≡ length start

one_more : (start : List ℕ) (fates : List Fate) (events : List Event) (e : Event) → event_fits (length start) e ≡ true → StopsWith start fates events → StopsWith start fates (events ++ e ∷ [])
one_more start fates events Sync fits s = record {
  view = s.view;
  left = s.view;
  next = 0;
  so_far = stops_synced start fates events (events ++ Sync ∷ []) s.view s.left s.next s.so_far refl s.view s.view 0 refl refl refl;
  long = s.long;
}
one_more start fates events (Write w) fits s =
    let room : w.at + length w.bytes.items ≤ length s.view = omega (arith, leb-true _ _ fits, s.long) in
    record {
      view = view_step s.view (Write w);
      left = fate_step (get_or fates s.next Old) s.left w.at w.bytes.items;
      next = s.next + 1;
      so_far = stops_written start fates events (events ++ Write w ∷ []) s.view s.left s.next s.so_far w refl room _ _ _ refl refl refl;
      long = (view_agrees s.view w w.done room).long ∙ s.long;
    }

all_from : (start : List ℕ) (fates : List Fate) (before events : List Event) → list_all (event_fits (length start)) events ≡ true → StopsWith start fates before → StopsWith start fates (before ++ events)
all_from start fates before [] fits s = subst (λ es. StopsWith start fates es) (sym (append-nil before)) s
all_from start fates before (e ∷ events) fits s =
    let parts = and_parts _ _ fits in
    subst (λ es. StopsWith start fates es) (append_assoc before (e ∷ []) events) (all_from start fates (before ++ e ∷ []) events parts.1 (one_more start fates before e parts.0 s))

-- whatever the fates, a crash leaves an image
fated : (start : List ℕ) (fates : List Fate) (events : List Event) → list_all (event_fits (length start)) events ≡ true
    → AgreesOutside (pending_of events) (view_of start events) (bytes_left fates (record { start = start; events = events }))
fated start fates events fits =
    let none : StopsWith start fates [] = record { view = start; left = start; next = 0; so_far = stops_first start fates start start 0 refl refl refl; long = refl } in
    let s = all_from start fates [] events fits none in
    subst (λ v. AgreesOutside (pending_of events) v (bytes_left fates (record { start = start; events = events }))) s.so_far.view_is
    (subst (λ b. AgreesOutside (pending_of events) s.view b) s.so_far.left_is s.so_far.image)

-- an image counts as left since any moment up to now
left_now : (start : List ℕ) (events : List Event) (t : ℕ) (b : List ℕ) → t ≤ length events → AgreesOutside (pending_of events) (view_of start events) b → LeftSince start events t b
left_now start events t b le image = (memory_sound start (view_of start events) events 0 0 refl).counts_now t b le image

module _ (start bytes after_bytes : List ℕ) (events after_events : List Event) (replays : bytes ≡ view_of start events) (fits : list_all (event_fits (length start)) events ≡ true) (p f p' f' : ℕ) where
  image : (b : List ℕ) → AgreesOutside (pending_of events) bytes b → AgreesOutside (pending_of events) (view_of start events) b
  image b agrees = subst (λ v. AgreesOutside (pending_of events) v b) replays agrees

  -- nothing was recorded
  pub counts_kept : after_events ≡ events → CountsStops [] (record { start = start; events = after_events }) (memory_state start bytes events p f) (memory_state start after_bytes after_events p' f')
  counts_kept same = subst (λ (es : List Event). CountsStops [] (record { start = start; events = es }) (memory_state start bytes events p f) (memory_state start after_bytes es p' f')) (sym same) (record {
    within = λ t b le agrees. left_now start events t b le (image b agrees);
    after = λ t fates le. left_now start events t _ le (fated start fates events fits);
  })

  pub counts_sync : after_events ≡ events ++ Sync ∷ [] → after_bytes ≡ bytes → CountsStops [] (record { start = start; events = after_events }) (memory_state start bytes events p f) (memory_state start after_bytes after_events p' f')
  counts_sync one_more same =
      let fit : list_all (event_fits (length start)) after_events ≡ true = ap (list_all (event_fits (length start))) one_more ∙ list_all-append _ events (Sync ∷ []) ∙ and_from _ _ fits refl in
      record {
        within = λ t b le agrees. (synced start bytes after_bytes events after_events replays one_more same p f p' f').time.keeps t b le (left_now start events t b le (image b agrees));
        after = λ t fates le. left_now start after_events t _ le (fated start fates after_events fit);
      }

  pub counts_write : (w : Written) (at : ℕ) (buf : List ℕ) → w.at ≡ at → w.bytes.items ≡ buf → length bytes ≡ length start → at + length buf ≤ length bytes → after_events ≡ events ++ Write w ∷ []
      → CountsStops ((at, length buf) ∷ []) (record { start = start; events = after_events }) (memory_state start bytes events p f) (memory_state start after_bytes after_events p' f')
  counts_write w at buf at_is buf_is long room one_more =
      let range : ℕ × ℕ = (w.at, length w.bytes.items) in
      let here : range ≡ (at, length buf) = λ i. (at_is i, length (buf_is i)) in
      let inside : w.at + length w.bytes.items ≤ length bytes = omega (arith, room, at_is, ap (λ (l : List ℕ). length l) buf_is) in
      let inside_start : w.at + length w.bytes.items ≤ length start = omega (arith, inside, long) in
      let fit : list_all (event_fits (length start)) after_events ≡ true =
      ap (list_all (event_fits (length start))) one_more ∙ list_all-append _ events (Write w ∷ []) ∙ and_from _ _ fits (and_from _ _ (le-leb _ _ inside_start) refl) in
      let longer : length after_events ≡ length events + 1 = ap (λ (l : List Event). length l) one_more ∙ length_push events (Write w) in
      let pending : pending_of after_events ≡ range ∷ pending_of events = ap (λ (l : List Event). pending_of l) one_more ∙ fold_push pending_step [] events (Write w) in
      let view : view_of start after_events ≡ view_step bytes (Write w) =
      ap (λ (l : List Event). view_of start l) one_more ∙ fold_push view_step start events (Write w) ∙ ap (λ v. view_step v (Write w)) (sym replays) in
      let moved : AgreesOutside (range ∷ pending_of events) (view_step bytes (Write w)) bytes =
      agrees_back (agrees_wider (within_left (range ∷ []) (pending_of events)) (view_agrees bytes w w.done inside)) in
      record {
        within = λ t b le agrees.
            let given : AgreesOutside (range ∷ pending_of events) bytes b = subst (λ r. AgreesOutside (r ∷ pending_of events) bytes b) (sym here) agrees in
            left_now start after_events t b (omega (arith, le, longer))
            (subst (λ ps. AgreesOutside ps (view_of start after_events) b) (sym pending) (subst (λ v. AgreesOutside (range ∷ pending_of events) v b) (sym view) (agrees_then moved given)));
        after = λ t fates le. left_now start after_events t _ le (fated start fates after_events fit);
      }
