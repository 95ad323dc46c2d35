-- A disk in memory: its bytes and pending ranges, given its bytes at the start and its record of writes and syncs.
use Rattle.std.specs.Prelude.{◌≡◌, ◌≤◌, ◌+◌, ℕ, Bool, true, leb, nat_lt, Option, Some, None, ◌-◌, List, [], ◌∷◌, length, take, if◌then◌else◌}
use Rattle.std.specs.List.{fold}
use Rattle.std.proofs.Common.{subst, sym, arith}
use Rattle.std.proofs.lemmas.List.{take_all}
use Rattle.gptman_disk.specs.Disk.{DiskState, IsSound, AgreesOutside, overlay}
use Rattle.gptman_disk.specs.declared.disk.memory.Event.{Event}
use Rattle.gptman_disk.specs.declared.disk.memory.Event.TheVariants.{Write, Sync}

-- the bytes that a read returns after the event
abbrev pub view_step : List ℕ → Event → List ℕ
view_step view (Write written) = if written.done then overlay view written.at written.bytes.items else view
view_step view Sync = view

-- the pending ranges after the event
abbrev pub pending_step : List (ℕ × ℕ) → Event → List (ℕ × ℕ)
pending_step pending (Write written) = (written.at, length written.bytes.items) ∷ pending
pending_step pending Sync = []

-- the bytes that a read returns after these events
abbrev pub view_of : List ℕ → List Event → List ℕ
view_of start events = fold view_step start events

-- the ranges that are pending after these events, the newest first
abbrev pub pending_of : List Event → List (ℕ × ℕ)
pending_of events = fold pending_step [] events

-- the event is within a disk of this size
abbrev pub event_fits : ℕ → Event → Bool
event_fits size (Write written) = leb (written.at + length written.bytes.items) size
event_fits size Sync = true

-- b may be left by a crash after some of the events, at least t of them
pub record LeftSince (start : List ℕ) (events : List Event) (t : ℕ) (b : List ℕ) : Type 0 where
  pub after : ℕ
  pub since : t ≤ after
  pub until : after ≤ length events
  pub image : AgreesOutside (pending_of (take after events)) (view_of start (take after events)) b

-- the state of the disk, as contracts see it; its clock counts the events
abbrev pub memory_state : List ℕ → List ℕ → List Event → ℕ → ℕ → DiskState
memory_state start bytes events position failures = record {
  size = length bytes;
  position = position;
  view = bytes;
  pending = pending_of events;
  failures = failures;
  clock = length events;
  left_since = LeftSince start events;
  is_honest = true;
}

-- the range was added before the pending ones
abbrev pub AddsPending : ℕ × ℕ → DiskState → DiskState → Type 0
AddsPending range old new = new.pending ≡ range ∷ old.pending

-- the laws of an honest disk hold for it
pub memory_sound : (start bytes : List ℕ) (events : List Event) (position failures : ℕ) → bytes ≡ view_of start events → IsSound (memory_state start bytes events position failures)
memory_sound start bytes events position failures replays = record {
  size = λ i. length bytes;
  counts_now = λ t b le image. record {
    after = length events;
    since = le;
    until = omega arith;
    image = subst (λ (l : List Event). AgreesOutside (pending_of l) (view_of start l) b) (sym whole) (subst (λ v. AgreesOutside (pending_of events) v b) replays image);
  };
  only_now = λ b left.
      let last : length events ≤ left.after = left.since in
      let all : take left.after events ≡ events = take_all left.after events last in
      subst (λ v. AgreesOutside (pending_of events) v b) (sym replays) (subst (λ (l : List Event). AgreesOutside (pending_of l) (view_of start l) b) all left.image);
  earlier = λ t u b le left. record { after = left.after; since = omega (arith, le, left.since); until = left.until; image = left.image };
}
  where
    whole : take (length events) events ≡ events
    whole = take_all (length events) events (omega arith)

-- whether a fuse with this many calls left serves one more; without a fuse every call is served
abbrev pub serves : Option ℕ → Bool
serves None = true
serves (Some calls) = nat_lt 0 calls

-- the fuse after one more call
abbrev pub after_call : Option ℕ → Option ℕ
after_call None = None
after_call (Some calls) = Some (calls - 1)
