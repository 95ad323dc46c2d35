-- Sequences of disk calls.
use Rattle.std.proofs.Common.{◌≡◌, true, inl, inr, ⊎_elim, ℕ, List, ◌++◌, ◌∙◌, arith}
use Rattle.gptman_disk.specs.Disk.{DiskState, IsSound, AgreesOutside, Within, Elapses, HasFailedOnce, Keeps, LeavesOnly, Rose, Wrote}
use Rattle.gptman_disk.proofs.Ranges.{Ranges, agrees_self, agrees_then, agrees_wider, within_then, within_left, within_right, within_both}

-- Before the first call.
pub elapses_not : (a : DiskState) → IsSound a → Elapses a a
elapses_not a sound = record { later = omega arith; nothing_else = λ t b le left. inl left; keeps = λ t b le left. left; earlier = sound.earlier }

pub elapses_then : {a b c : DiskState} → Elapses a b → Elapses b c → Elapses a c
elapses_then {a} {b} {c} ab bc = record {
  later = omega (arith, ab.later, bc.later);
  nothing_else = λ t x le left. ⊎_elim
      (λ before. ⊎_elim (λ old. inl old) (λ mid. inr (bc.keeps a.clock x ab.later mid)) (ab.nothing_else t x le before))
      (λ since. inr (bc.earlier a.clock b.clock x ab.later since))
      (bc.nothing_else t x (omega (arith, le, ab.later)) left);
  keeps = λ t x le left. bc.keeps t x (omega (arith, le, ab.later)) (ab.keeps t x le left);
  earlier = bc.earlier;
}

-- One more step, during which P holds of whatever a crash leaves.
pub leaves_then : {a b c : DiskState} (P : List ℕ → Type 0) → Elapses a b → Elapses b c → LeavesOnly a b P → LeavesOnly b c P → LeavesOnly a c P
leaves_then {a} P ab bc first next = λ x left. ⊎_elim (first x) (next x) (bc.nothing_else a.clock x ab.later left)

pub wrote_not : (ranges : Ranges) (a : DiskState) → a.is_honest ≡ true → IsSound a → Wrote ranges a a
wrote_not ranges a honest sound = record {
  honest = honest;
  view = agrees_self ranges a.view;
  pending = within_right ranges a.pending;
  crash = λ x left. agrees_wider (within_right ranges a.pending) (sound.only_now x left);
  time = elapses_not a sound;
}

pub wrote_wider : {inner outer : Ranges} {a b : DiskState} → Within inner outer → Wrote inner a b → Wrote outer a b
wrote_wider {inner} {outer} {a} {b} within ab = record {
  honest = ab.honest;
  view = agrees_wider within ab.view;
  pending = within_then ab.pending through;
  crash = λ x left. agrees_wider through (ab.crash x left);
  time = ab.time;
}
  where
    through : Within (inner ++ a.pending) (outer ++ a.pending)
    through = within_both (within_then within (within_left outer a.pending)) (within_right outer a.pending)

-- One more step, which wrote within the ranges.
pub wrote_then : {outer inner : Ranges} {a b c : DiskState} → Within inner outer → Wrote outer a b → Wrote inner b c → Wrote outer a c
wrote_then {outer} {inner} {a} {b} {c} within ab next = record {
  honest = bc.honest;
  view = agrees_then ab.view bc.view;
  pending = within_then bc.pending through;
  crash = leaves_then (AgreesOutside (outer ++ a.pending) a.view) ab.time bc.time ab.crash
      (λ x left. agrees_then (agrees_wider (within_left outer a.pending) ab.view) (agrees_wider through (bc.crash x left)));
  time = elapses_then ab.time bc.time;
}
  where
    bc : Wrote outer b c
    bc = wrote_wider within next

    through : Within (outer ++ b.pending) (outer ++ a.pending)
    through = within_both (within_left outer a.pending) ab.pending

-- A failure since a later moment is one since an earlier moment.
pub rose_once : (a b : DiskState) → HasFailedOnce a b → Rose a b
rose_once a b (inl one) = inl (omega (arith, one))
rose_once a b (inr full) = inr (omega (arith, full.0, full.1))

pub rose_since : (a b c : DiskState) → Keeps a b → Rose b c → Rose a c
rose_since a b c first (inl more) = inl (omega (arith, more, first.failures))
rose_since a b c first (inr top) = inr top

pub rose_before : (a b c : DiskState) → Rose a b → Keeps b c → Rose a c
rose_before a b c (inl more) keeps = inl (omega (arith, more, keeps.failures))
rose_before a b c (inr top) keeps = inr (omega (arith, top, keeps.failures))

pub keeps_then : {a b c : DiskState} → Keeps a b → Keeps b c → Keeps a c
keeps_then ab bc = record { size = bc.size ∙ ab.size; honest = bc.honest ∙ ab.honest; failures = omega (arith, ab.failures, bc.failures) }
