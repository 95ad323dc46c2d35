-- One more act of a plan: its effect on the disk and on what may have been left.
use Rattle.std.proofs.Common.{◌≡◌, inl, inr, ⊎_elim, ◌<◌, ◌≤◌, ℕ, zero, suc, ◌+◌, List, [], ◌∷◌, ◌++◌, length, refl, sym, subst, arith}
use Rattle.std.proofs.lemmas.List.{take-append-le, length_push}
use Rattle.std.proofs.lemmas.List.Sums.{fold_push}
use Rattle.std.proofs.lemmas.Bool.{cases_lt}
use Rattle.gptman.specs.Disk.{AgreesOutside, Within, Elapses, Wrote}
use Rattle.gptman_plan.specs.Plan.{Act, IsImage, IsLeftAt, bytes_with, pending_with, bytes_after, pending_after, left_now, plan_state}
use Rattle.gptman_plan.specs.Plan.Act.{put, store}
use Rattle.gptman.proofs.Ranges.{Ranges, agrees_self, agrees_then, agrees_wider, within_self, within_left, within_right, within_none}
use Rattle.gptman.proofs.Overlays.{agrees_overlay}

-- from these acts to those, only the ranges were written, whatever the position and the count of failures
abbrev pub Continues : List ℕ → Ranges → List Act → List Act → Type 0
Continues start ranges acts after = (size at failed at_then failed_then : ℕ) → Wrote ranges (plan_state start acts size at failed) (plan_state start after size at_then failed_then)

module _ (start : List ℕ) (acts : List Act) (act : Act) where
  abbrev more : List Act
  more = acts ++ act ∷ []

  length-more : length more ≡ length acts + 1
  length-more = length_push acts act

  -- until now the act does not change what may have been left:
  has : (moment : ℕ) (b : List ℕ) → IsLeftAt start acts moment b → IsLeftAt start more moment b
  has zero b left = left
  has (suc n) b left = (omega (arith, left.0, length-more), subst (λ (l : List Act). IsImage start l b) (sym (take-append-le n acts (act ∷ []) left.0)) left.1)

  -- nothing more, and nothing less
  had : (moment : ℕ) (b : List ℕ) → moment ≤ suc (length acts) → IsLeftAt start more moment b → IsLeftAt start acts moment b
  had zero b until left = left
  had (suc n) b until left =
      let few : n ≤ length acts = omega (arith, until) in
      (few, subst (λ (l : List Act). IsImage start l b) (take-append-le n acts (act ∷ []) few) left.1)

  elapses : (size at failed at_then failed_then : ℕ) → Elapses (plan_state start acts size at failed) (plan_state start more size at_then failed_then)
  elapses size at failed at_then failed_then = record {
    later = omega (arith, length-more);
    nothing_else = λ t b until was. ⊎_elim
        (λ before. inl (record { moment = was.moment; since = was.since; left = had was.moment b (omega (arith, before)) was.left }))
        (λ since. inr (record { moment = was.moment; since = since; left = was.left }))
        (cases_lt was.moment (suc (length acts)));
    keeps = λ t b until was. record { moment = was.moment; since = was.since; left = has was.moment b was.left };
    earlier = λ t u b le was. record { moment = was.moment; since = omega (arith, le, was.since); left = was.left };
  }

  module _ (ranges : Ranges) (lays : AgreesOutside ranges (bytes_after start acts) (bytes_with (bytes_after start acts) act))
      (adds : Within (pending_with (pending_after acts) act) (ranges ++ pending_after acts)) where
    -- b is the disk before the act, except in the ranges and where it is pending
    abbrev IsNear : List ℕ → Type 0
    IsNear b = AgreesOutside (ranges ++ pending_after acts) (bytes_after start acts) b

    view : AgreesOutside ranges (bytes_after start acts) (bytes_after start more)
    view = subst (λ (b : List ℕ). AgreesOutside ranges (bytes_after start acts) b) (sym (fold_push bytes_with start acts act)) lays

    pending : Within (pending_after more) (ranges ++ pending_after acts)
    pending = subst (λ (rs : Ranges). Within rs (ranges ++ pending_after acts)) (sym (fold_push pending_with [] acts act)) adds

    -- Since then only images of before or after the act may be left.
    near : (moment : ℕ) (b : List ℕ) → length acts < moment → IsLeftAt start more moment b → IsNear b
    near moment b since left = ⊎_elim
        (λ after. agrees_then (agrees_wider (within_left ranges (pending_after acts)) view) (agrees_wider pending (left_now start more moment b (omega (arith, after, length-more)) left)))
        (λ before. agrees_wider (within_right ranges (pending_after acts)) (left_now start acts moment b since (had moment b before left)))
        (cases_lt (suc (length acts)) moment)

    pub one_more : (after : List Act) → after ≡ more → Continues start ranges acts after
    one_more after is size at failed at_then failed_then =
        subst (λ (l : List Act). Wrote ranges (plan_state start acts size at failed) (plan_state start l size at_then failed_then)) (sym is) (record {
          honest = refl;
          view = view;
          pending = pending;
          crash = λ b was. near was.moment b (omega (arith, was.since)) was.left;
          time = elapses size at failed at_then failed_then;
        })

-- a sync
pub stored : (start : List ℕ) (acts after : List Act) → after ≡ acts ++ store ∷ [] → Continues start [] acts after
stored start acts after = one_more start acts store [] (agrees_self [] (bytes_after start acts)) within_none after

-- a write
pub was_put : (start : List ℕ) (acts after : List Act) (at : ℕ) (bytes : List ℕ) → at + length bytes ≤ length (bytes_after start acts) → after ≡ acts ++ put at bytes ∷ []
    → Continues start ((at, length bytes) ∷ []) acts after
was_put start acts after at bytes fits = one_more start acts (put at bytes) ((at, length bytes) ∷ []) (agrees_overlay (bytes_after start acts) at bytes fits)
    (within_self ((at, length bytes) ∷ pending_after acts)) after
