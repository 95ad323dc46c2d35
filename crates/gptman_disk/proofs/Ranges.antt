-- Indexes outside ranges, and lists that agree there.
use Rattle.std.proofs.Common.{inl, inr, ⊎_elim, ◌≡◌, ◌⊎◌, ◌<◌, ◌≤◌, ℕ, suc, ◌+◌, List, [], ◌∷◌, ◌++◌, refl, sym, ◌∙◌, subst, arith}
use Rattle.std.specs.List.{Contains}
use Rattle.std.specs.Prelude.{Result, Ok, Err, OnOk, OnErr, length}
use Rattle.gptman_disk.specs.Disk.{Outside, AgreesOutside, CoverTheSame, Within, DiskState, HasOverwritten, MayHaveWritten, StaysPending}

abbrev pub Ranges : Type 0
Ranges = List (ℕ × ℕ)

pub outside_both : (rs ss : Ranges) (k : ℕ) → Outside rs k → Outside ss k → Outside (rs ++ ss) k
outside_both [] ss k r s = s
outside_both (x ∷ rs) ss k r s = (r.0, outside_both rs ss k r.1 s)

pub outside_left : (rs ss : Ranges) (k : ℕ) → Outside (rs ++ ss) k → Outside rs k
outside_left [] ss k o = tt
outside_left (x ∷ rs) ss k o = (o.0, outside_left rs ss k o.1)

pub outside_right : (rs ss : Ranges) (k : ℕ) → Outside (rs ++ ss) k → Outside ss k
outside_right [] ss k o = o
outside_right (x ∷ rs) ss k o = outside_right rs ss k o.1

pub agrees_self : (rs : Ranges) (a : List ℕ) → AgreesOutside rs a a
agrees_self rs a = record { long = refl; same = λ k o. refl }

pub agrees_then : {rs : Ranges} {a b c : List ℕ} → AgreesOutside rs a b → AgreesOutside rs b c → AgreesOutside rs a c
agrees_then ab bc = record { long = bc.long ∙ ab.long; same = λ k o. bc.same k o ∙ ab.same k o }

pub agrees_back : {rs : Ranges} {a b : List ℕ} → AgreesOutside rs a b → AgreesOutside rs b a
agrees_back ab = record { long = sym ab.long; same = λ k o. sym (ab.same k o) }

pub agrees_wider : {rs ss : Ranges} {a b : List ℕ} → Within rs ss → AgreesOutside rs a b → AgreesOutside ss a b
agrees_wider within ab = record { long = ab.long; same = λ k o. ab.same k (within.covers k o) }

pub within_self : (rs : Ranges) → Within rs rs
within_self rs = record { covers = λ k o. o }

pub within_then : {rs ss ts : Ranges} → Within rs ss → Within ss ts → Within rs ts
within_then a b = record { covers = λ k o. a.covers k (b.covers k o) }

pub within_none : {rs : Ranges} → Within [] rs
within_none = record { covers = λ k o. tt }

pub within_left : (rs ss : Ranges) → Within rs (rs ++ ss)
within_left rs ss = record { covers = λ k o. outside_left rs ss k o }

pub within_right : (rs ss : Ranges) → Within ss (rs ++ ss)
within_right rs ss = record { covers = λ k o. outside_right rs ss k o }

pub within_both : {rs ss ts : Ranges} → Within rs ts → Within ss ts → Within (rs ++ ss) ts
within_both {rs} {ss} a b = record { covers = λ k o. outside_both rs ss k (a.covers k o) (b.covers k o) }

-- a range is within ranges that begin with it, or that contain it later
pub within_first : {p at n : ℕ} {more : Ranges} → p ≡ at → Within ((p, n) ∷ []) ((at, n) ∷ more)
within_first {n = n} is = record { covers = λ k o. (subst (λ x. (k < x) ⊎ (x + n ≤ k)) (sym is) o.0, tt) }

pub within_later : {rs ss : Ranges} {s : ℕ × ℕ} → Within rs ss → Within rs (s ∷ ss)
within_later within = record { covers = λ k o. within.covers k o.1 }

pub contains_first : {X : Type 0} (r : X) (rs : List X) → Contains (r ∷ rs) r
contains_first r rs = (0, omega arith, refl)

pub contains_later : {X : Type 0} (r s : X) (rs : List X) → Contains rs r → Contains (s ∷ rs) r
contains_later r s rs has = (suc has.0, omega (arith, has.1), has.2)

-- a range within the first range is within all
pub within_range : {p n at m : ℕ} {more : Ranges} → at ≤ p → p + n ≤ at + m → Within ((p, n) ∷ []) ((at, m) ∷ more)
within_range {p} {n} {at} {m} low high = record { covers = λ k o. (⊎_elim (λ below. inl (omega (arith, below, low))) (λ above. inr (omega (arith, above, high))) o.0, tt) }

-- what was pending is pending after a range was added
pub grown_keeps : {r : ℕ × ℕ} {old new : Ranges} → CoverTheSame new (r ∷ old) → Within old new
grown_keeps {old = old} grown = within_then (within_later (within_self old)) grown.back

-- and so is the added range
pub grown_has : (p n at m : ℕ) {old new : Ranges} → p ≡ at → n ≡ m → CoverTheSame new ((p, n) ∷ old) → Within ((at, m) ∷ []) new
grown_has p n at m at_is size grown = within_then (within_range (omega (arith, at_is)) (omega (arith, at_is, size))) grown.back

-- what was pending is still pending after a write, also after a failed one
pub still_pending : {T E : Type 0} (r : Result T E) (bytes : List ℕ) (a b : DiskState) → OnOk r (HasOverwritten bytes a b) → OnErr r (MayHaveWritten (length bytes) a b) → StaysPending a b
still_pending (Ok v) bytes a b laid failed = grown_keeps laid.pending
still_pending (Err e) bytes a b laid failed =
    ⊎_elim (λ same. subst (λ ps. Within a.pending ps) (sym same.pending) (within_self a.pending)) (λ grown. grown_keeps grown) failed

-- the added range, in terms of the state before a call that only read
pub grown_since : (p n at m : ℕ) {before old new : Ranges} → p ≡ at → n ≡ m → old ≡ before → CoverTheSame new ((p, n) ∷ old) → CoverTheSame new ((at, m) ∷ before)
grown_since p n at m {new = new} at_is size was grown = subst (λ ps. CoverTheSame new ps) (λ i. (at_is i, size i) ∷ was i) grown
