-- The last sector before a multiple of the alignment, and the end of the free sectors after a sector.
use Prim.Native.Nat.{◌∣◌}
use Rattle.std.proofs.Common.{◌≡◌, ◌≢◌, ◌≤◌, ◌<◌, inl, inr, ℕ, ◌+◌, ◌-◌, ◌*◌, ◌/◌, ◌%◌, max, List, [], ◌∷◌, refl, subst, arith, zero, suc, IsTrue}
use Rattle.std.specs.Prelude.{All}
use Rattle.std.specs.List.{enumerate_from}
use Rattle.std.proofs.Math.Nat.{dvd-mul_left, le_of_dvd}
use Rattle.std.proofs.lemmas.Bool.{cases_lt}
use Rattle.gptman.specs.Entry.{covers}
use Rattle.gptman.specs.Place.{IsFree, IsUsable}
use Rattle.gptman.proofs.Multiples.{multiples_apart}
use Rattle.gptman.specs.declared.codec.entry.GPTPartitionEntry.{GPTPartitionEntry}
use Rattle.gptman.specs.declared.codec.header.GPTHeader.{GPTHeader}
use Rattle.gptedit_core.specs.Placing.{AreFreeBehind, HasNoEnd, IsBlocked, IsFurthestEnd, IsLastEnd}

-- ---- the last end

-- It is the sector itself,
pub last_here : (n far : ℕ) → 0 < n → far % n + 1 ≡ n → IsLastEnd n far far
last_here n far pos over =
    let next : n ∣ (far / n + 1) * n = dvd-mul_left n (far / n + 1) in
    let is : (far / n + 1) * n ≡ far + 1 = omega arith in
    record { low = omega arith; multiple = subst (λ (x : ℕ). n ∣ x) is next; greatest = λ t d low. low }

-- or the one before the multiple below it,
pub last_before : (n far e : ℕ) → 0 < n → far % n + 1 ≢ n → e + (far % n + 1) ≡ far → IsLastEnd n far e
last_before n far e pos over is =
    let small : far % n < n = omega arith in
    let here : n ∣ (far / n) * n = dvd-mul_left n (far / n) in
    let same : (far / n) * n ≡ e + 1 = omega arith in
    let d : n ∣ e + 1 = subst (λ (x : ℕ). n ∣ x) same here in
    record {
      low = omega arith;
      multiple = d;
      greatest = λ t m within. elim (cases_lt e t) [
        | inl less ↦ let apart = multiples_apart n (e + 1) (t + 1) d m (omega arith) in absurd (omega arith)
        | inr more ↦ more
      ];
    }

-- or there is none.
pub none_before : (n far : ℕ) → 0 < n → far % n + 1 ≢ n → far < far % n + 1 → HasNoEnd n far
none_before n far pos over short t m within =
    let small : far % n < n = omega arith in
    let long : n ≤ t + 1 = le_of_dvd (omega arith) m in
    omega arith

-- ---- the end of a partition

module _ (free : ℕ → Type 0) (align first last far : ℕ) (low : last ≤ far) (inside : AreFreeBehind free last far) (ends : ¬ free (far + 1)) where
  blocked : (end : ℕ) → ((t : ℕ) → align ∣ t + 1 → t ≤ far → t ≤ end) → (e : ℕ) → align ∣ e + 1 → end < e → IsBlocked free last e
  blocked end greatest e m above = elim (cases_lt far e) [
    | inl behind ↦ (far + 1, omega arith, omega arith, ends)
    | inr within ↦ let no = greatest e m within in absurd (omega arith)
  ]

  -- The end is unchanged if no sector up to far is before a multiple.
  pub no_end : HasNoEnd align far → IsFurthestEnd free align first last last
  no_end none = record {
    kept = omega arith;
    reached = inl refl;
    furthest = λ ordered. blocked last (λ t m within. absurd (none t m within));
  }

  -- Otherwise it is the last such sector, if that is later.
  pub end_at : (e : ℕ) → first ≤ last → IsLastEnd align far e → IsFurthestEnd free align first last (max e last)
  end_at e ordered is =
      let below = is.low in
      let greatest = is.greatest in
      elim (cases_lt last e) [
        | inl longer ↦
            let same : e ≡ max e last = omega arith in
            subst (IsFurthestEnd free align first last) same (record {
              kept = omega arith;
              reached = inr (ordered, is.multiple, λ x above within. inside x above (omega arith));
              furthest = λ ordered. blocked e greatest;
            })
        | inr shorter ↦
            let same : last ≡ max e last = omega arith in
            subst (IsFurthestEnd free align first last) same (record {
              kept = omega arith;
              reached = inl refl;
              furthest = λ ordered. blocked last (λ t m within. let small = greatest t m within in omega arith);
            })
      ]

-- ---- entries that do not cover a sector

abbrev pub Uncovered : ℕ → List GPTPartitionEntry → Type 0
Uncovered x es = All (λ e. ¬ IsTrue (covers x e)) es

-- The same for entries with their numbers.
abbrev pub UncoveredBy : ℕ → List (ℕ × GPTPartitionEntry) → Type 0
UncoveredBy x es = All (λ e. ¬ IsTrue (covers x e.1)) es

pub numbered : (x k : ℕ) (es : List GPTPartitionEntry) → Uncovered x es → UncoveredBy x (enumerate_from k es)
numbered x k [] none m d below = absurd (omega (arith, below))
numbered x k (e ∷ es) none zero d below = none 0 e (omega arith)
numbered x k (e ∷ es) none (suc m) d below = numbered x (k + 1) es (λ n c less. none (suc n) c (omega (arith, less))) m d (omega (arith, below))

pub unnumbered : (x k : ℕ) (es : List GPTPartitionEntry) → UncoveredBy x (enumerate_from k es) → Uncovered x es
unnumbered x k [] none m d below = absurd (omega (arith, below))
unnumbered x k (e ∷ es) none zero d below = none 0 (k, e) (omega arith)
unnumbered x k (e ∷ es) none (suc m) d below = unnumbered x (k + 1) es (λ n c less. none (suc n) c (omega (arith, less))) m d (omega (arith, below))

uncovered_more : (x : ℕ) (e : ℕ × GPTPartitionEntry) (es : List (ℕ × GPTPartitionEntry)) → (¬ IsTrue (covers x e.1)) → UncoveredBy x es → UncoveredBy x (e ∷ es)
uncovered_more x e es first rest zero d below = first
uncovered_more x e es first rest (suc k) d below = rest k d (omega (arith, below))

-- ---- the end of the free sectors

-- The entries except rest cover no sector after last and up to far. Either far is its first value, or an entry covers
-- the next sector.
pub record IsFarSoFar (es : List GPTPartitionEntry) (rest : List (ℕ × GPTPartitionEntry)) (last far at_first : ℕ) : Type 0 where
  pub kept : last ≤ far
  pub low : far ≤ at_first
  pub some : (x : ℕ) → Uncovered x es → UncoveredBy x rest
  pub every : (x : ℕ) → last < x → x ≤ far → UncoveredBy x rest → Uncovered x es
  pub same : Uncovered (far + 1) es → far ≡ at_first

pub far_first : (es : List GPTPartitionEntry) (rest : List (ℕ × GPTPartitionEntry)) (last far : ℕ) → last ≤ far → enumerate_from 1 es ≡ rest → IsFarSoFar es rest last far far
far_first es rest last far low is = subst (λ (r : List (ℕ × GPTPartitionEntry)). IsFarSoFar es r last far far) is (record {
  kept = low;
  low = omega arith;
  some = λ x none. numbered x 1 es none;
  every = λ x above below none. unnumbered x 1 es none;
  same = λ none. refl;
})

pub far_next : (es : List GPTPartitionEntry) (whole rest : List (ℕ × GPTPartitionEntry)) (e : ℕ × GPTPartitionEntry) (last far less at_first : ℕ)
    → IsFarSoFar es whole last far at_first → whole ≡ e ∷ rest → last ≤ less → less ≤ far → ((x : ℕ) → last < x → x ≤ less → ¬ IsTrue (covers x e.1))
    → (less ≢ far → IsTrue (covers (less + 1) e.1)) → IsFarSoFar es rest last less at_first
far_next es whole rest e last far less at_first so_far is kept low free ends =
    let so = subst (λ (r : List (ℕ × GPTPartitionEntry)). IsFarSoFar es r last far at_first) is so_far in
    let before = so.low in
    record {
      kept = kept;
      low = omega arith;
      some = λ x none k d below. so.some x none (suc k) d (omega (arith, below));
      every = λ x above within none. so.every x above (omega arith) (uncovered_more x e rest (free x above within) none);
      same = λ none. elim (cases_lt less far) [
        | inl shorter ↦ absurd (so.some (less + 1) none 0 e (omega arith) (ends (λ same. omega (arith, same, shorter))))
        | inr more ↦
            let equal : less ≡ far = omega arith in
            let was : far ≡ at_first = so.same (subst (λ (n : ℕ). Uncovered (n + 1) es) equal none) in
            omega arith
      ];
    }

-- The sectors up to the first value of far are usable,
pub usable_at : (h : GPTHeader) (last far x : ℕ) → h.first_usable_lba - 1 ≤ last → far ≡ max last h.last_usable_lba → last < x → x ≤ far → IsUsable h x
usable_at h last far x low is above within = record { positive = omega arith; low = omega arith; high = omega arith }

-- so they are free up to the first one that an entry covers.
pub free_so_far : (h : GPTHeader) (es : List GPTPartitionEntry) (last far at_first x : ℕ) → IsFarSoFar es [] last far at_first
    → ((last < at_first) → (h.first_usable_lba - 1 ≤ last) × (at_first ≡ max last h.last_usable_lba)) → last < x → x ≤ far → IsFree h es x
free_so_far h es last far at_first x so_far guess above within =
    let low = so_far.low in
    let usable = guess (omega arith) in
    record {
      usable = usable_at h last at_first x usable.0 usable.1 above (omega arith);
      uncovered = so_far.every x above within (λ k d below. absurd (omega (arith, below)));
    }
