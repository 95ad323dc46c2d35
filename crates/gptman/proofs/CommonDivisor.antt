-- Common divisors of a list of numbers, and the alignment from one.
use Prim.Native.Nat.{◌∣◌}
use Rattle.std.proofs.Common.{◌≡◌, ◌≢◌, ℕ, ◌+◌, ◌<◌, Bool, true, false, cond, List, [], ◌∷◌, ◌++◌, length, get_or, take, map, refl, sym, ap, ◌∙◌, subst, arith}
use Rattle.std.specs.List.{All, filter}
use Rattle.std.specs.Int.{IsGcd}
use Rattle.std.proofs.Math.Nat.{dvd-zero, dvd_refl, dvd_trans, dvd_antisymm, eq-zero_of_zero-dvd}
use Rattle.std.proofs.lemmas.List.{append-nil, map-append, length-append, get_or_append_left}
use Rattle.std.proofs.lemmas.List.Elements.{All-nil, All-cons, All-head, All-push, All-weaker, All-contains, Contains-push, filter_more}
use Rattle.gptman.specs.Entry.{is_used}
use Rattle.gptman.specs.declared.codec.entry.GPTPartitionEntry.{GPTPartitionEntry}
use Rattle.gptman.specs.Alignment.{used_starts, IsGreatestUpTo, IsAlignmentOf}

-- g is a common divisor that every common divisor divides.
pub record IsGreatestCommonDivisor (starts : List ℕ) (g : ℕ) : Type 0 where
  pub divides : All (λ s. g ∣ s) starts
  pub greatest : (d : ℕ) → All (λ s. d ∣ s) starts → d ∣ g

All-init : {X : Type 0} (P : X → Type 0) (xs ys : List X) → All P (xs ++ ys) → All P xs
All-init {X} P xs ys all k d h = subst (λ (x : X). P x) (get_or_append_left xs ys d k h) (all k d (omega (arith, h, length-append xs ys)))

-- One more number.
pub common_more : (starts : List ℕ) (g s h : ℕ) → IsGreatestCommonDivisor starts g → IsGcd g s h → IsGreatestCommonDivisor (starts ++ s ∷ []) h
common_more starts g s h c d = record {
  divides = All-push (λ s. h ∣ s) starts s (All-weaker (λ s. g ∣ s) (λ s. h ∣ s) (λ s e. dvd_trans h d.0 e) starts c.divides) d.1;
  greatest = λ e all. d.2 e (c.greatest e (All-init (λ s. e ∣ s) starts (s ∷ []) all)) (All-contains (λ s. e ∣ s) (starts ++ s ∷ []) s all (Contains-push starts s));
}

-- The starts with one more entry.
pub starts_used : (es : List GPTPartitionEntry) (i : ℕ) (d : GPTPartitionEntry) → i < length es → is_used (get_or es i d) ≡ true → used_starts (take (i + 1) es) ≡ used_starts (take i es) ++ (get_or es i d).starting_lba ∷ []
starts_used es i d h used =
    ap (map (λ (e : GPTPartitionEntry). e.starting_lba)) (filter_more is_used es i d h ∙ ap (λ (c : Bool). filter is_used (take i es) ++ cond c (get_or es i d ∷ []) []) used)
    ∙ map-append (λ (e : GPTPartitionEntry). e.starting_lba) (filter is_used (take i es)) (get_or es i d ∷ [])

pub starts_unused : (es : List GPTPartitionEntry) (i : ℕ) (d : GPTPartitionEntry) → i < length es → is_used (get_or es i d) ≡ false → used_starts (take (i + 1) es) ≡ used_starts (take i es)
starts_unused es i d h unused =
    ap (map (λ (e : GPTPartitionEntry). e.starting_lba)) (filter_more is_used es i d h ∙ ap (λ (c : Bool). filter is_used (take i es) ++ cond c (get_or es i d ∷ []) []) unused ∙ append-nil (filter is_used (take i es)))

pub alignment_zero : (first : ℕ) (starts : List ℕ) (g : ℕ) → IsGreatestCommonDivisor starts g → g ≡ 0 → length starts ≢ 0 → IsAlignmentOf first starts 1
alignment_zero first starts g c e some = record {
  none = λ empty. absurd (some (ap length empty));
  of_one = λ one. refl;
  zero = λ some all. refl;
  other = λ some more nonzero. absurd (nonzero (All-weaker (λ s. g ∣ s) (λ s. s ≡ 0) (λ s d. eq-zero_of_zero-dvd (subst (λ (g : ℕ). g ∣ s) e d)) starts c.divides));
}

-- The greatest common divisor of one number is the number.
common_one : (s g : ℕ) → IsGreatestCommonDivisor (s ∷ []) g → g ≡ s
common_one s g c = dvd_antisymm (All-head (λ s. g ∣ s) s [] c.divides) (c.greatest s (All-cons (λ x. s ∣ x) s [] (dvd_refl s) (All-nil (λ x. s ∣ x))))

one_start : (first : ℕ) (starts : List ℕ) (g : ℕ) → IsGreatestCommonDivisor starts g → length starts ≡ 1 → g ≡ first → starts ≡ first ∷ []
one_start first [] g c l e = absurd (omega arith)
one_start first (s ∷ []) g c l e = ap (λ (x : ℕ). x ∷ []) (sym (common_one s g c) ∙ e)
one_start first (s ∷ t ∷ starts) g c l e = absurd (omega arith)

pub alignment_of_one : (first : ℕ) (starts : List ℕ) (g : ℕ) → IsGreatestCommonDivisor starts g → length starts ≡ 1 → g ≡ first → IsAlignmentOf first starts 1
alignment_of_one first starts g c l e = record {
  none = λ empty. let l2 = ap length empty in absurd (omega arith);
  of_one = λ one. refl;
  zero = λ some all. refl;
  other = λ some more nonzero. absurd (more (one_start first starts g c l e));
}

pub alignment_other : (first : ℕ) (starts : List ℕ) (g a : ℕ) → IsGreatestCommonDivisor starts g → length starts ≢ 0 → g ≢ 0 → (length starts ≡ 1 → g ≢ first) → IsGreatestUpTo g a → IsAlignmentOf first starts a
alignment_other first starts g a c some nonzero others up = record {
  none = λ empty. absurd (some (ap length empty));
  of_one = λ one. absurd (others (ap length one) (common_one first g (subst (λ (l : List ℕ). IsGreatestCommonDivisor l g) one c)));
  zero = λ _ all. absurd (nonzero (eq-zero_of_zero-dvd (c.greatest 0 (All-weaker (λ s. s ≡ 0) (λ s. 0 ∣ s) (λ s e. subst (λ (x : ℕ). 0 ∣ x) (sym e) (dvd-zero 0)) starts all))));
  other = λ _ _ _. record {
    low = up.low;
    high = up.high;
    divides = All-weaker (λ s. g ∣ s) (λ s. a ∣ s) (λ s d. dvd_trans a up.divides d) starts c.divides;
    greatest = λ d small all. up.greatest d small (c.greatest d all);
  };
}
