-- What a pass does, as a run over the requests.
use Rattle.std.proofs.Common.{◌≡◌, ◌≢◌, ◌⊎◌, inl, inr, ⊎_elim, ℕ, suc, List, [], ◌∷◌, length, refl, sym, ap, ◌∙◌, subst, arith, Bool, true, false}
use Rattle.std.specs.Prelude.{Option, Some, None, IfSome, if◌then◌else◌, ◌==◌, not, cond}
use Rattle.std.specs.List.{find, AllZip}
use Rattle.std.proofs.lemmas.Bool.{eqb-true, eqb-false, false≢true}
use Rattle.gptman.specs.declared.table.GPT.{GPT}
use Rattle.gptedit_core.specs.Named.{IsAmong}
use Rattle.gptedit_core.specs.Matching.{may_mean, may_seek, others, passed, taken}
use Rattle.gptedit_core.specs.declared.asked.Asked.{Asked}
use Rattle.gptedit_core.specs.declared.matching.EntryMatch.{EntryMatch}
use Rattle.gptedit_core.specs.declared.matching.MatchedBy.{MatchedBy}
use Rattle.gptedit_core.specs.declared.matching.MatchedBy.TheVariants.{Number}

abbrev pub Matches : Type 0
Matches = List (Option EntryMatch)

-- ---- lists of numbers

-- One test of a search.
find_one : (p : ℕ → Bool) (b : Bool) (x : ℕ) (xs : List ℕ) (i : ℕ) → p x ≡ b → ◌≡◌ {A = Option ℕ} (cond b (Some x) (find p xs)) (Some i)
    → (find p xs ≡ Some i → IsAmong i xs × (p i ≡ true)) → IsAmong i (x ∷ xs) × (p i ≡ true)
find_one p true x xs i is found rest = let same : x ≡ i = cc in (inl same, subst (λ (n : ℕ). p n ≡ true) same is)
find_one p false x xs i is found rest = let more = rest found in (inr more.0, more.1)

pub found_passes : (p : ℕ → Bool) (xs : List ℕ) (i : ℕ) → find p xs ≡ Some i → IsAmong i xs × (p i ≡ true)
found_passes p [] i found = absurd (cc)
found_passes p (x ∷ xs) i found = find_one p (p x) x xs i refl found (λ more. found_passes p xs i more)

none_one : (p : ℕ → Bool) (b : Bool) (x : ℕ) (xs : List ℕ) (j : ℕ) → p x ≡ b → ◌≡◌ {A = Option ℕ} (cond b (Some x) (find p xs)) None
    → (find p xs ≡ None → IsAmong j xs → p j ≡ false) → IsAmong j (x ∷ xs) → p j ≡ false
none_one p true x xs j is none rest among = absurd (cc)
none_one p false x xs j is none rest (inl same) = subst (λ (n : ℕ). p n ≡ false) same is
none_one p false x xs j is none rest (inr more) = rest none more

pub none_passes : (p : ℕ → Bool) (xs : List ℕ) → find p xs ≡ None → (j : ℕ) → IsAmong j xs → p j ≡ false
none_passes p [] none j among = absurd among
none_passes p (x ∷ xs) none j among = none_one p (p x) x xs j refl none (λ more in_rest. none_passes p xs more j in_rest) among

is_same : (x i : ℕ) (b : Bool) → (x == i) ≡ b → not b ≡ false → x ≡ i
is_same x i true is wrong = eqb-true x i is
is_same x i false is wrong = absurd (false≢true (sym wrong))

is_equal : (x i : ℕ) → not (x == i) ≡ false → x ≡ i
is_equal x i wrong = is_same x i (x == i) refl wrong

is_not : (x i : ℕ) (b : Bool) → (x == i) ≡ b → not b ≡ true → x ≢ i
is_not x i true is holds = absurd (false≢true holds)
is_not x i false is holds = eqb-false x i is

is_other : (x i : ℕ) → not (x == i) ≡ true → x ≢ i
is_other x i holds = is_not x i (x == i) refl holds

same_or_not : (x i : ℕ) (b : Bool) → (x == i) ≡ b → (x ≡ i) ⊎ (x ≢ i)
same_or_not x i true is = inl (eqb-true x i is)
same_or_not x i false is = inr (eqb-false x i is)

same_or_other : (x i : ℕ) → (x ≡ i) ⊎ (x ≢ i)
same_or_other x i = same_or_not x i (x == i) refl

less_one : (i j x : ℕ) (b : Bool) (xs : List ℕ) → not (x == i) ≡ b → IsAmong j (cond b (x ∷ others i xs) (others i xs)) → (IsAmong j (others i xs) → IsAmong j xs × (j ≢ i)) → IsAmong j (x ∷ xs) × (j ≢ i)
less_one i j x true xs is (inl same) rest = (inl same, λ equal. is_other x i is (same ∙ equal))
less_one i j x true xs is (inr more) rest = let both = rest more in (inr both.0, both.1)
less_one i j x false xs is among rest = let both = rest among in (inr both.0, both.1)

pub others_less : (i j : ℕ) (xs : List ℕ) → IsAmong j (others i xs) → IsAmong j xs × (j ≢ i)
others_less i j [] among = absurd among
others_less i j (x ∷ xs) among = less_one i j x (not (x == i)) xs refl among (λ more. others_less i j xs more)

more_one : (i j x : ℕ) (b : Bool) (xs : List ℕ) → not (x == i) ≡ b → IsAmong j (x ∷ xs) → j ≢ i → (IsAmong j xs → IsAmong j (others i xs)) → IsAmong j (cond b (x ∷ others i xs) (others i xs))
more_one i j x true xs is (inl same) other rest = inl same
more_one i j x true xs is (inr more) other rest = inr (rest more)
more_one i j x false xs is (inl same) other rest = absurd (other (sym same ∙ is_equal x i is))
more_one i j x false xs is (inr more) other rest = rest more

pub others_more : (i j : ℕ) (xs : List ℕ) → IsAmong j xs → j ≢ i → IsAmong j (others i xs)
others_more i j [] among other = absurd among
others_more i j (x ∷ xs) among other = more_one i j x (not (x == i)) xs refl among other (λ more. others_more i j xs more other)

-- ---- a run

-- The requests, with the entries found before, turn the free numbers into the entries found then and the numbers left.
pub data Run (g : GPT) (by : MatchedBy) (all : List Asked) : List Asked → Matches → List ℕ → Matches → List ℕ → Type 0 where
  done : (free : List ℕ) → Run g by all [] [] free [] free
  keep : (a : Asked) (m : EntryMatch) (asked : List Asked) (fs : Matches) (free : List ℕ) (gs : Matches) (left : List ℕ)
      → Run g by all asked fs free gs left → Run g by all (a ∷ asked) (Some m ∷ fs) free (Some m ∷ gs) left
  pass : (a : Asked) (asked : List Asked) (fs : Matches) (free : List ℕ) (gs : Matches) (left : List ℕ)
      → (may_seek g by all a ≡ true → (j : ℕ) → IsAmong j free → may_mean g by a j ≡ false)
      → Run g by all asked fs free gs left → Run g by all (a ∷ asked) (None ∷ fs) free (None ∷ gs) left
  take : (a : Asked) (i : ℕ) (asked : List Asked) (fs : Matches) (free : List ℕ) (gs : Matches) (left : List ℕ)
      → IsAmong i free → may_mean g by a i ≡ true → may_seek g by all a ≡ true
      → Run g by all asked fs (others i free) gs left → Run g by all (a ∷ asked) (None ∷ fs) free (Some (record { number = i; by = by }) ∷ gs) left

abbrev RunsFrom : GPT → MatchedBy → List Asked → List Asked → Matches → List ℕ → Type 0
RunsFrom g by all asked fs free = Run g by all asked fs free (passed g by all asked fs free).0 (passed g by all asked fs free).1

run_found : (g : GPT) (by : MatchedBy) (all : List Asked) (a : Asked) (asked : List Asked) (fs : Matches) (free : List ℕ) (o : Option ℕ) → find (may_mean g by a) free ≡ o
    → may_seek g by all a ≡ true → ((rest : List ℕ) → RunsFrom g by all asked fs rest)
    → Run g by all (a ∷ asked) (None ∷ fs) free ((taken by free o).0 ∷ (passed g by all asked fs (taken by free o).1).0) (passed g by all asked fs (taken by free o).1).1
run_found g by all a asked fs free None is seeks next =
    pass a asked fs free _ _ (λ _ j among. none_passes (may_mean g by a) free is j among) (next free)
run_found g by all a asked fs free (Some i) is seeks next =
    let found = found_passes (may_mean g by a) free i is in
    take a i asked fs free _ _ found.0 found.1 seeks (next (others i free))

run_seek : (g : GPT) (by : MatchedBy) (all : List Asked) (a : Asked) (asked : List Asked) (fs : Matches) (free : List ℕ) (b : Bool) → may_seek g by all a ≡ b
    → ((rest : List ℕ) → RunsFrom g by all asked fs rest)
    → let first : Option EntryMatch × List ℕ = if b then taken by free (find (may_mean g by a) free) else (None, free) in
    Run g by all (a ∷ asked) (None ∷ fs) free (first.0 ∷ (passed g by all asked fs first.1).0) (passed g by all asked fs first.1).1
run_seek g by all a asked fs free true is next = run_found g by all a asked fs free (find (may_mean g by a) free) refl is next
run_seek g by all a asked fs free false is next = pass a asked fs free _ _ (λ seeks. absurd (cc)) (next free)

pub runs : (g : GPT) (by : MatchedBy) (all asked : List Asked) (fs : Matches) (free : List ℕ) → length fs ≡ length asked → RunsFrom g by all asked fs free
runs g by all [] [] free same = done free
runs g by all [] (f ∷ fs) free same = absurd (omega (arith, same))
runs g by all (a ∷ asked) [] free same = absurd (omega (arith, same))
runs g by all (a ∷ asked) (Some m ∷ fs) free same = keep a m asked fs free _ _ (runs g by all asked fs free (omega (arith, same)))
runs g by all (a ∷ asked) (None ∷ fs) free same =
    run_seek g by all a asked fs free (may_seek g by all a) refl (λ rest. runs g by all asked fs rest (omega (arith, same)))

-- ---- the entries of a run

-- One of the entries has the number.
abbrev pub Has : ℕ → Matches → Type 0
Has i [] = ⊥
Has i (None ∷ fs) = Has i fs
Has i (Some m ∷ fs) = (m.number ≡ i) ⊎ Has i fs

-- The numbers of the entries differ from each other.
abbrev pub Apart : Matches → Type 0
Apart [] = Unit {0}
Apart (None ∷ fs) = Apart fs
Apart (Some m ∷ fs) = (¬ Has m.number fs) × Apart fs

-- A number that is left was free.
pub left_free : (g : GPT) (by : MatchedBy) (all asked : List Asked) (fs : Matches) (free : List ℕ) (gs : Matches) (left : List ℕ) → Run g by all asked fs free gs left
    → (j : ℕ) → IsAmong j left → IsAmong j free
left_free g by all _ _ _ _ _ (done free) j among = among
left_free g by all _ _ _ _ _ (keep a m asked fs free gs left run) j among = left_free g by all asked fs free gs left run j among
left_free g by all _ _ _ _ _ (pass a asked fs free gs left idle run) j among = left_free g by all asked fs free gs left run j among
left_free g by all _ _ _ _ _ (take a i asked fs free gs left here means seeks run) j among =
    (others_less i j free (left_free g by all asked fs (others i free) gs left run j among)).0

-- A number that is found was found before, or was free.
pub found_free : (g : GPT) (by : MatchedBy) (all asked : List Asked) (fs : Matches) (free : List ℕ) (gs : Matches) (left : List ℕ) → Run g by all asked fs free gs left
    → (j : ℕ) → Has j gs → Has j fs ⊎ IsAmong j free
found_free g by all _ _ _ _ _ (done free) j has = absurd has
found_free g by all _ _ _ _ _ (keep a m asked fs free gs left run) j (inl same) = inl (inl same)
found_free g by all _ _ _ _ _ (keep a m asked fs free gs left run) j (inr has) =
    ⊎_elim (λ before. inl (inr before)) (λ among. inr among) (found_free g by all asked fs free gs left run j has)
found_free g by all _ _ _ _ _ (pass a asked fs free gs left idle run) j has = found_free g by all asked fs free gs left run j has
found_free g by all _ _ _ _ _ (take a i asked fs free gs left here means seeks run) j (inl same) = inr (subst (λ (n : ℕ). IsAmong n free) same here)
found_free g by all _ _ _ _ _ (take a i asked fs free gs left here means seeks run) j (inr has) =
    ⊎_elim (λ before. inl before) (λ among. inr (others_less i j free among).0) (found_free g by all asked fs (others i free) gs left run j has)

-- A number that was free is left or found.
pub free_left : (g : GPT) (by : MatchedBy) (all asked : List Asked) (fs : Matches) (free : List ℕ) (gs : Matches) (left : List ℕ) → Run g by all asked fs free gs left
    → (j : ℕ) → IsAmong j free → IsAmong j left ⊎ Has j gs
free_left g by all _ _ _ _ _ (done free) j among = inl among
free_left g by all _ _ _ _ _ (keep a m asked fs free gs left run) j among =
    ⊎_elim (λ more. inl more) (λ has. inr (inr has)) (free_left g by all asked fs free gs left run j among)
free_left g by all _ _ _ _ _ (pass a asked fs free gs left idle run) j among = free_left g by all asked fs free gs left run j among
free_left g by all _ _ _ _ _ (take a i asked fs free gs left here means seeks run) j among =
    ⊎_elim (λ (same : j ≡ i). inr (inl (sym same)))
    (λ (other : j ≢ i). ⊎_elim (λ more. inl more) (λ has. inr (inr has)) (free_left g by all asked fs (others i free) gs left run j (others_more i j free among other)))
    (same_or_other j i)

-- A number that was found stays found.
pub stays_found : (g : GPT) (by : MatchedBy) (all asked : List Asked) (fs : Matches) (free : List ℕ) (gs : Matches) (left : List ℕ) → Run g by all asked fs free gs left
    → (j : ℕ) → Has j fs → Has j gs
stays_found g by all _ _ _ _ _ (done free) j has = has
stays_found g by all _ _ _ _ _ (keep a m asked fs free gs left run) j (inl same) = inl same
stays_found g by all _ _ _ _ _ (keep a m asked fs free gs left run) j (inr has) = inr (stays_found g by all asked fs free gs left run j has)
stays_found g by all _ _ _ _ _ (pass a asked fs free gs left idle run) j has = stays_found g by all asked fs free gs left run j has
stays_found g by all _ _ _ _ _ (take a i asked fs free gs left here means seeks run) j has = inr (stays_found g by all asked fs (others i free) gs left run j has)

-- If no number that was found is free, so it is afterwards.
pub left_new : (g : GPT) (by : MatchedBy) (all asked : List Asked) (fs : Matches) (free : List ℕ) (gs : Matches) (left : List ℕ) → Run g by all asked fs free gs left
    → ((j : ℕ) → Has j fs → ¬ IsAmong j free) → (j : ℕ) → Has j gs → ¬ IsAmong j left
left_new g by all _ _ _ _ _ (done free) clear j has = absurd has
left_new g by all _ _ _ _ _ (keep a m asked fs free gs left run) clear j (inl same) =
    λ among. clear j (inl same) (left_free g by all asked fs free gs left run j among)
left_new g by all _ _ _ _ _ (keep a m asked fs free gs left run) clear j (inr has) =
    left_new g by all asked fs free gs left run (λ k before. clear k (inr before)) j has
left_new g by all _ _ _ _ _ (pass a asked fs free gs left idle run) clear j has = left_new g by all asked fs free gs left run clear j has
left_new g by all _ _ _ _ _ (take a i asked fs free gs left here means seeks run) clear j (inl same) =
    λ among. (others_less i j free (left_free g by all asked fs (others i free) gs left run j among)).1 (sym same)
left_new g by all _ _ _ _ _ (take a i asked fs free gs left here means seeks run) clear j (inr has) =
    left_new g by all asked fs (others i free) gs left run (λ k before among. clear k before (others_less i k free among).0) j has

-- Entries that were apart are, if none of them is free.
pub stay_apart : (g : GPT) (by : MatchedBy) (all asked : List Asked) (fs : Matches) (free : List ℕ) (gs : Matches) (left : List ℕ) → Run g by all asked fs free gs left
    → ((j : ℕ) → Has j fs → ¬ IsAmong j free) → Apart fs → Apart gs
stay_apart g by all _ _ _ _ _ (done free) clear apart = apart
stay_apart g by all _ _ _ _ _ (keep a m asked fs free gs left run) clear apart = (
  λ has. ⊎_elim (λ before. apart.0 before) (λ among. clear m.number (inl refl) among) (found_free g by all asked fs free gs left run m.number has),
  stay_apart g by all asked fs free gs left run (λ k before. clear k (inr before)) apart.1,
)
stay_apart g by all _ _ _ _ _ (pass a asked fs free gs left idle run) clear apart = stay_apart g by all asked fs free gs left run clear apart
stay_apart g by all _ _ _ _ _ (take a i asked fs free gs left here means seeks run) clear apart = (
  λ has. ⊎_elim (λ before. clear i before here) (λ among. (others_less i i free among).1 refl) (found_free g by all asked fs (others i free) gs left run i has),
  stay_apart g by all asked fs (others i free) gs left run (λ k before among. clear k before (others_less i k free among).0) apart,
)

-- What holds of each entry that was found, and of each that the request may mean, holds of all that are found.
pub run_each : (P : Asked → EntryMatch → Type 0) (g : GPT) (by : MatchedBy) (all asked : List Asked) (fs : Matches) (free : List ℕ) (gs : Matches) (left : List ℕ) → Run g by all asked fs free gs left
    → ((a : Asked) (i : ℕ) → may_seek g by all a ≡ true → may_mean g by a i ≡ true → P a (record { number = i; by = by }))
    → AllZip (λ a f. IfSome f (P a)) asked fs → AllZip (λ a f. IfSome f (P a)) asked gs
run_each P g by all _ _ _ _ _ (done free) new each = each
run_each P g by all _ _ _ _ _ (keep a m asked fs free gs left run) new each = (each.0, run_each P g by all asked fs free gs left run new each.1)
run_each P g by all _ _ _ _ _ (pass a asked fs free gs left idle run) new each = (each.0, run_each P g by all asked fs free gs left run new each.1)
run_each P g by all _ _ _ _ _ (take a i asked fs free gs left here means seeks run) new each =
    (new a i seeks means, run_each P g by all asked fs (others i free) gs left run new each.1)

-- What holds of each request without an entry holds of each that is still without one.
pub run_none : (Q : Asked → Type 0) (g : GPT) (by : MatchedBy) (all asked : List Asked) (fs : Matches) (free : List ℕ) (gs : Matches) (left : List ℕ) → Run g by all asked fs free gs left
    → AllZip (λ a f. f ≡ None → Q a) asked fs → AllZip (λ a f. f ≡ None → Q a) asked gs
run_none Q g by all _ _ _ _ _ (done free) each = each
run_none Q g by all _ _ _ _ _ (keep a m asked fs free gs left run) each = (each.0, run_none Q g by all asked fs free gs left run each.1)
run_none Q g by all _ _ _ _ _ (pass a asked fs free gs left idle run) each = (each.0, run_none Q g by all asked fs free gs left run each.1)
run_none Q g by all _ _ _ _ _ (take a i asked fs free gs left here means seeks run) each =
    (λ none. absurd (cc), run_none Q g by all asked fs (others i free) gs left run each.1)

-- A request that stays without an entry may mean none that is left.
pub run_idle : (g : GPT) (by : MatchedBy) (all asked : List Asked) (fs : Matches) (free : List ℕ) (gs : Matches) (left : List ℕ) → Run g by all asked fs free gs left
    → AllZip (λ a f. f ≡ None → may_seek g by all a ≡ true → (j : ℕ) → IsAmong j left → may_mean g by a j ≡ false) asked gs
run_idle g by all _ _ _ _ _ (done free) = tt
run_idle g by all _ _ _ _ _ (keep a m asked fs free gs left run) = (λ none. absurd (cc), run_idle g by all asked fs free gs left run)
run_idle g by all _ _ _ _ _ (pass a asked fs free gs left idle run) =
    (λ none seeks j among. idle seeks j (left_free g by all asked fs free gs left run j among), run_idle g by all asked fs free gs left run)
run_idle g by all _ _ _ _ _ (take a i asked fs free gs left here means seeks run) = (λ none. absurd (cc), run_idle g by all asked fs (others i free) gs left run)

pub run_length : (g : GPT) (by : MatchedBy) (all asked : List Asked) (fs : Matches) (free : List ℕ) (gs : Matches) (left : List ℕ) → Run g by all asked fs free gs left → length gs ≡ length asked
run_length g by all _ _ _ _ _ (done free) = refl
run_length g by all _ _ _ _ _ (keep a m asked fs free gs left run) = ap suc (run_length g by all asked fs free gs left run)
run_length g by all _ _ _ _ _ (pass a asked fs free gs left idle run) = ap suc (run_length g by all asked fs free gs left run)
run_length g by all _ _ _ _ _ (take a i asked fs free gs left here means seeks run) = ap suc (run_length g by all asked fs (others i free) gs left run)

-- The entry of a number that the request has.
abbrev pub IsGiven : Asked → Option EntryMatch → Type 0
IsGiven a f = IfSome a.number (λ i. f ≡ Some (record { number = i; by = Number }))

none_given : (o : Option ℕ) (f : Option EntryMatch) → IfSome o (λ i. ◌≡◌ {A = Option EntryMatch} None (Some (record { number = i; by = Number }))) → IfSome o (λ i. f ≡ Some (record { number = i; by = Number }))
none_given None f is = tt
none_given (Some i) f is = absurd (cc)

-- Entries of given numbers stay.
pub run_given : (g : GPT) (by : MatchedBy) (all asked : List Asked) (fs : Matches) (free : List ℕ) (gs : Matches) (left : List ℕ) → Run g by all asked fs free gs left
    → AllZip IsGiven asked fs → AllZip IsGiven asked gs
run_given g by all _ _ _ _ _ (done free) each = each
run_given g by all _ _ _ _ _ (keep a m asked fs free gs left run) each = (each.0, run_given g by all asked fs free gs left run each.1)
run_given g by all _ _ _ _ _ (pass a asked fs free gs left idle run) each = (each.0, run_given g by all asked fs free gs left run each.1)
run_given g by all _ _ _ _ _ (take a i asked fs free gs left here means seeks run) each =
    (none_given a.number _ each.0, run_given g by all asked fs (others i free) gs left run each.1)
