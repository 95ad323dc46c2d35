-- What the passes of a search say of the requests and the entries.
use Rattle.std.proofs.Common.{◌≡◌, ◌≢◌, ◌≤◌, ◌<◌, ◌⊎◌, inl, inr, ⊎_elim, ℕ, ◌+◌, ◌-◌, zero, suc, List, [], ◌∷◌, ◌++◌, length, refl, sym, ap, ◌∙◌, subst, arith, Bool, true, false, IsTrue, get_or}
use Rattle.std.specs.Prelude.{Option, Some, None, Result, Ok, Err, IfOk, IfSome, if◌then◌else◌, ◌==◌, ◌&&◌, ◌||◌, not, map, count_by, nat_le}
use Rattle.std.specs.List.{cons_option, enumerate_from, filter, AllZip}
use Rattle.std.specs.Option.{option_map}
use Rattle.std.specs.Str.{bytes_eq}
use Rattle.std.proofs.lemmas.Bool.{eqb-true, eqb-false, false≢true}
use Rattle.std.proofs.lemmas.List.{length-map}
use Rattle.std.proofs.lemmas.Slice.Eq.{bytes_eq-Decides}
use Rattle.gptman.specs.Coding.{empty_entry}
use Rattle.gptman.specs.Entry.{is_unused, is_used}
use Rattle.gptman.specs.Number.{entry_at, entry_of_number, IsNumber}
use Rattle.gptman.specs.Table.{entries_in}
use Rattle.gptman.specs.declared.codec.entry.GPTPartitionEntry.{GPTPartitionEntry}
use Rattle.gptman.specs.declared.table.GPT.{GPT}
use Rattle.gptedit_core.specs.Named.{IsAmong}
use Rattle.gptedit_core.specs.Matching.{all_found, asks_name, fits, free_at_first, given, is_asked, is_empty, is_given, is_only_name, is_used_as, may_mean, may_seek, name_asked, is_on_side, is_role, highest, new_found, new_numbers, numbers_given, numbers_in, numbers_of, others, pass, role_fault_unless, used_found}
use Rattle.gptedit_core.specs.Matching.{AreApart, AreLeft, IsLawful, IsLeft, IsMatched, IsNewIn, KeepsNumber, Means, MeansBy}
use Rattle.gptedit_core.specs.Resolving.{unless}
use Rattle.gptedit_core.specs.declared.asked.Asked.{Asked}
use Rattle.gptedit_core.specs.declared.asked.RequestedLayout.{RequestedLayout}
use Rattle.gptedit_core.specs.declared.matching.EntryMatch.{EntryMatch}
use Rattle.gptedit_core.specs.declared.matching.MatchedLayout.{MatchedLayout}
use Rattle.gptedit_core.specs.declared.matching.MatchedBy.{MatchedBy}
use Rattle.gptedit_core.specs.declared.matching.MatchedBy.TheVariants.{Number, Guid, Name, «Type» as ByType, New}
use Rattle.gptedit_core.specs.declared.refusal.Refusal.{Refusal}
use Rattle.gptedit_core.specs.declared.refusal.Stop.{Stop}
use Rattle.gptedit_core.proofs.Extended.{both_true, found_by, number_found}
use Rattle.gptedit_core.proofs.Steps.{and_then_ok}
use Rattle.gptedit_core.proofs.Meant.{left_free, found_free, free_left, left_new, run_each, run_given, run_idle, run_length, run_none, runs, stay_apart, stays_found, Apart, Has, IsGiven, Matches, Run, done, keep, pass as idle_pass, take}

-- ---- what a request may mean

either_true : (a b : Bool) → (a || b) ≡ true → (a ≡ true) ⊎ (b ≡ true)
either_true true b is = inl refl
either_true false b is = inr is

empty_is : (xs : List ℕ) → is_empty xs ≡ true → xs ≡ []
empty_is [] is = refl
empty_is (x ∷ xs) is = absurd (false≢true is)

not_empty : (xs : List ℕ) → not (is_empty xs) ≡ true → xs ≢ []
not_empty [] is = absurd (false≢true is)
not_empty (x ∷ xs) is = λ none. absurd (cc)

asked_is : (o : Option (List ℕ)) (guid : List ℕ) → is_asked o guid ≡ true → o ≡ Some guid
asked_is None guid is = absurd (false≢true is)
asked_is (Some x) guid is = ap (λ (y : List ℕ). Some y) ((bytes_eq-Decides x guid).0 is)

role_is : (name own : List ℕ) → is_role name own ≡ true → ((name ≡ []) ⊎ (own ≡ [])) ⊎ (own ≡ name)
role_is name own is =
    ⊎_elim (λ one. inl (⊎_elim (λ first. inl (empty_is name first)) (λ last. inr (empty_is own last)) (either_true (is_empty name) (is_empty own) one)))
    (λ same. inr ((bytes_eq-Decides own name).0 same))
    (either_true (is_empty name || is_empty own) (bytes_eq own name) is)

abbrev Fits : GPT → Asked → ℕ → MatchedBy → GPTPartitionEntry → Type 0
Fits g a i by e = IsNumber g i → entry_at g i ≡ e → MeansBy g a i by

seeks_name : (g : GPT) (all : List Asked) (a : Asked) → is_only_name g all (name_asked a) ≡ true → name_asked a ≢ []
seeks_name g all a is =
    let first = both_true (not (is_empty (name_asked a)) && (count_by (asks_name (name_asked a)) all == 1)) (count_by (is_used_as (name_asked a)) (entries_in g) == 1) is in
    not_empty (name_asked a) (both_true (not (is_empty (name_asked a))) (count_by (asks_name (name_asked a)) all == 1) first.0).0

fits_is : (g : GPT) (all : List Asked) (a : Asked) (i : ℕ) (by : MatchedBy) (e : GPTPartitionEntry) → may_seek g by all a ≡ true → fits by a e ≡ true → Fits g a i by e
fits_is g all a i Number e seeks is = λ number at. absurd (false≢true is)
fits_is g all a i Guid e seeks is = λ number at.
    let parts = both_true (is_used e) (is_asked a.unique_guid e.unique_partition_guid) is in (
      number,
      subst (λ (x : GPTPartitionEntry). IsTrue (is_used x)) (sym at) parts.0,
      subst (λ (x : GPTPartitionEntry). a.unique_guid ≡ Some x.unique_partition_guid) (sym at) (asked_is a.unique_guid e.unique_partition_guid parts.1),
    )
fits_is g all a i Name e seeks is = λ number at.
    let parts = both_true (is_used e) (bytes_eq e.partition_name.text (name_asked a)) is in (
      number,
      subst (λ (x : GPTPartitionEntry). IsTrue (is_used x)) (sym at) parts.0,
      (seeks_name g all a seeks, subst (λ (x : GPTPartitionEntry). x.partition_name.text ≡ name_asked a) (sym at) ((bytes_eq-Decides e.partition_name.text (name_asked a)).0 parts.1)),
    )
fits_is g all a i ByType e seeks is = λ number at.
    let parts = both_true (is_used e && is_asked a.type_guid e.partition_type_guid) (is_role (name_asked a) e.partition_name.text) is in
    let first = both_true (is_used e) (is_asked a.type_guid e.partition_type_guid) parts.0 in (
      number,
      subst (λ (x : GPTPartitionEntry). IsTrue (is_used x)) (sym at) first.0,
      subst (λ (x : GPTPartitionEntry). (a.type_guid ≡ Some x.partition_type_guid) × (((name_asked a ≡ []) ⊎ (x.partition_name.text ≡ [])) ⊎ (x.partition_name.text ≡ name_asked a))) (sym at) (
        asked_is a.type_guid e.partition_type_guid first.1,
        role_is (name_asked a) e.partition_name.text parts.1,
      ),
    )
fits_is g all a i New e seeks is = λ number at. (number, subst (λ (x : GPTPartitionEntry). IsTrue (is_unused x)) (sym at) is)

mean_found : (g : GPT) (all : List Asked) (a : Asked) (i : ℕ) (by : MatchedBy) (o : Option GPTPartitionEntry) → entry_of_number g i ≡ o → may_seek g by all a ≡ true
    → ◌≡◌ {A = Bool} (elim o [ None ↦ false | Some e ↦ fits by a e ]) true → MeansBy g a i by
mean_found g all a i by None found seeks is = absurd (false≢true is)
mean_found g all a i by (Some e) found seeks is =
    let there = found_by g i e (nat_le 1 i) refl found in fits_is g all a i by e seeks is there.0 there.1

-- A request means what it may mean.
mean_is : (g : GPT) (all : List Asked) (a : Asked) (i : ℕ) (by : MatchedBy) → may_seek g by all a ≡ true → may_mean g by a i ≡ true → MeansBy g a i by
mean_is g all a i by seeks is = mean_found g all a i by (entry_of_number g i) refl seeks is

-- ---- the runs

abbrev State : Type 0
State = Matches × List ℕ

abbrev at_first : GPT → List Asked → State
at_first g asked = (map given asked, free_at_first is_used g asked)

abbrev by_guid : GPT → List Asked → State
by_guid g asked = pass g asked Guid (at_first g asked)

abbrev by_name : GPT → List Asked → State
by_name g asked = pass g asked Name (by_guid g asked)

abbrev by_type : GPT → List Asked → State
by_type g asked = pass g asked ByType (by_name g asked)

abbrev open_first : GPT → List Asked → State
open_first g asked = ((by_type g asked).0, new_numbers g asked (by_type g asked).0)

abbrev by_new : GPT → List Asked → State
by_new g asked = pass g asked New (open_first g asked)

abbrev RunOf : GPT → List Asked → MatchedBy → State → State → Type 0
RunOf g asked by from to = Run g by asked asked from.0 from.1 to.0 to.1

record Search (g : GPT) (asked : List Asked) : Type 0 where
  guid : RunOf g asked Guid (at_first g asked) (by_guid g asked)
  name : RunOf g asked Name (by_guid g asked) (by_name g asked)
  type : RunOf g asked ByType (by_name g asked) (by_type g asked)
  new : RunOf g asked New (open_first g asked) (by_new g asked)

run_of : (g : GPT) (asked : List Asked) (by : MatchedBy) (s : State) → length s.0 ≡ length asked → RunOf g asked by s (pass g asked by s)
run_of g asked by s long = runs g by asked asked s.0 s.1 long

long_after : (g : GPT) (asked : List Asked) (by : MatchedBy) (s t : State) → RunOf g asked by s t → length t.0 ≡ length asked
long_after g asked by s t run = run_length g by asked asked s.0 s.1 t.0 t.1 run

search_of : (g : GPT) (asked : List Asked) → Search g asked
search_of g asked =
    let one = run_of g asked Guid (at_first g asked) (length-map asked given) in
    let two = run_of g asked Name (by_guid g asked) (long_after g asked Guid (at_first g asked) (by_guid g asked) one) in
    let three = run_of g asked ByType (by_name g asked) (long_after g asked Name (by_guid g asked) (by_name g asked) two) in
    let four = run_of g asked New (open_first g asked) (long_after g asked ByType (by_name g asked) (by_type g asked) three) in
    record { guid = one; name = two; type = three; new = four }

-- ---- the entries

found_one : (f : Option EntryMatch) (found : Matches) (ms : List EntryMatch) → all_found (f ∷ found) ≡ Ok ms
    → ((rest : List EntryMatch) → all_found found ≡ Ok rest → found ≡ map (λ (m : EntryMatch). Some m) rest) → f ∷ found ≡ map (λ (m : EntryMatch). Some m) ms
found_one None found ms is next = absurd (cc)
found_one (Some m) found ms is next =
    let rest = and_then_ok (all_found found) (λ (rest : List EntryMatch). Ok (m ∷ rest)) ms is in
    let same : m ∷ rest.0 ≡ ms = cc in
    ap (λ (xs : Matches). Some m ∷ xs) (next rest.0 rest.1) ∙ ap (λ (xs : List EntryMatch). map (λ (x : EntryMatch). Some x) xs) same

found_are : (found : Matches) (ms : List EntryMatch) → all_found found ≡ Ok ms → found ≡ map (λ (m : EntryMatch). Some m) ms
found_are [] ms is = let none : [] ≡ ms = cc in ap (λ (xs : List EntryMatch). map (λ (x : EntryMatch). Some x) xs) none
found_are (f ∷ found) ms is = found_one f found ms is (λ rest more. found_are found rest more)

each_of : (P : Asked → Option EntryMatch → Type 0) (Q : Asked → EntryMatch → Type 0) → ((a : Asked) (m : EntryMatch) → P a (Some m) → Q a m)
    → (asked : List Asked) (ms : List EntryMatch) → AllZip P asked (map (λ (m : EntryMatch). Some m) ms) → AllZip Q asked ms
each_of P Q to [] [] each = tt
each_of P Q to [] (m ∷ ms) each = absurd each
each_of P Q to (a ∷ asked) [] each = absurd each
each_of P Q to (a ∷ asked) (m ∷ ms) each = (to a m each.0, each_of P Q to asked ms each.1)

-- What holds of the entries found holds of all entries.
each_found : (P : Asked → Option EntryMatch → Type 0) (Q : Asked → EntryMatch → Type 0) → ((a : Asked) (m : EntryMatch) → P a (Some m) → Q a m)
    → (asked : List Asked) (found : Matches) (ms : List EntryMatch) → all_found found ≡ Ok ms → AllZip P asked found → AllZip Q asked ms
each_found P Q to asked found ms is each = each_of P Q to asked ms (subst (λ (xs : Matches). AllZip P asked xs) (found_are found ms is) each)

each_given : (P : Asked → Option EntryMatch → Type 0) → ((a : Asked) → P a (given a)) → (asked : List Asked) → AllZip P asked (map given asked)
each_given P holds [] = tt
each_given P holds (a ∷ asked) = (holds a, each_given P holds asked)

-- ---- each request means its entry

given_means : (g : GPT) (a : Asked) (o : Option ℕ) → a.number ≡ o → IfSome (option_map (λ (i : ℕ). let m : EntryMatch = record { number = i; by = Number } in m) o) (Means g a)
given_means g a None is = tt
given_means g a (Some i) is = is

pub all_meant : (g : GPT) (asked : List Asked) (ms : List EntryMatch) → all_found (new_found g asked (new_numbers g asked (used_found g asked).0) (used_found g asked).0) ≡ Ok ms → AllZip (Means g) asked ms
all_meant g asked ms is =
    let runs = search_of g asked in
    let new : (by : MatchedBy) (a : Asked) (i : ℕ) → may_seek g by asked a ≡ true → may_mean g by a i ≡ true → MeansBy g a i by = λ by a i seeks may. mean_is g asked a i by seeks may in
    each_found (λ a f. IfSome f (Means g a)) (Means g) (λ a m h. h) asked (by_new g asked).0 ms is
    (run_each (Means g) g New asked asked _ _ _ _ runs.new (new New)
    (run_each (Means g) g ByType asked asked _ _ _ _ runs.type (new ByType)
    (run_each (Means g) g Name asked asked _ _ _ _ runs.name (new Name)
    (run_each (Means g) g Guid asked asked _ _ _ _ runs.guid (new Guid)
    (each_given (λ a f. IfSome f (Means g a)) (λ a. given_means g a a.number refl) asked)))))

-- ---- given numbers are kept

given_is : (o : Option ℕ) → IfSome o (λ i. ◌≡◌ {A = Option EntryMatch} (option_map (λ (j : ℕ). let m : EntryMatch = record { number = j; by = Number } in m) o) (Some (record { number = i; by = Number })))
given_is None = tt
given_is (Some i) = refl

same_given : (o : Option ℕ) (m : EntryMatch) → IfSome o (λ i. ◌≡◌ {A = Option EntryMatch} (Some m) (Some (record { number = i; by = Number }))) → IfSome o (λ i. (m.number ≡ i) × (m.by ≡ Number))
same_given None m is = tt
same_given (Some i) m is =
    let same : m ≡ record { number = i; by = Number } = cc in (ap (λ (x : EntryMatch). x.number) same, ap (λ (x : EntryMatch). x.by) same)

pub all_kept : (g : GPT) (asked : List Asked) (ms : List EntryMatch) → all_found (new_found g asked (new_numbers g asked (used_found g asked).0) (used_found g asked).0) ≡ Ok ms → AllZip KeepsNumber asked ms
all_kept g asked ms is =
    let runs = search_of g asked in
    each_found IsGiven KeepsNumber (λ a m h. same_given a.number m h) asked (by_new g asked).0 ms is
    (run_given g New asked asked _ _ _ _ runs.new
    (run_given g ByType asked asked _ _ _ _ runs.type
    (run_given g Name asked asked _ _ _ _ runs.name
    (run_given g Guid asked asked _ _ _ _ runs.guid
    (each_given IsGiven (λ a. given_is a.number) asked)))))

-- ---- given numbers

has_one : (o : Option ℕ) (fs : Matches) (is : List ℕ) (j : ℕ) → (Has j fs → IsAmong j is)
    → Has j (option_map (λ (i : ℕ). let m : EntryMatch = record { number = i; by = Number } in m) o ∷ fs) → IsAmong j (cons_option o is)
has_one None fs is j rest has = rest has
has_one (Some i) fs is j rest (inl same) = inl same
has_one (Some i) fs is j rest (inr has) = inr (rest has)

has_given : (asked : List Asked) (j : ℕ) → Has j (map given asked) → IsAmong j (numbers_given asked)
has_given [] j has = absurd has
has_given (a ∷ asked) j has = has_one a.number (map given asked) (numbers_given asked) j (λ more. has_given asked j more) has

apart_one : (o : Option ℕ) (fs : Matches) (is : List ℕ) → ((j : ℕ) → Has j fs → IsAmong j is) → (AreApart is → Apart fs) → AreApart (cons_option o is)
    → Apart (option_map (λ (i : ℕ). let m : EntryMatch = record { number = i; by = Number } in m) o ∷ fs)
apart_one None fs is has rest apart = rest apart
apart_one (Some i) fs is has rest apart = (λ more. apart.0 (has i more), rest apart.1)

apart_given : (asked : List Asked) → AreApart (numbers_given asked) → Apart (map given asked)
apart_given [] apart = tt
apart_given (a ∷ asked) apart = apart_one a.number (map given asked) (numbers_given asked) (λ j has. has_given asked j has) (λ rest. apart_given asked rest) apart

any_later : (b c : Bool) → c ≡ true → (b || c) ≡ true
any_later true c is = refl
any_later false c is = is

any_first : (b c : Bool) → b ≡ true → (b || c) ≡ true
any_first true c is = refl
any_first false c is = absurd (false≢true is)

equal_is : (i : ℕ) (b : Bool) → (i == i) ≡ b → b ≡ true
equal_is i true is = refl
equal_is i false is = absurd (eqb-false i i is refl)

one_given : (o : Option ℕ) (fs : Matches) (rest : Bool) (j : ℕ) → (Has j fs → rest ≡ true)
    → Has j (option_map (λ (i : ℕ). let m : EntryMatch = record { number = i; by = Number } in m) o ∷ fs) → (elim o [ None ↦ false | Some i ↦ i == j ] || rest) ≡ true
one_given None fs rest j more has = more has
one_given (Some i) fs rest j more (inl same) = any_first (i == j) rest (subst (λ (n : ℕ). (i == n) ≡ true) same (equal_is i (i == i) refl))
one_given (Some i) fs rest j more (inr has) = any_later (i == j) rest (more has)

is_given_has : (asked : List Asked) (j : ℕ) → Has j (map given asked) → is_given j asked ≡ true
is_given_has [] j has = absurd has
is_given_has (a ∷ asked) j has = one_given a.number (map given asked) (is_given j asked) j (λ more. is_given_has asked j more) has

has_first : (o : Option ℕ) (fs : Matches) (rest : Bool) (j : ℕ) → (rest ≡ true → Has j fs) → (elim o [ None ↦ false | Some i ↦ i == j ] || rest) ≡ true
    → Has j (option_map (λ (i : ℕ). let m : EntryMatch = record { number = i; by = Number } in m) o ∷ fs)
has_first None fs rest j more is = more is
has_first (Some i) fs rest j more is = ⊎_elim (λ here. inl (eqb-true i j here)) (λ later. inr (more later)) (either_true (i == j) rest is)

has_is_given : (asked : List Asked) (j : ℕ) → is_given j asked ≡ true → Has j (map given asked)
has_is_given [] j is = absurd (false≢true is)
has_is_given (a ∷ asked) j is = has_first a.number (map given asked) (is_given j asked) j (λ more. has_is_given asked j more) is

-- ---- the numbers that are free at first

record IsFreeFrom (test : GPTPartitionEntry → Bool) (asked : List Asked) (k : ℕ) (es : List GPTPartitionEntry) (j : ℕ) : Type 0 where
  low : k ≤ j
  high : j < k + length es
  passes : test (get_or es (j - k) empty_entry) ≡ true
  left : is_given j asked ≡ false

not_true : (b : Bool) → not b ≡ true → b ≡ false
not_true true is = absurd (false≢true is)
not_true false is = refl

next_index : (j k : ℕ) → k + 1 ≤ j → suc (j - (k + 1)) ≡ j - k
next_index j k low = omega arith

free_later : (test : GPTPartitionEntry → Bool) (asked : List Asked) (k : ℕ) (e : GPTPartitionEntry) (es : List GPTPartitionEntry) (j : ℕ)
    → IsFreeFrom test asked (k + 1) es j → IsFreeFrom test asked k (e ∷ es) j
free_later test asked k e es j is = record {
  low = omega (arith, is.low);
  high = omega (arith, is.high);
  passes = subst (λ (n : ℕ). test (get_or (e ∷ es) n empty_entry) ≡ true) (next_index j k is.low) is.passes;
  left = is.left;
}

free_here : (test : GPTPartitionEntry → Bool) (asked : List Asked) (k : ℕ) (e : GPTPartitionEntry) (es : List GPTPartitionEntry) (j : ℕ) → k ≡ j
    → (test e && not (is_given k asked)) ≡ true → IsFreeFrom test asked k (e ∷ es) j
free_here test asked k e es j same is =
    let parts = both_true (test e) (not (is_given k asked)) is in
    let index : zero ≡ j - k = omega (arith, same) in
    record {
      low = omega (arith, same);
      high = omega (arith, same);
      passes = subst (λ (n : ℕ). test (get_or (e ∷ es) n empty_entry) ≡ true) index parts.0;
      left = subst (λ (n : ℕ). is_given n asked ≡ false) same (not_true (is_given k asked) parts.1);
    }

free_one : (test : GPTPartitionEntry → Bool) (asked : List Asked) (k : ℕ) (e : GPTPartitionEntry) (es : List GPTPartitionEntry) (j : ℕ) (b : Bool) (rest : List ℕ)
    → (test e && not (is_given k asked)) ≡ b → (IsAmong j rest → IsFreeFrom test asked (k + 1) es j) → IsAmong j (if b then k ∷ rest else rest) → IsFreeFrom test asked k (e ∷ es) j
free_one test asked k e es j true rest is later (inl same) = free_here test asked k e es j same is
free_one test asked k e es j true rest is later (inr more) = free_later test asked k e es j (later more)
free_one test asked k e es j false rest is later more = free_later test asked k e es j (later more)

free_are : (test : GPTPartitionEntry → Bool) (asked : List Asked) (k : ℕ) (es : List GPTPartitionEntry) (j : ℕ) → IsAmong j (numbers_of test asked (enumerate_from k es)) → IsFreeFrom test asked k es j
free_are test asked k [] j among = absurd among
free_are test asked k (e ∷ es) j among =
    free_one test asked k e es j (test e && not (is_given k asked)) (numbers_of test asked (enumerate_from (k + 1) es)) refl (λ more. free_are test asked (k + 1) es j more) among

both_are : (a b : Bool) → a ≡ true → b ≡ true → (a && b) ≡ true
both_are true b x y = y
both_are false b x y = absurd (false≢true x)

not_false : (b : Bool) → b ≡ false → not b ≡ true
not_false false is = refl
not_false true is = absurd (false≢true (sym is))

among_later : (j k : ℕ) (b : Bool) (rest : List ℕ) → IsAmong j rest → IsAmong j (if b then k ∷ rest else rest)
among_later j k true rest more = inr more
among_later j k false rest more = more

among_here : (j k : ℕ) (b : Bool) (rest : List ℕ) → b ≡ true → k ≡ j → IsAmong j (if b then k ∷ rest else rest)
among_here j k true rest is same = inl same
among_here j k false rest is same = absurd (false≢true is)

same_or_above : (k j : ℕ) → k ≤ j → (k ≡ j) ⊎ (k + 1 ≤ j)
same_or_above k j low = grind arith

are_free : (test : GPTPartitionEntry → Bool) (asked : List Asked) (k : ℕ) (es : List GPTPartitionEntry) (j : ℕ) → IsFreeFrom test asked k es j → IsAmong j (numbers_of test asked (enumerate_from k es))
are_free test asked k [] j is = absurd (omega (arith, is.low, is.high))
are_free test asked k (e ∷ es) j is =
    let rest = numbers_of test asked (enumerate_from (k + 1) es) in
    let test_here = test e && not (is_given k asked) in
    ⊎_elim
    (λ (same : k ≡ j).
    let index : j - k ≡ zero = omega (arith, same) in
    let passes : test e ≡ true = subst (λ (n : ℕ). test (get_or (e ∷ es) n empty_entry) ≡ true) index is.passes in
    among_here j k test_here rest (both_are (test e) (not (is_given k asked)) passes (not_false (is_given k asked) (subst (λ (n : ℕ). is_given n asked ≡ false) (sym same) is.left))) same)
    (λ (above : k + 1 ≤ j).
    among_later j k test_here rest (are_free test asked (k + 1) es j (record {
      low = above;
      high = omega (arith, is.high);
      passes = subst (λ (n : ℕ). test (get_or (e ∷ es) n empty_entry) ≡ true) (sym (next_index j k above)) is.passes;
      left = is.left;
    })))
    (same_or_above k j is.low)

-- Number j is that of an entry that passes the test, and no request has it.
record IsFreeAs (test : GPTPartitionEntry → Bool) (g : GPT) (asked : List Asked) (j : ℕ) : Type 0 where
  number : IsNumber g j
  passes : test (entry_at g j) ≡ true
  left : is_given j asked ≡ false

free_as : (test : GPTPartitionEntry → Bool) (g : GPT) (asked : List Asked) (j : ℕ) → IsAmong j (free_at_first test g asked) → IsFreeAs test g asked j
free_as test g asked j among =
    let is = free_are test asked 1 (entries_in g) j among in
    record { number = (is.low, omega (arith, is.high)); passes = is.passes; left = is.left }

as_free : (test : GPTPartitionEntry → Bool) (g : GPT) (asked : List Asked) (j : ℕ) → IsFreeAs test g asked j → IsAmong j (free_at_first test g asked)
as_free test g asked j is =
    are_free test asked 1 (entries_in g) j (record { low = is.number.0; high = omega (arith, is.number.1); passes = is.passes; left = is.left })

-- ---- numbers before and after the passes

-- A number that is left after all passes was free at first.
left_first : (g : GPT) (asked : List Asked) (j : ℕ) → IsAmong j (by_type g asked).1 → IsAmong j (at_first g asked).1
left_first g asked j among =
    let runs = search_of g asked in
    left_free g Guid asked asked _ _ _ _ runs.guid j (left_free g Name asked asked _ _ _ _ runs.name j (left_free g ByType asked asked _ _ _ _ runs.type j among))

-- A number that is found was given, or was free at first.
found_first : (g : GPT) (asked : List Asked) (j : ℕ) → Has j (by_type g asked).0 → Has j (at_first g asked).0 ⊎ IsAmong j (at_first g asked).1
found_first g asked j has =
    let runs = search_of g asked in
    let after_guid : Has j (by_guid g asked).0 → Has j (at_first g asked).0 ⊎ IsAmong j (at_first g asked).1 = λ h. found_free g Guid asked asked _ _ _ _ runs.guid j h in
    let after_name : Has j (by_name g asked).0 → Has j (at_first g asked).0 ⊎ IsAmong j (at_first g asked).1 = λ h.
    ⊎_elim after_guid (λ among. inr (left_free g Guid asked asked _ _ _ _ runs.guid j among)) (found_free g Name asked asked _ _ _ _ runs.name j h) in
    ⊎_elim after_name (λ among. inr (left_free g Guid asked asked _ _ _ _ runs.guid j (left_free g Name asked asked _ _ _ _ runs.name j among)))
    (found_free g ByType asked asked _ _ _ _ runs.type j has)

-- A number that the layout gives stays found.
given_stays : (g : GPT) (asked : List Asked) (j : ℕ) → Has j (at_first g asked).0 → Has j (by_new g asked).0
given_stays g asked j has =
    let runs = search_of g asked in
    stays_found g New asked asked _ _ _ _ runs.new j (stays_found g ByType asked asked _ _ _ _ runs.type j
    (stays_found g Name asked asked _ _ _ _ runs.name j (stays_found g Guid asked asked _ _ _ _ runs.guid j has)))

clear_first : (test : GPTPartitionEntry → Bool) (g : GPT) (asked : List Asked) (j : ℕ) → Has j (map given asked) → ¬ IsAmong j (free_at_first test g asked)
clear_first test g asked j has = λ among. false≢true (sym (free_as test g asked j among).left ∙ is_given_has asked j has)

clear_guid : (g : GPT) (asked : List Asked) (j : ℕ) → Has j (by_guid g asked).0 → ¬ IsAmong j (by_guid g asked).1
clear_guid g asked j has = left_new g Guid asked asked _ _ _ _ (search_of g asked).guid (λ k h. clear_first is_used g asked k h) j has

clear_name : (g : GPT) (asked : List Asked) (j : ℕ) → Has j (by_name g asked).0 → ¬ IsAmong j (by_name g asked).1
clear_name g asked j has = left_new g Name asked asked _ _ _ _ (search_of g asked).name (λ k h. clear_guid g asked k h) j has

clear_type : (g : GPT) (asked : List Asked) (j : ℕ) → Has j (by_type g asked).0 → ¬ IsAmong j (by_type g asked).1
clear_type g asked j has = left_new g ByType asked asked _ _ _ _ (search_of g asked).type (λ k h. clear_name g asked k h) j has

unused_used : (e : GPTPartitionEntry) → is_used e ≡ true → is_unused e ≡ true → ⊥
unused_used e used unused = false≢true (sym (not_true (is_unused e) used) ∙ unused)

among_if : (x : ℕ) (kept xs : List ℕ) (j : ℕ) (b : Bool) → (IsAmong j kept → IsAmong j xs) → IsAmong j (if b then x ∷ kept else kept) → IsAmong j (x ∷ xs)
among_if x kept xs j true to is = ⊎_elim (λ here. inl here) (λ later. inr (to later)) is
among_if x kept xs j false to is = inr (to is)

among_filter : (p : ℕ → Bool) (xs : List ℕ) (j : ℕ) → IsAmong j (filter p xs) → IsAmong j xs
among_filter p [] j is = is
among_filter p (x ∷ xs) j is = among_if x (filter p xs) xs j (p x) (λ one. among_filter p xs j one) is

among_either : (xs ys : List ℕ) (j : ℕ) → IsAmong j (xs ++ ys) → IsAmong j xs ⊎ IsAmong j ys
among_either [] ys j is = inr is
among_either (x ∷ xs) ys j is = ⊎_elim (λ here. inl (inl here)) (λ later. ⊎_elim (λ one. inl (inr one)) (λ one. inr one) (among_either xs ys j later)) is

-- A number for a new partition is that of an unused entry that the layout does not give.
open_is : (g : GPT) (asked : List Asked) (j : ℕ) → IsAmong j (open_first g asked).1 → IsAmong j (free_at_first is_unused g asked)
open_is g asked j is =
    let last = highest (by_type g asked).0 0 in
    let free = free_at_first is_unused g asked in
    ⊎_elim (λ one. among_filter (is_on_side true last) free j one) (λ one. among_filter (is_on_side false last) free j one)
    (among_either (filter (is_on_side true last) free) (filter (is_on_side false last) free) j is)

clear_open : (g : GPT) (asked : List Asked) (j : ℕ) → Has j (by_type g asked).0 → ¬ IsAmong j (open_first g asked).1
clear_open g asked j has = λ unused.
    ⊎_elim (λ given. clear_first is_unused g asked j given (open_is g asked j unused))
    (λ free. unused_used (entry_at g j) (free_as is_used g asked j free).passes (free_as is_unused g asked j (open_is g asked j unused)).passes)
    (found_first g asked j has)

-- ---- the numbers are apart

in_has : (ms : List EntryMatch) (j : ℕ) → IsAmong j (numbers_in ms) → Has j (map (λ (m : EntryMatch). Some m) ms)
in_has [] j among = absurd among
in_has (m ∷ ms) j (inl same) = inl same
in_has (m ∷ ms) j (inr more) = inr (in_has ms j more)

has_in : (ms : List EntryMatch) (j : ℕ) → Has j (map (λ (m : EntryMatch). Some m) ms) → IsAmong j (numbers_in ms)
has_in [] j has = absurd has
has_in (m ∷ ms) j (inl same) = inl same
has_in (m ∷ ms) j (inr more) = inr (has_in ms j more)

apart_in : (ms : List EntryMatch) → Apart (map (λ (m : EntryMatch). Some m) ms) → AreApart (numbers_in ms)
apart_in [] apart = tt
apart_in (m ∷ ms) apart = (λ among. apart.0 (in_has ms m.number among), apart_in ms apart.1)

pub all_apart : (g : GPT) (asked : List Asked) (ms : List EntryMatch) → all_found (new_found g asked (new_numbers g asked (used_found g asked).0) (used_found g asked).0) ≡ Ok ms
    → AreApart (numbers_given asked) → AreApart (numbers_in ms)
all_apart g asked ms is apart =
    let runs = search_of g asked in
    let last : Apart (by_new g asked).0 =
    stay_apart g New asked asked _ _ _ _ runs.new (λ k h. clear_open g asked k h)
    (stay_apart g ByType asked asked _ _ _ _ runs.type (λ k h. clear_name g asked k h)
    (stay_apart g Name asked asked _ _ _ _ runs.name (λ k h. clear_guid g asked k h)
    (stay_apart g Guid asked asked _ _ _ _ runs.guid (λ k h. clear_first is_used g asked k h) (apart_given asked apart)))) in
    apart_in ms (subst Apart (found_are (by_new g asked).0 ms is) last)

-- ---- the entries that are left

left_is : (g : GPT) (asked : List Asked) (ms : List EntryMatch) → all_found (new_found g asked (new_numbers g asked (used_found g asked).0) (used_found g asked).0) ≡ Ok ms → (i : ℕ) → IsAmong i (by_type g asked).1 → IsLeft g ms i
left_is g asked ms is i among =
    let runs = search_of g asked in
    let free = free_as is_used g asked i (left_first g asked i among) in (
      free.number,
      free.passes,
      λ meant.
          let has : Has i (by_new g asked).0 = subst (λ (fs : Matches). Has i fs) (sym (found_are (by_new g asked).0 ms is)) (in_has ms i meant) in
          ⊎_elim (λ before. clear_type g asked i before among)
          (λ unused. unused_used (entry_at g i) free.passes (free_as is_unused g asked i (open_is g asked i unused)).passes)
          (found_free g New asked asked _ _ _ _ runs.new i has),
    )

given_or_not : (i : ℕ) (asked : List Asked) (b : Bool) → is_given i asked ≡ b → (is_given i asked ≡ true) ⊎ (is_given i asked ≡ false)
given_or_not i asked true is = inl is
given_or_not i asked false is = inr is

is_left : (g : GPT) (asked : List Asked) (ms : List EntryMatch) → all_found (new_found g asked (new_numbers g asked (used_found g asked).0) (used_found g asked).0) ≡ Ok ms → (i : ℕ) → IsLeft g ms i → IsAmong i (by_type g asked).1
is_left g asked ms is i (number, used, unmeant) =
    let runs = search_of g asked in
    let absent : ¬ Has i (by_new g asked).0 = λ has. unmeant (has_in ms i (subst (λ (fs : Matches). Has i fs) (found_are (by_new g asked).0 ms is) has)) in
    let gone_type : ¬ Has i (by_type g asked).0 = λ has. absent (stays_found g New asked asked _ _ _ _ runs.new i has) in
    let gone_name : ¬ Has i (by_name g asked).0 = λ has. gone_type (stays_found g ByType asked asked _ _ _ _ runs.type i has) in
    let gone_guid : ¬ Has i (by_guid g asked).0 = λ has. gone_name (stays_found g Name asked asked _ _ _ _ runs.name i has) in
    ⊎_elim (λ (given : is_given i asked ≡ true). absurd (absent (given_stays g asked i (has_is_given asked i given))))
    (λ (left : is_given i asked ≡ false).
    let first = as_free is_used g asked i (record { number = number; passes = used; left = left }) in
    let one : IsAmong i (by_guid g asked).1 = ⊎_elim (λ more. more) (λ has. absurd (gone_guid has)) (free_left g Guid asked asked _ _ _ _ runs.guid i first) in
    let two : IsAmong i (by_name g asked).1 = ⊎_elim (λ more. more) (λ has. absurd (gone_name has)) (free_left g Name asked asked _ _ _ _ runs.name i one) in
    ⊎_elim (λ more. more) (λ has. absurd (gone_type has)) (free_left g ByType asked asked _ _ _ _ runs.type i two))
    (given_or_not i asked (is_given i asked) refl)

pub all_left : (g : GPT) (asked : List Asked) (ms : List EntryMatch) → all_found (new_found g asked (new_numbers g asked (used_found g asked).0) (used_found g asked).0) ≡ Ok ms → AreLeft g ms (used_found g asked).1
all_left g asked ms is = λ i. (λ among. left_is g asked ms is i among, λ left. is_left g asked ms is i left)

-- ---- a new entry is only for a request that could mean none that is left

asked_same : (o : Option (List ℕ)) (guid : List ℕ) → o ≡ Some guid → is_asked o guid ≡ true
asked_same None guid is = absurd (cc)
asked_same (Some x) guid is = let same : x ≡ guid = cc in (bytes_eq-Decides x guid).1 same

is_empty_nil : (xs : List ℕ) → xs ≡ [] → is_empty xs ≡ true
is_empty_nil [] is = refl
is_empty_nil (x ∷ xs) is = absurd (cc)

may_of : (g : GPT) (by : MatchedBy) (a : Asked) (i : ℕ) → IsNumber g i → fits by a (entry_at g i) ≡ true → may_mean g by a i ≡ true
may_of g by a i number is =
    subst (λ (o : Option GPTPartitionEntry). ◌≡◌ {A = Bool} (elim o [ None ↦ false | Some e ↦ fits by a e ]) true) (sym (number_found g i number)) is

may_guid : (g : GPT) (a : Asked) (i : ℕ) → MeansBy g a i Guid → may_mean g Guid a i ≡ true
may_guid g a i (number, used, same) =
    may_of g Guid a i number (both_are (is_used (entry_at g i)) (is_asked a.unique_guid (entry_at g i).unique_partition_guid) used (asked_same a.unique_guid (entry_at g i).unique_partition_guid same))

role_of : (name own : List ℕ) → ((name ≡ []) ⊎ (own ≡ [])) ⊎ (own ≡ name) → is_role name own ≡ true
role_of name own one =
    ⊎_elim (λ none. any_first (is_empty name || is_empty own) (bytes_eq own name)
    (⊎_elim (λ first. any_first (is_empty name) (is_empty own) (is_empty_nil name first)) (λ last. any_later (is_empty name) (is_empty own) (is_empty_nil own last)) none))
    (λ same. any_later (is_empty name || is_empty own) (bytes_eq own name) ((bytes_eq-Decides own name).1 same)) one

may_type : (g : GPT) (a : Asked) (i : ℕ) → MeansBy g a i ByType → may_mean g ByType a i ≡ true
may_type g a i (number, used, both) =
    let e = entry_at g i in
    may_of g ByType a i number (both_are (is_used e && is_asked a.type_guid e.partition_type_guid) (is_role (name_asked a) e.partition_name.text)
    (both_are (is_used e) (is_asked a.type_guid e.partition_type_guid) used (asked_same a.type_guid e.partition_type_guid both.0))
    (role_of (name_asked a) e.partition_name.text both.1))

-- The request could mean none of these entries by GUID or type.
abbrev MeansNone : GPT → List ℕ → Asked → Type 0
MeansNone g left a = (i : ℕ) → IsAmong i left → (¬ MeansBy g a i Guid) × (¬ MeansBy g a i ByType)

both_each : (P Q R : Asked → Option EntryMatch → Type 0) → ((a : Asked) (f : Option EntryMatch) → P a f → Q a f → R a f) → (asked : List Asked) (fs : Matches)
    → AllZip P asked fs → AllZip Q asked fs → AllZip R asked fs
both_each P Q R to [] [] p q = tt
both_each P Q R to [] (f ∷ fs) p q = absurd p
both_each P Q R to (a ∷ asked) [] p q = absurd p
both_each P Q R to (a ∷ asked) (f ∷ fs) p q = (to a f p.0 q.0, both_each P Q R to asked fs p.1 q.1)

none_meant : (g : GPT) (asked : List Asked) → AllZip (λ a f. f ≡ None → MeansNone g (by_type g asked).1 a) asked (by_type g asked).0
none_meant g asked =
    let runs = search_of g asked in
    let left = (by_type g asked).1 in
    let back : (j : ℕ) → IsAmong j left → IsAmong j (by_guid g asked).1 = λ j among.
    left_free g Name asked asked _ _ _ _ runs.name j (left_free g ByType asked asked _ _ _ _ runs.type j among) in
    let guid : AllZip (λ a f. f ≡ None → (j : ℕ) → IsAmong j (by_guid g asked).1 → may_mean g Guid a j ≡ false) asked (by_type g asked).0 =
    run_none (λ a. (j : ℕ) → IsAmong j (by_guid g asked).1 → may_mean g Guid a j ≡ false) g ByType asked asked _ _ _ _ runs.type
    (run_none (λ a. (j : ℕ) → IsAmong j (by_guid g asked).1 → may_mean g Guid a j ≡ false) g Name asked asked _ _ _ _ runs.name
    (both_each _ _ (λ a f. f ≡ None → (j : ℕ) → IsAmong j (by_guid g asked).1 → may_mean g Guid a j ≡ false) (λ a f h k none j among. h none refl j among) asked (by_guid g asked).0
    (run_idle g Guid asked asked _ _ _ _ runs.guid) (run_idle g Guid asked asked _ _ _ _ runs.guid))) in
    both_each _ _ (λ a f. f ≡ None → MeansNone g left a)
    (λ a f by_its_guid by_its_type none i among. (
      λ means. false≢true (sym (by_its_guid none i (back i among)) ∙ may_guid g a i means),
      λ means. false≢true (sym (by_its_type none refl i among) ∙ may_type g a i means),
    )) asked (by_type g asked).0 guid (run_idle g ByType asked asked _ _ _ _ runs.type)

new_one : (Q : Asked → Type 0) (g : GPT) (all asked : List Asked) (fs : Matches) (free : List ℕ) (gs : Matches) (left : List ℕ) → Run g New all asked fs free gs left
    → AllZip (λ a f. f ≡ None → Q a) asked fs → AllZip (λ a f. IfSome f (λ m. m.by ≢ New)) asked fs → AllZip (λ a f. IfSome f (λ m. m.by ≡ New → Q a)) asked gs
new_one Q g all _ _ _ _ _ (done free) each old = tt
new_one Q g all _ _ _ _ _ (keep a m asked fs free gs left run) each old = (λ new. absurd (old.0 new), new_one Q g all asked fs free gs left run each.1 old.1)
new_one Q g all _ _ _ _ _ (idle_pass a asked fs free gs left idle run) each old = (tt, new_one Q g all asked fs free gs left run each.1 old.1)
new_one Q g all _ _ _ _ _ (take a i asked fs free gs left here means seeks run) each old = (λ new. each.0 refl, new_one Q g all asked fs (others i free) gs left run each.1 old.1)

given_old : (o : Option ℕ) → IfSome (option_map (λ (i : ℕ). let m : EntryMatch = record { number = i; by = Number } in m) o) (λ m. m.by ≢ New)
given_old None = tt
given_old (Some i) = λ same. absurd (cc)

all_old : (g : GPT) (asked : List Asked) → AllZip (λ a f. IfSome f (λ m. m.by ≢ New)) asked (by_type g asked).0
all_old g asked =
    let runs = search_of g asked in
    let P : Asked → EntryMatch → Type 0 = λ a m. m.by ≢ New in
    run_each P g ByType asked asked _ _ _ _ runs.type (λ a i seeks may same. absurd (cc))
    (run_each P g Name asked asked _ _ _ _ runs.name (λ a i seeks may same. absurd (cc))
    (run_each P g Guid asked asked _ _ _ _ runs.guid (λ a i seeks may same. absurd (cc))
    (each_given (λ a f. IfSome f (P a)) (λ a. given_old a.number) asked)))

pub all_complete : (g : GPT) (asked : List Asked) (ms : List EntryMatch) → all_found (new_found g asked (new_numbers g asked (used_found g asked).0) (used_found g asked).0) ≡ Ok ms → AllZip (IsNewIn g ms) asked ms
all_complete g asked ms is =
    let Q : Asked → Type 0 = MeansNone g (by_type g asked).1 in
    each_found (λ a f. IfSome f (λ m. m.by ≡ New → Q a)) (IsNewIn g ms) (λ a m h new i left. h new i (is_left g asked ms is i left)) asked (by_new g asked).0 ms is
    (new_one Q g asked asked _ _ _ _ (search_of g asked).new (none_meant g asked) (all_old g asked))

-- ---- a whole layout

removed_all : (g : GPT) (asked : List Asked) (ms : List EntryMatch) (replace : Bool) (removed : List ℕ) → all_found (new_found g asked (new_numbers g asked (used_found g asked).0) (used_found g asked).0) ≡ Ok ms
    → removed ≡ (if replace then (used_found g asked).1 else []) → replace ≡ true → AreLeft g ms removed
removed_all g asked ms true removed is same replaces = subst (AreLeft g ms) (sym same) (all_left g asked ms is)
removed_all g asked ms false removed is same replaces = absurd (false≢true replaces)

removed_none : (g : GPT) (asked : List Asked) (replace : Bool) (removed : List ℕ) → removed ≡ (if replace then (used_found g asked).1 else []) → replace ≡ false → removed ≡ []
removed_none g asked true removed same kept = absurd (false≢true (sym kept))
removed_none g asked false removed same kept = same

unless_same : (o : Option Refusal) (ms rest : List EntryMatch) → unless o ms ≡ Ok rest → ms ≡ rest
unless_same None ms rest is = cc
unless_same (Some r) ms rest is = absurd (cc)

-- The matches of a layout keep the laws.
is_lawful : (g : GPT) (layout : RequestedLayout) (replace : Bool) (m : MatchedLayout) → IsMatched g layout replace m → IsLawful g layout replace m
is_lawful g layout replace m is =
    let asked = layout.asked.items in
    let ms = m.matches.items in
    let all = and_then_ok (all_found (new_found g asked (new_numbers g asked (used_found g asked).0) (used_found g asked).0)) (λ (rest : List EntryMatch). unless (role_fault_unless replace g asked rest) rest) ms is.matches in
    let found : all_found (new_found g asked (new_numbers g asked (used_found g asked).0) (used_found g asked).0) ≡ Ok ms = all.1 ∙ ap (λ (rest : List EntryMatch). Ok rest) (unless_same (role_fault_unless replace g asked all.0) all.0 ms all.2) in
    record {
      kept = all_kept g asked ms found;
      meant = all_meant g asked ms found;
      apart = all_apart g asked ms found;
      left = removed_all g asked ms replace m.layout.removed.items found is.removed;
      none_left = removed_none g asked replace m.layout.removed.items is.removed;
      complete = all_complete g asked ms found;
    }

pub lawful_result : (g : GPT) (layout : RequestedLayout) (replace : Bool) (r : Result MatchedLayout Stop) → IfOk r (IsMatched g layout replace) → IfOk r (IsLawful g layout replace)
lawful_result g layout replace (Ok m) is = is_lawful g layout replace m is
lawful_result g layout replace (Err stop) is = tt
