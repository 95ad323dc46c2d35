-- An entry is found by a test of one entry after the other.
use Rattle.std.proofs.Common.{◌≡◌, ◌<◌, ◌≤◌, ◌+◌, ◌-◌, ◌⊎◌, ℕ, suc, List, [], ◌∷◌, ⊎_elim, inl, inr, refl, sym, ◌∙◌, subst, ap, arith, length, Bool, true, false, IsTrue}
use Rattle.std.specs.Prelude.{Option, None, Some, Result, Ok, Err, slice_index_or, if◌then◌else◌, ◌&&◌, IfErr, IfOk}
use Rattle.std.specs.Option.{ok_or}
use Rattle.std.specs.List.{enumerate_from}
use Rattle.std.specs.Str.{bytes_eq}
use Rattle.std.proofs.lemmas.Bool.{false≢true}
use Rattle.std.proofs.lemmas.Slice.Eq.{bytes_eq-Decides}
use Rattle.gptman.specs.Coding.{empty_entry}
use Rattle.gptman.specs.Entry.{is_used}
use Rattle.gptman.specs.Number.{entry_at}
use Rattle.gptman.specs.Table.{entries_in}
use Rattle.gptman.specs.declared.codec.entry.GPTPartitionEntry.{GPTPartitionEntry}
use Rattle.gptman.specs.declared.table.GPT.{GPT}
use Rattle.gptedit_core.specs.Targets.{is_selected, IsOnly, RefusesTarget, Selects}
use Rattle.gptedit_core.specs.declared.target.NotFound.{NotFound}
use Rattle.gptedit_core.specs.declared.target.NotFound.TheVariants.{None as Nothing, Several}
use Rattle.gptedit_core.specs.declared.target.Target.{Target}
use Rattle.gptedit_core.specs.declared.target.Target.TheVariants.{Number, Name, Guid}

-- The outcome of the test of these entries, after that of the entries before them.
abbrev pub outcome_from : (GPTPartitionEntry → Bool) → Option ℕ → List (ℕ × GPTPartitionEntry) → Result ℕ NotFound
outcome_from test None [] = Err Nothing
outcome_from test (Some i) [] = Ok i
outcome_from test None (e ∷ es) = outcome_from test (if test e.1 then Some e.0 else None) es
outcome_from test (Some i) (e ∷ es) = if test e.1 then Err (Several i e.0) else outcome_from test (Some i) es

abbrev pub outcome_in : Target → GPT → Result ℕ NotFound
outcome_in target g = outcome_from (is_selected target) None (enumerate_from 1 (entries_in g))

-- The outcome is right for the numbers with this property.
abbrev pub Finds : (ℕ → Type 0) → Result ℕ NotFound → Type 0
Finds Q (Ok i) = Q i × ((j : ℕ) → Q j → j ≡ i)
Finds Q (Err Nothing) = (i : ℕ) → ¬ Q i
Finds Q (Err (Several i k)) = Q i × Q k × (i < k) × ((j : ℕ) → Q j → (j ≡ i) ⊎ (k ≤ j))

-- The only number below s that has the property, if one has it.
abbrev IsBefore : (ℕ → Type 0) → ℕ → Option ℕ → Type 0
IsBefore Q s None = (j : ℕ) → j < s → ¬ Q j
IsBefore Q s (Some i) = Q i × (i < s) × ((j : ℕ) → j < s → Q j → j ≡ i)

-- The numbers from s on that have the property are those of the entries that pass the test.
abbrev AreFrom : (ℕ → Type 0) → (GPTPartitionEntry → Bool) → ℕ → List GPTPartitionEntry → Type 0
AreFrom Q test s [] = (j : ℕ) → s ≤ j → ¬ Q j
AreFrom Q test s (e ∷ es) = (IsTrue (test e) → Q s) × (Q s → IsTrue (test e)) × AreFrom Q test (s + 1) es

lt_or_le : (a c : ℕ) → (a < c) ⊎ (c ≤ a)
lt_or_le a c = grind arith

lt_or_same : (j s : ℕ) → j < s + 1 → (j < s) ⊎ (j ≡ s)
lt_or_same j s lt = grind arith

-- ---- one more entry

none_before : (Q : ℕ → Type 0) (s : ℕ) (b : Bool) → (IsTrue b → Q s) → (Q s → IsTrue b) → IsBefore Q s None → IsBefore Q (s + 1) (if b then Some s else None)
none_before Q s true has passes before =
    (has refl, omega arith, λ j lt q. ⊎_elim (λ below. absurd (before j below q)) (λ same. same) (lt_or_same j s lt))
none_before Q s false has passes before =
    λ j lt q. ⊎_elim (λ below. before j below q) (λ (same : j ≡ s). false≢true (passes (subst Q same q))) (lt_or_same j s lt)

one_before : (Q : ℕ → Type 0) (s i : ℕ) → ¬ Q s → IsBefore Q s (Some i) → IsBefore Q (s + 1) (Some i)
one_before Q s i not (q, lt, only) =
    (q, omega arith, λ j below qj. ⊎_elim (λ less. only j less qj) (λ (same : j ≡ s). absurd (not (subst Q same qj))) (lt_or_same j s below))

either : (Q : ℕ → Type 0) (b : Bool) (r more : Result ℕ NotFound) → (IsTrue b → Finds Q r) → ((IsTrue b → ⊥) → Finds Q more) → Finds Q (if b then r else more)
either Q true r more first second = first refl
either Q false r more first second = second (λ h. false≢true h)

finds_from : (Q : ℕ → Type 0) (test : GPTPartitionEntry → Bool) (s : ℕ) (es : List GPTPartitionEntry) (found : Option ℕ) → AreFrom Q test s es → IsBefore Q s found
    → Finds Q (outcome_from test found (enumerate_from s es))
finds_from Q test s [] None from before = λ i q. ⊎_elim (λ lt. before i lt q) (λ le. from i le q) (lt_or_le i s)
finds_from Q test s [] (Some i) from (q, lt, only) = (q, λ j qj. ⊎_elim (λ below. only j below qj) (λ le. absurd (from j le qj)) (lt_or_le j s))
finds_from Q test s (e ∷ es) None (has, passes, from) before =
    finds_from Q test (s + 1) es (if test e then Some s else None) from (none_before Q s (test e) has passes before)
finds_from Q test s (e ∷ es) (Some i) (has, passes, from) (q, lt, only) =
    either Q (test e) (Err (Several i s)) (outcome_from test (Some i) (enumerate_from (s + 1) es))
    (λ yes. (q, has yes, lt, λ j qj. ⊎_elim (λ below. inl (only j below qj)) (λ le. inr le) (lt_or_le j s)))
    (λ no. finds_from Q test (s + 1) es (Some i) from (one_before Q s i (λ qs. no (passes qs)) (q, lt, only)))

-- ---- the entries of a list

-- Number j, counted from s, is that of an entry that passes the test.
abbrev PassesAt : (GPTPartitionEntry → Bool) → ℕ → List GPTPartitionEntry → ℕ → Type 0
PassesAt test s es j = (s ≤ j) × (j < s + length es) × IsTrue (test (slice_index_or es (j - s) empty_entry))

from_others : (P Q : ℕ → Type 0) (test : GPTPartitionEntry → Bool) (s : ℕ) (es : List GPTPartitionEntry) → ((j : ℕ) → s ≤ j → P j → Q j) → ((j : ℕ) → s ≤ j → Q j → P j)
    → AreFrom P test s es → AreFrom Q test s es
from_others P Q test s [] to back from = λ j le q. from j le (back j le q)
from_others P Q test s (e ∷ es) to back (has, passes, from) = (
  λ yes. to s (omega arith) (has yes),
  λ q. passes (back s (omega arith) q),
  from_others P Q test (s + 1) es (λ j le. to j (omega arith)) (λ j le. back j (omega arith)) from,
)

after : (j s : ℕ) → s + 1 ≤ j → suc (j - (s + 1)) ≡ j - s
after j s le = omega arith

all_from : (test : GPTPartitionEntry → Bool) (s : ℕ) (es : List GPTPartitionEntry) → AreFrom (PassesAt test s es) test s es
all_from test s [] = λ j le (from, lt, passes). omega arith
all_from test s (e ∷ es) =
    let here : s - s ≡ 0 = omega arith in
    let at : slice_index_or (e ∷ es) (s - s) empty_entry ≡ e = ap (λ (k : ℕ). slice_index_or (e ∷ es) k empty_entry) here in (
      λ yes. (omega arith, omega arith, subst (λ (x : GPTPartitionEntry). IsTrue (test x)) (sym at) yes),
      λ (le, lt, passes). subst (λ (x : GPTPartitionEntry). IsTrue (test x)) at passes,
      from_others (PassesAt test (s + 1) es) (PassesAt test s (e ∷ es)) test (s + 1) es
          (λ j le (from, lt, passes). (omega arith, omega arith, subst (λ (k : ℕ). IsTrue (test (slice_index_or (e ∷ es) k empty_entry))) (after j s le) passes))
          (λ j le (from, lt, passes). (le, omega arith, subst (λ (k : ℕ). IsTrue (test (slice_index_or (e ∷ es) k empty_entry))) (sym (after j s le)) passes))
          (all_from test (s + 1) es),
    )

-- ---- the entries of a table

both : (a b : Bool) → IsTrue (a && b) → IsTrue a × IsTrue b
both true b h = (refl, h)
both false b h = absurd (false≢true h)

joined : (a b : Bool) → IsTrue a → IsTrue b → IsTrue (a && b)
joined true b x y = y
joined false b x y = x

-- The target is no number.
abbrev pub IsSearch : Target → Type 0
IsSearch (Number n) = ⊥
IsSearch (Name text) = Unit {0}
IsSearch (Guid guid) = Unit {0}

pub is_right : (target : Target) (g : GPT) → IsSearch target → Finds (Selects g target) (outcome_in target g)
is_right (Name text) g is =
    finds_from (Selects g (Name text)) (is_selected (Name text)) 1 (entries_in g) None
    (from_others (PassesAt (is_selected (Name text)) 1 (entries_in g)) (Selects g (Name text)) (is_selected (Name text)) 1 (entries_in g)
    (λ j le (from, lt, passes). let parts = both (bytes_eq (entry_at g j).partition_name.text text.now) (is_used (entry_at g j)) passes in
    ((le, omega arith), parts.1, (bytes_eq-Decides (entry_at g j).partition_name.text text.now).0 parts.0))
    (λ j le (number, used, same). (le, omega arith, joined (bytes_eq (entry_at g j).partition_name.text text.now) (is_used (entry_at g j)) ((bytes_eq-Decides (entry_at g j).partition_name.text text.now).1 same) used))
    (all_from (is_selected (Name text)) 1 (entries_in g)))
    (λ j lt (number, used, same). omega arith)
is_right (Guid guid) g is =
    finds_from (Selects g (Guid guid)) (is_selected (Guid guid)) 1 (entries_in g) None
    (from_others (PassesAt (is_selected (Guid guid)) 1 (entries_in g)) (Selects g (Guid guid)) (is_selected (Guid guid)) 1 (entries_in g)
    (λ j le (from, lt, passes). let parts = both (bytes_eq (entry_at g j).unique_partition_guid guid) (is_used (entry_at g j)) passes in
    ((le, omega arith), parts.1, (bytes_eq-Decides (entry_at g j).unique_partition_guid guid).0 parts.0))
    (λ j le (number, used, same). (le, omega arith, joined (bytes_eq (entry_at g j).unique_partition_guid guid) (is_used (entry_at g j)) ((bytes_eq-Decides (entry_at g j).unique_partition_guid guid).1 same) used))
    (all_from (is_selected (Guid guid)) 1 (entries_in g)))
    (λ j lt (number, used, same). omega arith)
is_right (Number n) g is = absurd is

-- ---- what the outcome says

-- Each entry was tested.
at_end : (test : GPTPartitionEntry → Bool) (found : Option ℕ) → outcome_from test found [] ≡ ok_or found Nothing
at_end test None = refl
at_end test (Some i) = refl

pub finds_at_end : (target : Target) (g : GPT) (found : Option ℕ) (es : List (ℕ × GPTPartitionEntry)) (r : Result ℕ NotFound) → IsSearch target
    → outcome_from (is_selected target) found es ≡ outcome_in target g → es ≡ [] → r ≡ ok_or found Nothing → Finds (Selects g target) r
finds_at_end target g found es r is left none last =
    subst (Finds (Selects g target)) (sym left ∙ ap (outcome_from (is_selected target) found) none ∙ at_end (is_selected target) found ∙ sym last) (is_right target g is)

pub only_of : (target : Target) (g : GPT) (r : Result ℕ NotFound) → Finds (Selects g target) r → IfOk r (IsOnly g target)
only_of target g (Ok i) is = is
only_of target g (Err e) is = tt

pub refused_of : (target : Target) (g : GPT) (r : Result ℕ NotFound) → Finds (Selects g target) r → IfErr r (RefusesTarget g target)
refused_of target g (Ok i) is = tt
refused_of target g (Err Nothing) is = is
refused_of target g (Err (Several i k)) is = is
