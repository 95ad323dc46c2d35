-- Results for a block of bytes, and for a range.
use Rattle.std.proofs.Common.{◌≡◌, ◌≤◌, ◌<◌, ◌+◌, ◌-◌, ◌⊎◌, ◌↔◌, ⊎_elim, ◌∙◌, ℕ, List, length, get_or, drop, inl, inr, ap, sym, subst, arith, Option, Some, None, Result, Ok, Err, Bool, [], ◌∷◌, ◌++◌, ◌*◌}
use Rattle.std.specs.Prelude.{IfOk, MatchOption, nat_eq, if◌then◌else◌}
use Rattle.std.proofs.lemmas.List.{get_or-drop, get_or-take}
use Rattle.std.proofs.lemmas.Bool.Decides.{eqb_tells}
use Rattle.gptman.specs.Bytes.{part}
use Rattle.gptman.specs.declared.table.GPT.{GPT}
use Rattle.gptedit_look.specs.declared.seen.Look.{Look}
use Rattle.gptedit_look.specs.declared.seen.Purpose.{Purpose}
use Rattle.gptman.specs.Ranges.{Inside}
use Rattle.gptman.specs.Write.{copy_ranges, other_header}
use Rattle.gptman.specs.declared.codec.header.GPTHeader.{GPTHeader}
use Rattle.gptman.specs.Error.{Error}
use Rattle.gptedit_look.specs.declared.guard.Refused.{Refused}
use Rattle.gptedit_look.specs.declared.touched.TouchedCopy.{TouchedCopy}
use Rattle.gptedit_look.specs.declared.touched.TouchedTable.{TouchedTable}
use Rattle.gptedit_look.specs.Guard.{AreFree, IsAllowed, IsIn, IsOfCopy, IsRefused, IsWritten, MayBeOverwritten}
use Rattle.gptedit_look.specs.Guarded.{AreAllFree, IsRefusedOf}
use Rattle.gptedit_look.specs.Touched.{IsTouched, IsTouchedIn, IsTouchedOf}

-- a byte of a part
pub get_or-part : (b : List ℕ) (at n i : ℕ) → i < n → get_or (part b at n) i 0 ≡ get_or b (at + i) 0
get_or-part b at n i lt = get_or-take n (drop at b) i 0 lt ∙ get_or-drop at b i 0

-- no byte of the block is refused
pub block_free : (look : Look) (purpose : Purpose) (next : GPT) (b bytes : List ℕ) (at n : ℕ) → bytes ≡ part b at n → length bytes ≡ n
    → ((i : ℕ) → i < length bytes → (get_or bytes i 0 ≡ 0) ⊎ IsAllowed look purpose next (at + i)) → AreFree look purpose next b at (at + n)
block_free look purpose next b bytes at n is long each k from below =
    let here : at + (k - at) ≡ k = omega arith in
    let lt : k - at < n = omega arith in
    let within : k - at < length bytes = omega arith in
    let same : get_or bytes (k - at) 0 ≡ get_or b k 0 =
    ap (λ (x : List ℕ). get_or x (k - at) 0) is ∙ get_or-part b at n (k - at) lt ∙ ap (λ (j : ℕ). get_or b j 0) here in
    ⊎_elim (λ zero. inl (sym same ∙ zero)) (λ allowed. inr (subst (λ (j : ℕ). IsAllowed look purpose next j) here allowed)) (each (k - at) within)

-- this byte of the block is refused
pub block_refused : (look : Look) (purpose : Purpose) (next : GPT) (b bytes : List ℕ) (at n k : ℕ) → bytes ≡ part b at n → length bytes ≡ n
    → at ≤ k → k < at + length bytes → (get_or bytes (k - at) 0 ≡ 0 → ⊥) → ¬ IsAllowed look purpose next k → IsRefused look purpose next b at (at + n) k
block_refused look purpose next b bytes at n k is long from below some not =
    let here : at + (k - at) ≡ k = omega arith in
    let lt : k - at < n = omega arith in
    let same : get_or bytes (k - at) 0 ≡ get_or b k 0 =
    ap (λ (x : List ℕ). get_or x (k - at) 0) is ∙ get_or-part b at n (k - at) lt ∙ ap (λ (j : ℕ). get_or b j 0) here in
    let before : k < at + n = omega arith in
    (from, before, λ may. ⊎_elim (λ zero. some (same ∙ zero)) not may)

-- the result for a block, from that for its bytes
pub block_answer : (look : Look) (purpose : Purpose) (next : GPT) (b bytes : List ℕ) (at n : ℕ) → bytes ≡ part b at n → length bytes ≡ n → (found : Option ℕ)
    → MatchOption found ((i : ℕ) → i < length bytes → (get_or bytes i 0 ≡ 0) ⊎ IsAllowed look purpose next (at + i))
    (λ k. (at ≤ k) × (k < at + length bytes) × (get_or bytes (k - at) 0 ≡ 0 → ⊥) × (¬ IsAllowed look purpose next k))
    → MatchOption found (AreFree look purpose next b at (at + n)) (IsRefused look purpose next b at (at + n))
block_answer look purpose next b bytes at n is long None each = block_free look purpose next b bytes at n is long each
block_answer look purpose next b bytes at n is long (Some k) h = block_refused look purpose next b bytes at n k is long h.0 h.1 h.2 h.3

lt_or_le : (a c : ℕ) → (a < c) ⊎ (c ≤ a)
lt_or_le a c = grind arith

-- two adjacent ranges
pub free_then : (look : Look) (purpose : Purpose) (next : GPT) (b : List ℕ) (start middle end : ℕ) → AreFree look purpose next b start middle
    → AreFree look purpose next b middle end → AreFree look purpose next b start end
free_then look purpose next b start middle end first second k from below =
    ⊎_elim (λ (lt : k < middle). first k from lt) (λ (ge : middle ≤ k). second k ge below) (lt_or_le k middle)

-- both ranges of a copy
pub copy_touched : (copy : TouchedCopy) (a n b m size : ℕ) → ((k : ℕ) → IsTouched copy.header k ↔ (IsIn a n k × (k < size)))
    → ((k : ℕ) → IsTouched copy.entries k ↔ (IsIn b m k × (k < size))) → (k : ℕ) → IsTouchedIn copy k ↔ ((IsIn a n k ⊎ IsIn b m k) × (k < size))
copy_touched copy a n b m size header entries k = (
  λ h. ⊎_elim (λ x. let f = (header k).0 x in (inl f.0, f.1)) (λ x. let f = (entries k).0 x in (inr f.0, f.1)) h,
  λ h. ⊎_elim (λ x. inl ((header k).1 (x, h.1))) (λ x. inr ((entries k).1 (x, h.1))) h.0,
)

-- k is in one of two lists of ranges
pub inside_of_both : (rs ss : List (ℕ × ℕ)) (k : ℕ) → Inside (rs ++ ss) k ↔ (Inside rs k ⊎ Inside ss k)
inside_of_both [] ss k = (λ h. inr h, λ h. ⊎_elim (λ no. absurd no) (λ s. s) h)
inside_of_both (r ∷ rs) ss k =
    let more = inside_of_both rs ss k in (
      λ h. ⊎_elim (λ x. inl (inl x)) (λ x. ⊎_elim (λ y. inl (inr y)) (λ y. inr y) (more.0 x)) h,
      λ h. ⊎_elim (λ x. ⊎_elim (λ y. inl y) (λ y. inr (more.1 (inl y))) x) (λ x. inr (more.1 (inr x))) h,
    )

-- the range of n entries
abbrev entries_range : ℕ → ℕ → Bool → List (ℕ × ℕ)
entries_range start n none = if none then [] else ((start, 128 * n) ∷ [])

-- k is in one of n entries
inside_entries : (start n k : ℕ) → IsIn start (128 * n) k ↔ Inside (entries_range start n (nat_eq n 0)) k
inside_entries start n k =
    let P : Bool → Type 0 = λ b. IsIn start (128 * n) k ↔ Inside (entries_range start n b) k in
    elim (eqb_tells n 0) as (λ _. P (nat_eq n 0)) [
      | inl zero ↦ subst P (sym zero.0) (λ h. absurd (omega (arith, zero.1, h.0, h.1)), λ no. absurd no)
      | inr some ↦ subst P (sym some.0) (λ h. inl h, λ h. ⊎_elim (λ x. x) (λ no. absurd no) h)
    ]

-- k is in a copy
pub inside_copy : (h : GPTHeader) (ss k : ℕ) → IsOfCopy h ss k ↔ Inside (copy_ranges h ss) k
inside_copy h ss k =
    let entries = inside_entries (h.partition_entry_lba * ss) h.number_of_partition_entries k in (
      λ x. ⊎_elim (λ y. inl y) (λ y. inr (entries.0 y)) x,
      λ x. ⊎_elim (λ y. inl y) (λ y. inr (entries.1 y)) x,
    )

-- the bytes of a copy, as ranges
pub copy_touched_in : (copy : TouchedCopy) (h : GPTHeader) (ss size : ℕ)
    → ((k : ℕ) → IsTouchedIn copy k ↔ (IsOfCopy h ss k × (k < size))) → (k : ℕ) → IsTouchedIn copy k ↔ (Inside (copy_ranges h ss) k × (k < size))
copy_touched_in copy h ss size iff k = (
  λ x. let f = (iff k).0 x in ((inside_copy h ss k).0 f.0, f.1),
  λ x. (iff k).1 ((inside_copy h ss k).1 x.0, x.1),
)

-- both copies of a table
pub table_touched : (table : TouchedTable) (g : GPT) (size : ℕ)
    → ((k : ℕ) → IsTouchedIn table.own k ↔ (Inside (copy_ranges g.header g.sector_size) k × (k < size)))
    → ((k : ℕ) → IsTouchedIn table.other k ↔ (Inside (copy_ranges (other_header g.header) g.sector_size) k × (k < size)))
    → (k : ℕ) → IsTouchedOf table k ↔ (IsWritten g k × (k < size))
table_touched table g size own other k =
    let both = inside_of_both (copy_ranges g.header g.sector_size) (copy_ranges (other_header g.header) g.sector_size) k in (
      λ h. ⊎_elim (λ x. let f = (own k).0 x in (both.1 (inl f.0), f.1)) (λ x. let f = (other k).0 x in (both.1 (inr f.0), f.1)) h,
      λ h. ⊎_elim (λ x. inl ((own k).1 (x, h.1))) (λ x. inr ((other k).1 (x, h.1))) (both.0 h.0),
    )

-- the same for equal numbers
pub copy_touched_as : (copy : TouchedCopy) (a n b m size a' b' m' : ℕ) → a ≡ a' → b ≡ b' → m ≡ m'
    → ((k : ℕ) → IsTouched copy.header k ↔ (IsIn a n k × (k < size)))
    → ((k : ℕ) → IsTouched copy.entries k ↔ (IsIn b m k × (k < size))) → (k : ℕ) → IsTouchedIn copy k ↔ ((IsIn a' n k ⊎ IsIn b' m' k) × (k < size))
copy_touched_as copy a n b m size a' b' m' ea eb em header entries =
    copy_touched copy a' n b' m' size
    (subst (λ (x : ℕ). (k : ℕ) → IsTouched copy.header k ↔ (IsIn x n k × (k < size))) ea header)
    (subst (λ (y : ℕ). (k : ℕ) → IsTouched copy.entries k ↔ (IsIn b' y k × (k < size))) em
    (subst (λ (x : ℕ). (k : ℕ) → IsTouched copy.entries k ↔ (IsIn x m k × (k < size))) eb entries))

-- two adjacent ranges, when nothing was written in between
pub free_step : (look : Look) (purpose : Purpose) (next : GPT) (b c : List ℕ) (start middle end : ℕ) (found : Option ℕ) → c ≡ b → found ≡ None
    → AreFree look purpose next b start middle → MatchOption found (AreFree look purpose next c middle end) (IsRefused look purpose next c middle end)
    → AreFree look purpose next b start end
free_step look purpose next b c start middle end found same none first answer =
    let second : AreFree look purpose next c middle end =
    subst (λ (o : Option ℕ). MatchOption o (AreFree look purpose next c middle end) (IsRefused look purpose next c middle end)) none answer in
    free_then look purpose next b start middle end first (subst (λ (x : List ℕ). AreFree look purpose next x middle end) same second)

-- no byte of the copy is refused
abbrev pub IsFree : Look → Purpose → GPT → List ℕ → TouchedCopy → Type 0
IsFree look purpose next b copy = (k : ℕ) → IsTouchedIn copy k → MayBeOverwritten look purpose next b k

-- this byte of the copy is refused
abbrev pub IsNotFree : Look → Purpose → GPT → List ℕ → TouchedCopy → Refused → Type 0
IsNotFree look purpose next b copy refused = IsTouchedIn copy refused.at × (¬ MayBeOverwritten look purpose next b refused.at)

-- the bytes that are touched
abbrev pub Touches : TouchedTable → GPT → ℕ → Type 0
Touches table next size = (k : ℕ) → IsTouchedOf table k ↔ (IsWritten next k × (k < size))

-- both copies are free
pub all_free : (look : Look) (purpose : Purpose) (next : GPT) (b : List ℕ) (size : ℕ) (table : TouchedTable) → Touches table next size
    → IsFree look purpose next b table.own → IsFree look purpose next b table.other → AreAllFree look purpose next b size
all_free look purpose next b size table iff own other k written below = ⊎_elim (λ x. own k x) (λ x. other k x) ((iff k).1 (written, below))

-- a byte is refused
pub one_refused : (look : Look) (purpose : Purpose) (next : GPT) (b : List ℕ) (size : ℕ) (table : TouchedTable) → Touches table next size → (k : ℕ)
    → IsTouchedOf table k → ¬ MayBeOverwritten look purpose next b k → IsRefusedOf look purpose next b k
one_refused look purpose next b size table iff k touched not = (((iff k).0 touched).0, not)

-- a byte of the first copy is refused
pub own_refused : (look : Look) (purpose : Purpose) (next : GPT) (b c : List ℕ) (size : ℕ) (table : TouchedTable) → c ≡ b → Touches table next size
    → (found : Option Refused) (refused : Refused) → found ≡ Some refused
    → MatchOption found (IsFree look purpose next c table.own) (IsNotFree look purpose next c table.own) → IsRefusedOf look purpose next b refused.at
own_refused look purpose next b c size table same iff found refused is answer =
    let at_c : IsNotFree look purpose next c table.own refused =
    subst (λ (o : Option Refused). MatchOption o (IsFree look purpose next c table.own) (IsNotFree look purpose next c table.own)) is answer in
    let at_b : IsNotFree look purpose next b table.own refused = subst (λ (x : List ℕ). IsNotFree look purpose next x table.own refused) same at_c in
    one_refused look purpose next b size table iff refused.at (inl at_b.0) at_b.1

-- the result for the second copy, if the first is free
pub other_answer : (look : Look) (purpose : Purpose) (next : GPT) (b : List ℕ) (size : ℕ) (table : TouchedTable) → Touches table next size
    → IsFree look purpose next b table.own → (result : Result (Option Refused) Error)
    → IfOk result (λ found. MatchOption found (IsFree look purpose next b table.other) (IsNotFree look purpose next b table.other))
    → IfOk result (λ found. MatchOption found (AreAllFree look purpose next b size) (λ refused. IsRefusedOf look purpose next b refused.at))
other_answer look purpose next b size table iff own (Ok None) answer = all_free look purpose next b size table iff own answer
other_answer look purpose next b size table iff own (Ok (Some refused)) answer =
    one_refused look purpose next b size table iff refused.at (inr answer.0) answer.1
other_answer look purpose next b size table iff own (Err e) answer = tt

-- the result for both copies
pub both_answer : (look : Look) (purpose : Purpose) (next : GPT) (b c d : List ℕ) (size size' : ℕ) (table : TouchedTable) → c ≡ b → d ≡ b → size ≡ size'
    → Touches table next size → (found : Option Refused) → found ≡ None
    → MatchOption found (IsFree look purpose next c table.own) (IsNotFree look purpose next c table.own) → (result : Result (Option Refused) Error)
    → IfOk result (λ found. MatchOption found (IsFree look purpose next d table.other) (IsNotFree look purpose next d table.other))
    → IfOk result (λ found. MatchOption found (AreAllFree look purpose next b size') (λ refused. IsRefusedOf look purpose next b refused.at))
both_answer look purpose next b c d size size' table first second sizes iff found none own result other =
    let at_c : IsFree look purpose next c table.own =
    subst (λ (o : Option Refused). MatchOption o (IsFree look purpose next c table.own) (IsNotFree look purpose next c table.own)) none own in
    let at_b : IsFree look purpose next b table.own = subst (λ (x : List ℕ). IsFree look purpose next x table.own) first at_c in
    let there : IfOk result (λ found. MatchOption found (IsFree look purpose next b table.other) (IsNotFree look purpose next b table.other)) =
    subst (λ (x : List ℕ). IfOk result (λ found. MatchOption found (IsFree look purpose next x table.other) (IsNotFree look purpose next x table.other))) second other in
    other_answer look purpose next b size' table (subst (λ (x : ℕ). Touches table next x) sizes iff) at_b result there
