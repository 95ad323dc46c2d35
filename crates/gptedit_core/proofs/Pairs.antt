-- Slots, and their pairs in a list of the library.
use Rattle.std.proofs.Common.{◌≡◌, ℕ, ◌+◌, ◌^◌, ◌<◌, ◌≤◌, List, [], ◌∷◌, ◌++◌, drop, get_or, length, take, Option, Some, None, option_map, refl, sym, ap, ◌∙◌, arith}
use Rattle.std.specs.List.{All, Contains}
use Rattle.std.specs.Option.{option_to_list}
use Rattle.std.proofs.lemmas.List.{drop-map, get_or-map, length-map, map-append, take-map, take_more}
use Rattle.std.proofs.lemmas.List.Elements.{All-map}
use Rattle.gptedit_core.specs.Sectors.{pair_of, pairs_of}
use Rattle.gptedit_core.specs.declared.sectors.Slot.{Slot}

-- The facts of each slot.
pub all_some : (slots : List Slot) → All (λ s. 0 < s.1) (pairs_of slots)
all_some slots = All-map (λ (s : ℕ × ℕ). 0 < s.1) pair_of slots (λ k d within. (get_or slots k d).some)

pub all_fit : (slots : List Slot) → All (λ s. s.0 + s.1 ≤ 2 ^ 64) (pairs_of slots)
all_fit slots = All-map (λ (s : ℕ × ℕ). s.0 + s.1 ≤ 2 ^ 64) pair_of slots (λ k d within. (get_or slots k d).fits)

-- One slot of a list.
pub at_pair : (slots : List Slot) (i : ℕ) (slot : Slot) → i < length slots → slot ≡ get_or slots i slot → get_or (pairs_of slots) i (0, 0) ≡ pair_of slot
at_pair slots i slot within same = get_or-map pair_of slots i slot (0, 0) within ∙ ap pair_of (sym same)

pub has_pair : (slots : List Slot) (slot : Slot) → Contains slots slot → Contains (pairs_of slots) (pair_of slot)
has_pair slots slot has = (has.0, omega (arith, has.1, length-map slots pair_of), get_or-map pair_of slots has.0 slot (pair_of slot) has.1 ∙ ap pair_of has.2)

-- One more slot of a list of the library.
pub push_pair : (pairs : List (ℕ × ℕ)) (slots : List Slot) (i : ℕ) (slot : Slot) → i < length pairs → pairs_of slots ≡ take i pairs
    → slot.start ≡ (get_or pairs i (0, 0)).0 → slot.length ≡ (get_or pairs i (0, 0)).1 → pairs_of (slots ++ slot ∷ []) ≡ take (i + 1) pairs
push_pair pairs slots i slot within so_far start long =
    let pair : ◌≡◌ {A = ℕ × ℕ} (pair_of slot) (get_or pairs i (0, 0)) = λ k. (start k, long k) in
    map-append pair_of slots (slot ∷ []) ∙ ((λ k. so_far k ++ pair k ∷ []) ∙ sym (take_more pairs i (0, 0) within))

-- A slot, if there is one.
some_pair : (o : Option Slot) → pairs_of (option_to_list o) ≡ option_to_list (option_map pair_of o)
some_pair None = refl
some_pair (Some slot) = refl

-- Two more slots at the end,
pub more_pairs : (slots : List Slot) (a b : Option Slot)
    → pairs_of ((slots ++ option_to_list a) ++ option_to_list b) ≡ (pairs_of slots ++ option_to_list (option_map pair_of a)) ++ option_to_list (option_map pair_of b)
more_pairs slots a b =
    map-append pair_of (slots ++ option_to_list a) (option_to_list b)
    ∙ ((λ k. map-append pair_of slots (option_to_list a) k ++ some_pair b k) ∙ (λ k. (pairs_of slots ++ some_pair a k) ++ option_to_list (option_map pair_of b)))

-- and in the place of one.
pub put_pairs : (slots : List Slot) (i : ℕ) (a b : Option Slot)
    → pairs_of (take i slots ++ ((option_to_list a ++ option_to_list b) ++ drop (i + 1) slots))
    ≡ take i (pairs_of slots) ++ ((option_to_list (option_map pair_of a) ++ option_to_list (option_map pair_of b)) ++ drop (i + 1) (pairs_of slots))
put_pairs slots i a b =
    let parts : List Slot = option_to_list a ++ option_to_list b in
    let rest : List Slot = drop (i + 1) slots in
    let both : pairs_of parts ≡ option_to_list (option_map pair_of a) ++ option_to_list (option_map pair_of b) =
    map-append pair_of (option_to_list a) (option_to_list b) ∙ (λ k. some_pair a k ++ some_pair b k) in
    map-append pair_of (take i slots) (parts ++ rest)
    ∙ ((λ k. sym (take-map pair_of i slots) k ++ map-append pair_of parts rest k)
    ∙ (λ k. take i (pairs_of slots) ++ (both k ++ sym (drop-map pair_of (i + 1) slots) k)))
