-- Equality of tables is decidable.
use Rattle.std.proofs.Common.{◌≡◌, ◌⊎◌, ◌+◌, ◌<◌, ℕ, zero, suc, Bool, true, false, List, [], ◌∷◌, length, get_or, eqb, refl, sym, ap, subst, inl, inr, arith}
use Rattle.std.specs.Bool.{Decides}
use Rattle.std.specs.Prelude.{bytes_eq, slice_index_or}
use Rattle.std.specs.List.{Contains}
use Rattle.std.proofs.lemmas.Bool.Decides.{Decides-and, Decides-eqb, Decides-like, not_from_Decides}
use lib.Pointwise.{pointwise, pointwise_decides, bytes_decides}
use Rattle.gptman.specs.Copy.{Copy}
use Rattle.gptman.specs.Reading.{CopyPlace, primary, backup}
use Rattle.gptman.specs.Table.{Table, TableEntry, table_of, IsForm, IsHeaderForm}
use Rattle.gptman.specs.declared.codec.header.GPTHeader.{GPTHeader}
use Rattle.gptman_disk.proofs.Ranges.{contains_first, contains_later}

decided : {P : Type 0} (r : Bool) → Decides r P → P ⊎ (¬ P)
decided true d = inl (d.0 refl)
decided false d = inr (not_from_Decides false d refl)

-- ---- values by their cells: each field as a list of numbers

abbrev number : List ℕ → ℕ
number cell = get_or cell 0 0

abbrev entry_cells : TableEntry → List (List ℕ)
entry_cells e =
    e.partition_type_guid ∷ e.unique_partition_guid ∷ (e.starting_lba ∷ []) ∷ (e.ending_lba ∷ []) ∷ (e.attribute_bits ∷ []) ∷ e.units ∷ []

abbrev entry_of_cells : List (List ℕ) → TableEntry
entry_of_cells cells = record {
  partition_type_guid = get_or cells 0 [];
  unique_partition_guid = get_or cells 1 [];
  starting_lba = number (get_or cells 2 []);
  ending_lba = number (get_or cells 3 []);
  attribute_bits = number (get_or cells 4 []);
  units = get_or cells 5 [];
}

-- All fields of a table except its entries.
abbrev table_cells : Table → List (List ℕ)
table_cells t =
    t.signature ∷ t.revision ∷ (t.header_size ∷ []) ∷ t.reserved ∷ (t.low_sector ∷ []) ∷ (t.high_sector ∷ []) ∷ (t.first_usable_lba ∷ [])
    ∷ (t.last_usable_lba ∷ []) ∷ t.disk_guid ∷ (t.count ∷ []) ∷ (t.entry_size ∷ []) ∷ []

abbrev table_of_cells : List (List ℕ) → List TableEntry → Table
table_of_cells cells entries = record {
  signature = get_or cells 0 [];
  revision = get_or cells 1 [];
  header_size = number (get_or cells 2 []);
  reserved = get_or cells 3 [];
  low_sector = number (get_or cells 4 []);
  high_sector = number (get_or cells 5 []);
  first_usable_lba = number (get_or cells 6 []);
  last_usable_lba = number (get_or cells 7 []);
  disk_guid = get_or cells 8 [];
  count = number (get_or cells 9 []);
  entry_size = number (get_or cells 10 []);
  entries = entries;
}

cells_decide : (xs ys : List (List ℕ)) → Decides (pointwise bytes_eq xs ys) (xs ≡ ys)
cells_decide = pointwise_decides bytes_decides

entry_decides : (d e : TableEntry) → Decides (pointwise bytes_eq (entry_cells d) (entry_cells e)) (d ≡ e)
entry_decides d e = Decides-like _ (ap entry_of_cells) (ap entry_cells) (cells_decide (entry_cells d) (entry_cells e))

-- Equality of tables is decidable.
table_decided : (t u : Table) → (t ≡ u) ⊎ (¬ (t ≡ u))
table_decided t u =
    decided _ (Decides-like _ (λ both. λ i. table_of_cells (both.0 i) (both.1 i)) (λ same. (ap table_cells same, ap (λ (v : Table). v.entries) same))
    (Decides-and _ _ (cells_decide (table_cells t) (table_cells u)) (pointwise_decides entry_decides t.entries u.entries)))

-- ---- copies that are one of some tables

both_decided : (a b c d : ℕ) → ((a ≡ b) × (c ≡ d)) ⊎ (¬ ((a ≡ b) × (c ≡ d)))
both_decided a b c d = decided _ (Decides-and (eqb a b) (eqb c d) (Decides-eqb a b) (Decides-eqb c d))

header_form_decided : (side : CopyPlace) (h : GPTHeader) → IsHeaderForm side h ⊎ (¬ IsHeaderForm side h)
header_form_decided primary h = both_decided h.primary_lba 1 h.partition_entry_lba 2
header_form_decided backup h = both_decided h.backup_lba 1 h.partition_entry_lba (h.last_usable_lba + 1)

-- A copy is a table in the form of a place, or it is not.
form_decided : (side : CopyPlace) (t : Table) (copy : Copy) → IsForm side t copy ⊎ (¬ IsForm side t copy)
form_decided side t copy = elim (table_decided (table_of copy.header copy.entries) t) as (λ _. IsForm side t copy ⊎ (¬ IsForm side t copy)) [
  | inl table ↦ elim (header_form_decided side copy.header) as (λ _. IsForm side t copy ⊎ (¬ IsForm side t copy)) [
    | inl form ↦ inl (record { table = table; form = form })
    | inr other ↦ inr (λ is. other is.form)
  ]
  | inr other ↦ inr (λ is. other is.table)
]

contains_at : {X : Type 0} (x y : X) (xs : List X) (k : ℕ) → k < length (x ∷ xs) → slice_index_or (x ∷ xs) k y ≡ y → (x ≡ y) ⊎ Contains xs y
contains_at x y xs zero below e = inl e
contains_at x y xs (suc k) below e = inr (k, omega arith, e)

-- An element is the first or a later one.
pub contains_cases : {X : Type 0} (x y : X) (xs : List X) → Contains (x ∷ xs) y → (x ≡ y) ⊎ Contains xs y
contains_cases x y xs has = contains_at x y xs has.0 has.1 has.2

-- The copy is one of the tables in the form of the place, or none of them.
pub record IsOneOf (side : CopyPlace) (copy : Copy) (tables : List Table) : Type 0 where
  pub table : Table
  pub listed : Contains tables table
  pub form : IsForm side table copy

pub one_of_decided : (side : CopyPlace) (copy : Copy) (tables : List Table) → IsOneOf side copy tables ⊎ ((t : Table) → Contains tables t → ¬ IsForm side t copy)
one_of_decided side copy [] = inr (λ t has form. absurd (omega (arith, has.1)))
one_of_decided side copy (u ∷ tables) = elim (form_decided side u copy) as (λ _. IsOneOf side copy (u ∷ tables) ⊎ ((t : Table) → Contains (u ∷ tables) t → ¬ IsForm side t copy)) [
  | inl form ↦ inl (record { table = u; listed = contains_first u tables; form = form })
  | inr other ↦ elim (one_of_decided side copy tables) as (λ _. IsOneOf side copy (u ∷ tables) ⊎ ((t : Table) → Contains (u ∷ tables) t → ¬ IsForm side t copy)) [
    | inl found ↦ inl (record { table = found.table; listed = contains_later found.table u tables found.listed; form = found.form })
    | inr none ↦ inr (λ t has form. elim (contains_cases u t tables has) as (λ _. ⊥) [
      | inl e ↦ other (subst (λ (v : Table). IsForm side v copy) (sym e) form)
      | inr later ↦ none t later form
    ])
  ]
]
