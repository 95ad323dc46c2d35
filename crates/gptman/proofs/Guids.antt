-- GUIDs of used entries are distinct exactly if the set of them is as large as their list.
use Rattle.std.proofs.Common.{◌≡◌, ◌≢◌, ℕ, Bool, eqb, List, length, Some, None, sym, ◌∙◌, subst, IsTrue}
use Rattle.std.specs.Bool.{Decides}
use Rattle.std.specs.List.{AllPairs, filter_map}
use Rattle.std.specs.Ordering.{nat_cmp, eq_by_cmp}
use Rattle.std.specs.Cmp.{IsEquivalence, eq_by_cmp_equiv}
use Rattle.std.specs.Cmp.Lexicographic.{slice_cmp}
use Rattle.std.specs.BTreeSet.{BTreeSet, IsFromIterResult, btree_set_len}
use Rattle.std.proofs.lemmas.Bool.{eqb-true, eq-eqb, cond-true}
use Rattle.std.proofs.lemmas.Cmp.{nat_list_cmp_total}
use Rattle.std.proofs.lemmas.Option.{cond_some, none-some}
use Rattle.std.proofs.lemmas.Slice.Eq.{bytes_eq-Decides}
use Rattle.std.proofs.lemmas.Map.Text.{is_eq-slice_cmp}
use Rattle.std.proofs.lemmas.Map.Made.{IsDistinct-from_count, distinct_count-from_IsDistinct, AllPairs-from_IsDistinct, IsDistinct-from_AllPairs}
use Rattle.std.proofs.lemmas.Map.Views.{btree_set_len-from_list}
use Rattle.gptman.specs.Entry.{is_used, used_guid}
use Rattle.gptman.specs.Valid.{HasOwnGuids}
use Rattle.gptman.specs.declared.codec.entry.GPTPartitionEntry.{GPTPartitionEntry}
use Rattle.gptman.proofs.Pairs.{AllPairs-filter_map, AllPairs-from_filter_map}

-- The order of byte lists returns Equal only for equal lists.
same : (a b : List ℕ) → Decides (eq_by_cmp (slice_cmp nat_cmp) a b) (a ≡ b)
same a b = subst (λ (t : Bool). Decides t (a ≡ b)) (sym (is_eq-slice_cmp a b)) (bytes_eq-Decides a b)

laws : IsEquivalence (eq_by_cmp (slice_cmp nat_cmp))
laws = eq_by_cmp_equiv nat_list_cmp_total

-- A set made from a list is as large as the list exactly if all elements differ.
pub distinct_by_count : (xs : List (List ℕ)) (n : BTreeSet (List ℕ)) → IsFromIterResult (slice_cmp nat_cmp) xs n → Decides (eqb (btree_set_len n) (length xs)) (AllPairs (λ a b. a ≢ b) xs)
distinct_by_count xs n h =
    let count = btree_set_len-from_list nat_list_cmp_total xs n h in (
      λ t. AllPairs-from_IsDistinct same xs (IsDistinct-from_count laws xs (sym count ∙ eqb-true _ _ t)),
      λ pairs. eq-eqb _ _ (count ∙ distinct_count-from_IsDistinct laws xs (IsDistinct-from_AllPairs same xs pairs)),
    )

unused_has_none : (e : GPTPartitionEntry) → used_guid e ≡ None → ¬ IsTrue (is_used e)
unused_has_none e none used = none-some e.unique_partition_guid (sym none ∙ cond-true (is_used e) (Some e.unique_partition_guid) None used)

-- From GUIDs to entries.
pub guids_pairs : (es : List GPTPartitionEntry) → (AllPairs (λ a b. a ≢ b) (filter_map used_guid es) → HasOwnGuids es) × (HasOwnGuids es → AllPairs (λ a b. a ≢ b) (filter_map used_guid es))
guids_pairs es = (
  AllPairs-from_filter_map used_guid (λ e f. IsTrue (is_used e) → IsTrue (is_used f) → e.unique_partition_guid ≢ f.unique_partition_guid) (λ a b. a ≢ b)
      (λ e f a b ea fb ne _ _ eq. ne (sym (cond_some (is_used e) e.unique_partition_guid a ea).1 ∙ (eq ∙ (cond_some (is_used f) f.unique_partition_guid b fb).1)))
      (λ e f none used _ _. unused_has_none e none used) (λ e f none _ used _. unused_has_none f none used) es,
  AllPairs-filter_map used_guid (λ e f. IsTrue (is_used e) → IsTrue (is_used f) → e.unique_partition_guid ≢ f.unique_partition_guid) (λ a b. a ≢ b)
      (λ e f a b ea fb ne eq. let x = cond_some (is_used e) e.unique_partition_guid a ea in let y = cond_some (is_used f) f.unique_partition_guid b fb in ne x.0 y.0 (x.1 ∙ (eq ∙ sym y.1))) es,
)
