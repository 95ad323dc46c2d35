use Rattle.std.proofs.Common.{◌≡◌, ℕ, List, subst, sym}
use Rattle.std.specs.List.{filter_map}
use Rattle.std.specs.List.Sorted.{IsPermutation}
use Rattle.gptman.specs.Entry.{covered_range}
use Rattle.gptman.specs.Table.{entries_in}
use Rattle.gptman.specs.declared.codec.entry.GPTPartitionEntry.{GPTPartitionEntry}
use Rattle.gptman.proofs.Covered.{ordered_ranges}
use Rattle.gptman.proofs.FreeSectors.{slots_of_entries}
use Rattle.gptman.proofs.table.GPT.find_free_sectors.Goals as goal

-- The ranges are those of the value's entries.
moved : (es list : List GPTPartitionEntry) (rs ranges : List (ℕ × ℕ)) → list ≡ es → ranges ≡ rs → IsPermutation (filter_map covered_range list) rs
    → IsPermutation (filter_map covered_range es) ranges
moved es list rs ranges same here p =
    subst (λ (l : List GPTPartitionEntry). IsPermutation (filter_map covered_range l) ranges) same
    (subst (λ (r : List (ℕ × ℕ)). IsPermutation (filter_map covered_range list) r) (sym here) p)

pub sweep-requires-clause-ordered : goal.sweep-requires-clause-ordered
sweep-requires-clause-ordered c = ordered_ranges (entries_in c.args.self.now) c.deref.result.now (moved _ _ _ _ c.as_slice.ensures.items c.deref.ensures.value c.in_ok-ranges.ensures.whole)

pub returns-clause-value : goal.returns-clause-value
returns-clause-value c = slots_of_entries c.args.self.now.header (entries_in c.args.self.now) c.deref.result.now
    (moved _ _ _ _ c.as_slice.ensures.items c.deref.ensures.value c.in_ok-ranges.ensures.whole) c.args.self.now.align _ c.in_ok-slots.ensures.slots
