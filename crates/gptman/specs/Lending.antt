-- The final value of a table after a borrow of its entries.
use Rattle.std.specs.Prelude.{ℕ, ◌+◌, List, slice_set}
use Rattle.std.specs.Borrow.{Lends, MutBor, Fml, Array, follows}
use Rattle.std.specs.List.{enumerate_from}
use Rattle.std.specs.Slice.Iter.{iter_mut_rest, iter_mut_name}
use Rattle.gptman.specs.Number.{with_entry, with_entries, written_over}
use Rattle.gptman.specs.Table.{entries_in}
use Rattle.gptman.specs.contracts.codec.entry.GPTPartitionEntry as entry
use Rattle.gptman.specs.contracts.table.entries.Entries as entries
use Rattle.gptman.specs.contracts.table.GPT as table
use Rattle.gptman.specs.declared.codec.entry.GPTPartitionEntry.{GPTPartitionEntry}
use Rattle.gptman.specs.declared.table.iter.IterMut.{IterMut}
use Rattle.gptman.specs.declared.table.GPT.{GPT}

-- When the borrow ends, the element at k is the last value of r.
abbrev pub LendsItem : MutBor (List GPTPartitionEntry) → ℕ → MutBor GPTPartitionEntry → Fml
LendsItem s k r = Lends entries.the_row entry.the_row s r (slice_set s.now k)

-- When the borrow ends, entry i is the last value of r.
abbrev pub LendsEntry : MutBor GPT → ℕ → MutBor GPTPartitionEntry → Fml
LendsEntry s i r = Lends table.the_row entry.the_row s r (with_entry s.now i)

-- When the borrow ends, the list is the last value of r.
abbrev pub LendsItems : MutBor (List GPTPartitionEntry) → MutBor (List GPTPartitionEntry) → Fml
LendsItems s r = Lends entries.the_row (Array entry.the_row 0) s r (written_over s.now)

-- When the borrow ends, the table has the list that is the last value of r.
abbrev pub LendsEntries : MutBor GPT → MutBor (List GPTPartitionEntry) → Fml
LendsEntries s r = Lends table.the_row (Array entry.the_row 0) s r (λ w. with_entries s.now (written_over (entries_in s.now) w))

-- When the borrow ends, the table has the list that the iterator leaves.
abbrev pub LendsIter : MutBor GPT → IterMut → Fml
LendsIter s it = follows table.the_row (Array entry.the_row 0) s.ghost_name (iter_mut_name it.rest) (λ w. with_entries s.now (written_over (entries_in s.now) w))

-- The remaining entries, each with its number.
abbrev pub items_left : IterMut → List (ℕ × GPTPartitionEntry)
items_left it = enumerate_from (it.passed + 1) (iter_mut_rest it.rest)
