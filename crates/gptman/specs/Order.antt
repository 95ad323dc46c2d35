-- The order of entries: used ones by their start, then unused ones. Entries with the same rank keep their order.
use Rattle.std.specs.Prelude.{ℕ, ◌^◌, nat_lt, if◌then◌else◌, List, [], ◌∷◌}
use Rattle.gptman.specs.Entry.{is_used}
use Rattle.gptman.specs.declared.codec.entry.GPTPartitionEntry.{GPTPartitionEntry}

-- The sort key of an entry: unused ones are after every sector.
abbrev pub rank : GPTPartitionEntry → ℕ
rank e = if is_used e then e.starting_lba else 2 ^ 64

-- x inserted before the first element whose rank is not lower.
unfoldable pub put_in : {X : Type 0} → (X → ℕ) → X → List X → List X
put_in r x [] = x ∷ []
put_in r x (y ∷ ys) = if nat_lt (r y) (r x) then y ∷ put_in r x ys else x ∷ y ∷ ys

-- The list sorted by rank. The last element is inserted first, so the sort is stable.
unfoldable pub by_rank : {X : Type 0} → (X → ℕ) → List X → List X
by_rank r [] = []
by_rank r (x ∷ xs) = put_in r x (by_rank r xs)
