-- A layout is applied to a table.
use Rattle.std.specs.Prelude.{◌≡◌, ◌⊎◌, ◌∷◌, [], ℕ, Bool, true, false, nat_eq, if◌then◌else◌, List, IsTrue, Option, None, Some, Result, Ok, Err, unwrap_or}
use Rattle.std.specs.List.{enumerate_from, list_all}
use Rattle.gptman.specs.Coding.{empty_entry, entry_bytes}
use Rattle.gptman.specs.Entry.{is_unused, is_used}
use Rattle.gptman.specs.Fault.{fault_of, out_of_memory}
use Rattle.gptman.specs.Number.{entry_at, entry_of_number, with_entry, IsNumber}
use Rattle.gptman.specs.Place.{IsFreeIn}
use Rattle.gptman.specs.Table.{entries_in}
use Rattle.gptman.specs.declared.codec.entry.GPTPartitionEntry.{GPTPartitionEntry}
use Rattle.gptman.specs.declared.table.GPT.{GPT}
use Rattle.gptedit_core.specs.Placing.{HasNoRoom, IsFurthestEnd, IsSpan}
use Rattle.gptedit_core.specs.Resolving.{and_then, first_numbered, resolved_all, sectors_in}
use Rattle.gptedit_core.specs.declared.amount.Amount.{Amount}
use Rattle.gptedit_core.specs.declared.asked.Asked.{Asked}
use Rattle.gptedit_core.specs.declared.asked.RequestedLayout.{RequestedLayout}
use Rattle.gptedit_core.specs.declared.asked.Size.{Size}
use Rattle.gptedit_core.specs.declared.asked.Size.TheVariants.{Exactly, Rest}
use Rattle.gptedit_core.specs.declared.asked.Mode.{Mode}
use Rattle.gptedit_core.specs.declared.asked.Mode.TheVariants.{Become}
use Rattle.gptedit_core.specs.declared.refusal.Refusal.{Refusal}
use Rattle.gptedit_core.specs.declared.refusal.Refusal.TheVariants.{IsUnused, NoAlignment, NoEntry, NoRoom, NotAsked, NotWhole, Twice}
use Rattle.gptedit_core.specs.declared.refusal.Stop.{Stop}
use Rattle.gptedit_core.specs.declared.refusal.Stop.TheVariants.{Refused, Failed}
use Rattle.gptedit_core.specs.declared.resolve.ResolvedPartition.{ResolvedPartition}
use Rattle.gptedit_core.specs.declared.sectors.SectorRange.{SectorRange}

-- The requested alignment in sectors.
abbrev pub align_asked : Amount → ℕ → Result ℕ Refusal
align_asked amount ss = elim (sectors_in amount ss) [ None ↦ Err (NotWhole amount) | Some n ↦ if nat_eq n 0 then Err NoAlignment else Ok n ]

-- All bytes of an entry are zero.
abbrev pub is_blank : GPTPartitionEntry → Bool
is_blank e = list_all (λ x. nat_eq x 0) (entry_bytes e)

-- The table without entry i, which must exist and have a byte that is not zero.
abbrev pub without_entry : ℕ → GPT → Option GPTPartitionEntry → Result GPT Refusal
without_entry i g None = Err (NoEntry i)
without_entry i g (Some e) = if is_blank e then Err (IsUnused i) else Ok (with_entry g i empty_entry)

-- The table without entry i, used or not, which must have a byte that is not zero.
abbrev pub removed_one : ℕ → GPT → Result GPT Refusal
removed_one i g = without_entry i g (entry_of_number g i)

-- The table without all of these entries, removed one by one.
abbrev pub removed_all : List ℕ → GPT → Result GPT Refusal
removed_all [] g = Ok g
removed_all (i ∷ is) g = and_then (removed_one i g) (removed_all is)

-- The table with the entries of these partitions made unused.
abbrev pub cleared : List ResolvedPartition → GPT → Result GPT Refusal
cleared [] g = Ok g
cleared (p ∷ ps) g = elim (entry_of_number g p.number) [ None ↦ Err (NoEntry p.number) | Some e ↦ cleared ps (with_entry g p.number empty_entry) ]

-- The lowest number of a used entry.
abbrev pub lowest_used : GPT → Option ℕ
lowest_used g = first_numbered is_used (enumerate_from 1 (entries_in g))

-- A used entry that is not named is refused if the table may only become the layout.
abbrev pub others_fault_of : Mode → Option ℕ → Option Refusal
others_fault_of (Become false) (Some i) = Some (NotAsked i)
others_fault_of mode used = None

abbrev pub others_fault : Mode → GPT → Option Refusal
others_fault mode g = others_fault_of mode (lowest_used g)

-- The partition was put into the table at its place, under the number of an entry that was unused.
pub record IsPut (p : ResolvedPartition) (g next : GPT) : Type 0 where
  pub number : IsNumber g p.number
  pub unused : IsTrue (is_unused (entry_at g p.number))
  pub range : SectorRange
  pub span : IsSpan p.place g range
  pub next_is : next ≡ with_entry g p.number (record p.entry { starting_lba = range.first; ending_lba = range.last })

-- The partition cannot be put: there is no entry of its number, or it is used, since an earlier partition has this
-- number; or there is no room.
pub data RefusesPut (p : ResolvedPartition) (g : GPT) (r : Refusal) : Type 0 where
  no_entry : ¬ IsNumber g p.number → r ≡ NoEntry p.number → RefusesPut p g r
  twice : IsNumber g p.number → ¬ IsTrue (is_unused (entry_at g p.number)) → r ≡ Twice p.number → RefusesPut p g r
  no_room : IsNumber g p.number → IsTrue (is_unused (entry_at g p.number)) → HasNoRoom p.place g → r ≡ NoRoom p.number → RefusesPut p g r

-- The partitions were put into the table one by one.
abbrev pub ArePut : List ResolvedPartition → GPT → GPT → Type 0
ArePut [] g next = next ≡ g
ArePut (p ∷ ps) g next = (mid : GPT) × IsPut p g mid × ArePut ps mid next

-- One of the partitions cannot be put after those before it were.
abbrev pub RefusesPutting : List ResolvedPartition → GPT → Refusal → Type 0
RefusesPutting [] g r = ⊥
RefusesPutting (p ∷ ps) g r = RefusesPut p g r ⊎ ((mid : GPT) × IsPut p g mid × RefusesPutting ps mid r)

-- The rest is requested.
abbrev pub asks_rest : Option Size → Bool
asks_rest (Some Rest) = true
asks_rest (Some (Exactly amount)) = false
asks_rest None = false

-- The numbers of the partitions that get the rest.
abbrev pub rest_numbers : List Asked → List ResolvedPartition → List ℕ
rest_numbers [] ps = []
rest_numbers (a ∷ asked) [] = []
rest_numbers (a ∷ asked) (p ∷ ps) = if asks_rest a.size then p.number ∷ rest_numbers asked ps else rest_numbers asked ps

-- Entry i, if it exists, was lengthened over the free sectors after it to the furthest end.
abbrev pub IsExtendedFrom : Option GPTPartitionEntry → ℕ → GPT → GPT → Type 0
IsExtendedFrom None i g next = next ≡ g
IsExtendedFrom (Some e) i g next = (end : ℕ) × IsFurthestEnd (IsFreeIn g) g.align e.starting_lba e.ending_lba end × (next ≡ with_entry g i (record e { ending_lba = end }))

abbrev pub IsExtended : ℕ → GPT → GPT → Type 0
IsExtended i g next = IsExtendedFrom (entry_of_number g i) i g next

-- The entries of these numbers were lengthened one by one.
abbrev pub AreExtended : List ℕ → GPT → GPT → Type 0
AreExtended [] g next = next ≡ g
AreExtended (i ∷ is) g next = (mid : GPT) × IsExtended i g mid × AreExtended is mid next

-- A plan ends with a refusal for which P holds, or since an allocation failed.
abbrev pub IsStopOf : (Refusal → Type 0) → Stop → Type 0
IsStopOf P (Refused r) = P r
IsStopOf P (Failed e) = fault_of e ≡ out_of_memory

-- The layout was applied to a table: each request was resolved against the original table, then the removed and the
-- named entries were made unused, then the partitions were put, and then those that get the rest were lengthened.
pub record IsApplied (layout : RequestedLayout) (randoms : List (List ℕ)) (g next : GPT) : Type 0 where
  pub align : ℕ
  pub is_align : align_asked layout.align g.sector_size ≡ Ok align
  pub partitions : List ResolvedPartition
  pub asked : resolved_all g layout.mode layout.asked.items randoms ≡ Ok partitions
  pub rest : GPT
  pub removed : removed_all layout.removed.items (record g { align = align }) ≡ Ok rest
  pub free : GPT
  pub clear : cleared partitions rest ≡ Ok free
  pub others : others_fault layout.mode free ≡ None
  pub placed : GPT
  pub put : ArePut partitions free placed
  pub last : GPT
  pub extended : AreExtended (rest_numbers layout.asked.items partitions) placed last
  pub next_is : next ≡ record last { align = g.align; header = record last.header { disk_guid = unwrap_or layout.disk_guid last.header.disk_guid } }

-- The layout cannot be applied to a table, for the first of these reasons that applies.
pub data RefusesAsked (layout : RequestedLayout) (randoms : List (List ℕ)) (g : GPT) (r : Refusal) : Type 0 where
  not_asked : resolved_all g layout.mode layout.asked.items randoms ≡ Err r → RefusesAsked layout randoms g r
  no_align : (partitions : List ResolvedPartition) → resolved_all g layout.mode layout.asked.items randoms ≡ Ok partitions
      → align_asked layout.align g.sector_size ≡ Err r → RefusesAsked layout randoms g r
  not_removed : (partitions : List ResolvedPartition) (align : ℕ) → resolved_all g layout.mode layout.asked.items randoms ≡ Ok partitions
      → align_asked layout.align g.sector_size ≡ Ok align → removed_all layout.removed.items (record g { align = align }) ≡ Err r → RefusesAsked layout randoms g r
  not_cleared : (partitions : List ResolvedPartition) (align : ℕ) (rest : GPT) → resolved_all g layout.mode layout.asked.items randoms ≡ Ok partitions
      → align_asked layout.align g.sector_size ≡ Ok align → removed_all layout.removed.items (record g { align = align }) ≡ Ok rest
      → cleared partitions rest ≡ Err r → RefusesAsked layout randoms g r
  others_there : (partitions : List ResolvedPartition) (align : ℕ) (rest free : GPT) → resolved_all g layout.mode layout.asked.items randoms ≡ Ok partitions
      → align_asked layout.align g.sector_size ≡ Ok align → removed_all layout.removed.items (record g { align = align }) ≡ Ok rest
      → cleared partitions rest ≡ Ok free → others_fault layout.mode free ≡ Some r → RefusesAsked layout randoms g r
  not_put : (partitions : List ResolvedPartition) (align : ℕ) (rest free : GPT) → resolved_all g layout.mode layout.asked.items randoms ≡ Ok partitions
      → align_asked layout.align g.sector_size ≡ Ok align → removed_all layout.removed.items (record g { align = align }) ≡ Ok rest
      → cleared partitions rest ≡ Ok free → others_fault layout.mode free ≡ None → RefusesPutting partitions free r → RefusesAsked layout randoms g r

-- The layout cannot be applied, or an allocation failed.
abbrev pub RefusesApplying : RequestedLayout → List (List ℕ) → GPT → Stop → Type 0
RefusesApplying layout randoms g = IsStopOf (RefusesAsked layout randoms g)
