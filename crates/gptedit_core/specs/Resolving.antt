-- The meaning of a request for an entry of a table.
use Rattle.std.specs.Prelude.{◌≡◌, ℕ, ◌+◌, ◌-◌, ◌/◌, ◌%◌, ◌^◌, Bool, false, ◌&&◌, nat_eq, nat_le, nat_lt, if◌then◌else◌, List, [], ◌∷◌, Option, None, Some, Result, Ok, Err, option_map, unwrap_or}
use Rattle.std.specs.List.{enumerate_from}
use Rattle.gptman.specs.Coding.{empty_entry}
use Rattle.gptman.specs.Entry.{is_unused, is_used}
use Rattle.gptman.specs.Fault.{fault_of, out_of_memory}
use Rattle.gptman.specs.Number.{entry_of_number}
use Rattle.gptman.specs.Table.{entries_in}
use Rattle.gptman.specs.declared.codec.entry.GPTPartitionEntry.{GPTPartitionEntry}
use Rattle.gptman.specs.declared.table.GPT.{GPT}
use Rattle.gptedit_core.specs.Sectors.{between}
use Rattle.gptedit_core.specs.declared.amount.Amount.{Amount}
use Rattle.gptedit_core.specs.declared.amount.Amount.TheVariants.{Sectors, Bytes}
use Rattle.gptedit_core.specs.declared.asked.Asked.{Asked}
use Rattle.gptedit_core.specs.declared.asked.Choice.{Choice}
use Rattle.gptedit_core.specs.declared.asked.Choice.TheVariants.{First}
use Rattle.gptedit_core.specs.declared.asked.Mode.{Mode}
use Rattle.gptedit_core.specs.declared.asked.Mode.TheVariants.{Add, Change, Become}
use Rattle.gptedit_core.specs.declared.asked.Size.{Size}
use Rattle.gptedit_core.specs.declared.asked.Size.TheVariants.{Exactly, Rest}
use Rattle.gptedit_core.specs.declared.place.Place.{Place}
use Rattle.gptedit_core.specs.declared.place.Place.TheVariants.{At, From, Free, Longest}
use Rattle.gptedit_core.specs.declared.refusal.Refusal.{Refusal}
use Rattle.gptedit_core.specs.declared.refusal.Refusal.TheVariants.{NoUnusedEntry, NoEntry, IsUsed, IsUnused, NoType, NoSize, NotWhole, TooLarge, WouldMove}
use Rattle.gptedit_core.specs.declared.refusal.Stop.{Stop}
use Rattle.gptedit_core.specs.declared.refusal.Stop.TheVariants.{Refused, Failed}
use Rattle.gptedit_core.specs.declared.resolve.ResolvedPartition.{ResolvedPartition}
use Rattle.gptedit_core.specs.declared.resolve.Room.{Room}
use Rattle.gptedit_core.specs.declared.resolve.Room.TheVariants.{Sectors as RoomSectors, Rest as RoomRest}
use Rattle.gptedit_core.specs.declared.sectors.SectorRange.{SectorRange}

-- A request for an entry with no field set.
abbrev pub nothing_of : Option ℕ → Asked
nothing_of number = record { number = number; type_guid = None; unique_guid = None; attributes = None; name = None; start = None; size = None; choice = First }

-- An amount in sectors of ss bytes, if it is a whole number of them.
abbrev pub sectors_in : Amount → ℕ → Option ℕ
sectors_in (Sectors n) ss = Some n
sectors_in (Bytes n) ss = if nat_eq (n % ss) 0 then Some (n / ss) else None

-- The number of the first entry that passes the test.
abbrev pub first_numbered : (GPTPartitionEntry → Bool) → List (ℕ × GPTPartitionEntry) → Option ℕ
first_numbered test [] = None
first_numbered test (e ∷ es) = if test e.1 then Some e.0 else first_numbered test es

-- The lowest number of an unused entry.
abbrev pub lowest_unused : GPT → Option ℕ
lowest_unused g = first_numbered is_unused (enumerate_from 1 (entries_in g))

-- The requested number, or the lowest one of an unused entry.
abbrev pub number_asked_or : GPT → Option ℕ → Option ℕ → Result ℕ Refusal
number_asked_or g (Some i) unused = elim (entry_of_number g i) [ None ↦ Err (NoEntry i) | Some e ↦ Ok i ]
number_asked_or g None (Some i) = Ok i
number_asked_or g None None = Err NoUnusedEntry

abbrev pub number_asked : GPT → Asked → Result ℕ Refusal
number_asked g a = number_asked_or g a.number (lowest_unused g)

-- The entry of a number, if it is used.
abbrev pub used_at : GPT → ℕ → Option GPTPartitionEntry
used_at g i = elim (entry_of_number g i) [ None ↦ None | Some e ↦ if is_used e then Some e else None ]

-- Adding to a used entry is refused, and changing an unused one.
abbrev pub use_fault : Mode → ℕ → Option GPTPartitionEntry → Option Refusal
use_fault Add i None = None
use_fault Add i (Some e) = Some (IsUsed i)
use_fault Change i None = Some (IsUnused i)
use_fault Change i (Some e) = None
use_fault (Become replace) i used = None

-- The requested first sector, if there is one.
abbrev pub start_asked : Option Amount → ℕ → Result (Option ℕ) Refusal
start_asked None ss = Ok None
start_asked (Some amount) ss = elim (sectors_in amount ss) [ None ↦ Err (NotWhole amount) | Some s ↦ Ok (Some s) ]

-- The requested size in sectors, if there is one.
abbrev pub room_asked : Option Size → ℕ → ℕ → Result (Option Room) Refusal
room_asked None i ss = Ok None
room_asked (Some Rest) i ss = Ok (Some RoomRest)
room_asked (Some (Exactly amount)) i ss =
    elim (sectors_in amount ss) [ None ↦ Err (NotWhole amount) | Some n ↦ if nat_eq n 0 then Err (NoSize i) else Ok (Some (RoomSectors n)) ]

-- The place from first to more sectors after it.
abbrev pub span_from : ℕ → ℕ → ℕ → Result Place Refusal
span_from i first more = if nat_lt (first + more) (2 ^ 64) then Ok (At first (first + more)) else Err (TooLarge i)

-- The place of a partition that gets the rest, by its requested start and its present place. From where it starts, it
-- is unchanged at first.
abbrev pub rest_of : Option ℕ → Option SectorRange → Place
rest_of None None = Longest
rest_of (Some first) None = From first
rest_of None (Some there) = At there.first there.last
rest_of (Some first) (Some there) = if nat_eq first there.first then At there.first there.last else From first

-- The place of a partition, by its requested size and start and its present place.
abbrev pub place_of : ℕ → Option Room → Option ℕ → Option SectorRange → Choice → Result Place Refusal
place_of i (Some (RoomSectors n)) (Some first) there choice = span_from i first (n - 1)
place_of i (Some (RoomSectors n)) None (Some there) choice = span_from i there.first (n - 1)
place_of i (Some (RoomSectors n)) None None choice = Ok (Free n choice)
place_of i (Some RoomRest) start there choice = Ok (rest_of start there)
place_of i None None (Some there) choice = Ok (At there.first there.last)
place_of i None (Some start) (Some there) choice = if nat_le there.first there.last then span_from i start (there.last - there.first) else Err (NoSize i)
place_of i None start None choice = Err (NoSize i)

-- The present place of an entry.
abbrev pub there_of : Option GPTPartitionEntry → Option SectorRange
there_of used = option_map (λ e. between e.starting_lba e.ending_lba) used

-- A place that moves or shortens a used entry is refused if the table may only become the layout.
abbrev pub stay_fault : Mode → ℕ → Option SectorRange → Place → Option Refusal
stay_fault (Become false) i (Some there) (At first last) = if nat_eq first there.first && nat_le there.last last then None else Some (WouldMove i)
stay_fault (Become false) i (Some there) place = Some (WouldMove i)
stay_fault mode i there place = None

-- The value, or the refusal if there is one.
abbrev pub unless : {A : Type 0} → Option Refusal → A → Result A Refusal
unless None a = Ok a
unless (Some r) a = Err r

-- The second step applied to the value of the first.
abbrev pub and_then : {A B : Type 0} → Result A Refusal → (A → Result B Refusal) → Result B Refusal
and_then (Ok a) f = f a
and_then (Err r) f = Err r

-- The requested place of entry i, with sectors of ss bytes.
abbrev pub place_asked : Mode → Asked → ℕ → Option GPTPartitionEntry → ℕ → Result Place Refusal
place_asked mode a i used ss =
    and_then (start_asked a.start ss) (λ start.
    and_then (room_asked a.size i ss) (λ room.
    and_then (place_of i room start (there_of used) a.choice) (λ place.
    unless (stay_fault mode i (there_of used) place) place)))

-- The used entry, or an empty one with the random GUID.
abbrev pub entry_there : Option GPTPartitionEntry → List ℕ → GPTPartitionEntry
entry_there None random = record empty_entry { unique_partition_guid = random }
entry_there (Some e) random = e

-- The entry with the requested fields.
abbrev pub entry_asked : Asked → Option GPTPartitionEntry → List ℕ → GPTPartitionEntry
entry_asked a used random = let e = entry_there used random in record e {
  partition_type_guid = unwrap_or a.type_guid e.partition_type_guid;
  unique_partition_guid = unwrap_or a.unique_guid e.unique_partition_guid;
  attribute_bits = unwrap_or a.attributes e.attribute_bits;
  partition_name = unwrap_or a.name e.partition_name;
}

-- The partition to be put into entry i.
abbrev pub partition_at : GPT → Mode → Asked → List ℕ → ℕ → Result ResolvedPartition Refusal
partition_at g mode a random i =
    let used = used_at g i in
    let e = entry_asked a used random in
    and_then (unless (use_fault mode i used) i) (λ _.
    and_then (place_asked mode a i used g.sector_size) (λ place.
    if is_unused e then Err (NoType i) else Ok (record { number = i; entry = e; place = place })))

-- The partition of one request.
abbrev pub resolved : GPT → Mode → Asked → List ℕ → Result ResolvedPartition Refusal
resolved g mode a random = and_then (number_asked g a) (partition_at g mode a random)

-- A plan ends with the refusal, or since an allocation failed.
abbrev pub IsStopFor : {A : Type 0} → Result A Refusal → Stop → Type 0
IsStopFor r (Refused refusal) = r ≡ Err refusal
IsStopFor r (Failed e) = fault_of e ≡ out_of_memory

-- The refusal, if there is one.
abbrev pub refusal_in : Result (Unit {0}) Refusal → Option Refusal
refusal_in (Ok _) = None
refusal_in (Err r) = Some r

-- The partitions of all requests, each with a random GUID.
abbrev pub resolved_all : GPT → Mode → List Asked → List (List ℕ) → Result (List ResolvedPartition) Refusal
resolved_all g mode [] randoms = Ok []
resolved_all g mode (a ∷ asked) [] = Ok []
resolved_all g mode (a ∷ asked) (random ∷ randoms) =
    and_then (resolved g mode a random) (λ p. and_then (resolved_all g mode asked randoms) (λ ps. Ok (p ∷ ps)))
