-- The entry that each request of a layout means.
use Rattle.std.specs.Prelude.{◌≡◌, ◌++◌, nat_lt, ◌≢◌, ◌⊎◌, ◌==◌, IfSome, ℕ, Bool, true, false, ◌&&◌, ◌||◌, not, count_by, if◌then◌else◌, List, [], ◌∷◌, map, IsTrue, Option, None, Some, Result, Ok, Err, option_map}
use Rattle.std.specs.List.{enumerate_from, filter, filter_map, find, list_any, AllZip}
use Rattle.std.specs.Str.{bytes_eq}
use Rattle.gptman.specs.Entry.{is_unused, is_used}
use Rattle.gptman.specs.Number.{entry_at, entry_of_number, IsNumber}
use Rattle.gptman.specs.Table.{entries_in}
use Rattle.gptman.specs.declared.codec.entry.GPTPartitionEntry.{GPTPartitionEntry}
use Rattle.gptman.specs.declared.table.GPT.{GPT}
use Rattle.gptedit_core.specs.Named.{IsAmong}
use Rattle.gptedit_core.specs.Resolving.{and_then, unless}
use Rattle.gptedit_core.specs.Selecting.{asked_for}
use Rattle.gptedit_core.specs.Targets.{IsUsedAs}
use Rattle.gptedit_core.specs.declared.asked.Asked.{Asked}
use Rattle.gptedit_core.specs.declared.asked.Mode.TheVariants.{Become}
use Rattle.gptedit_core.specs.declared.asked.RequestedLayout.{RequestedLayout}
use Rattle.gptedit_core.specs.declared.matching.EntryMatch.{EntryMatch}
use Rattle.gptedit_core.specs.declared.matching.MatchedBy.{MatchedBy}
use Rattle.gptedit_core.specs.declared.matching.MatchedBy.TheVariants.{Number, Guid, Name, «Type» as ByType, New}
use Rattle.gptedit_core.specs.declared.matching.MatchedLayout.{MatchedLayout}
use Rattle.gptedit_core.specs.declared.refusal.Refusal.{Refusal}
use Rattle.gptedit_core.specs.declared.refusal.Refusal.TheVariants.{NewRole, NoUnusedEntry}

-- ---- one request and one entry

-- The text of the requested name; without a name it is empty.
abbrev pub name_asked : Asked → List ℕ
name_asked a = elim a.name [ None ↦ [] | Some name ↦ name.text ]

abbrev pub asks_name : List ℕ → Asked → Bool
asks_name name a = bytes_eq (name_asked a) name

-- The GUID is requested.
abbrev pub is_asked : Option (List ℕ) → List ℕ → Bool
is_asked None guid = false
is_asked (Some asked) guid = bytes_eq asked guid

abbrev pub is_empty : List ℕ → Bool
is_empty [] = true
is_empty (x ∷ xs) = false

abbrev pub is_used_as : List ℕ → GPTPartitionEntry → Bool
is_used_as name e = is_used e && bytes_eq e.partition_name.text name

-- Two names do not tell a request and an entry apart: one of them is empty, or they are the same.
abbrev pub is_role : List ℕ → List ℕ → Bool
is_role name own = (is_empty name || is_empty own) || bytes_eq own name

-- The request may mean the entry in this way.
abbrev pub fits : MatchedBy → Asked → GPTPartitionEntry → Bool
fits Number a e = false
fits Guid a e = is_used e && is_asked a.unique_guid e.unique_partition_guid
fits Name a e = is_used_as (name_asked a) e
fits ByType a e = is_used e && is_asked a.type_guid e.partition_type_guid && is_role (name_asked a) e.partition_name.text
fits New a e = is_unused e

abbrev pub may_mean : GPT → MatchedBy → Asked → ℕ → Bool
may_mean g by a i = elim (entry_of_number g i) [ None ↦ false | Some e ↦ fits by a e ]

-- The name is not empty, and exactly one request and one used entry have it.
abbrev pub is_only_name : GPT → List Asked → List ℕ → Bool
is_only_name g all name =
    not (is_empty name) && (count_by (asks_name name) all == 1)
    && (count_by (is_used_as name) (entries_in g) == 1)

-- A request seeks an entry by its name only if the name is the only one. In the other ways each request does.
abbrev pub may_seek : GPT → MatchedBy → List Asked → Asked → Bool
may_seek g Name all a = is_only_name g all (name_asked a)
may_seek g by all a = true

-- ---- one pass over all requests

-- The other numbers.
abbrev pub others : ℕ → List ℕ → List ℕ
others i free = filter (λ j. not (j == i)) free

-- The request gets the first of the numbers that it may mean, if there is one. This number is no longer free.
abbrev pub taken : MatchedBy → List ℕ → Option ℕ → Option EntryMatch × List ℕ
taken by free None = (None, free)
taken by free (Some i) = (Some (record { number = i; by = by }), others i free)

-- A request that has an entry keeps it.
abbrev pub sought : GPT → MatchedBy → List Asked → Asked → Option EntryMatch → List ℕ → Option EntryMatch × List ℕ
sought g by all a (Some one) free = (Some one, free)
sought g by all a None free = if may_seek g by all a then taken by free (find (may_mean g by a) free) else (None, free)

abbrev pub put_first : Option EntryMatch → List (Option EntryMatch) × List ℕ → List (Option EntryMatch) × List ℕ
put_first one rest = (one ∷ rest.0, rest.1)

-- The requests seek entries in this way, one after the other.
abbrev pub passed : GPT → MatchedBy → List Asked → List Asked → List (Option EntryMatch) → List ℕ → List (Option EntryMatch) × List ℕ
passed g by all [] found free = ([], free)
passed g by all (a ∷ asked) [] free = ([], free)
passed g by all (a ∷ asked) (one ∷ found) free =
    let first = sought g by all a one free in put_first first.0 (passed g by all asked found first.1)

-- ---- all passes

-- The entry of a number that the layout gives.
abbrev pub given : Asked → Option EntryMatch
given a = option_map (λ i. record { number = i; by = Number }) a.number

abbrev pub has_number : ℕ → Asked → Bool
has_number i a = elim a.number [ None ↦ false | Some j ↦ j == i ]

abbrev pub is_given : ℕ → List Asked → Bool
is_given i asked = list_any (has_number i) asked

-- The numbers of the entries that pass the test, and that no request has.
abbrev pub numbers_of : (GPTPartitionEntry → Bool) → List Asked → List (ℕ × GPTPartitionEntry) → List ℕ
numbers_of test asked [] = []
numbers_of test asked (e ∷ es) = if test e.1 && not (is_given e.0 asked) then e.0 ∷ numbers_of test asked es else numbers_of test asked es

abbrev pub free_at_first : (GPTPartitionEntry → Bool) → GPT → List Asked → List ℕ
free_at_first test g asked = numbers_of test asked (enumerate_from 1 (entries_in g))

abbrev pub pass : GPT → List Asked → MatchedBy → List (Option EntryMatch) × List ℕ → List (Option EntryMatch) × List ℕ
pass g asked by state = passed g by asked asked state.0 state.1

-- The requests that mean used entries: by number, then by GUID, then by name, then by type; and the used entries that
-- none of them means.
abbrev pub used_found : GPT → List Asked → List (Option EntryMatch) × List ℕ
used_found g asked = pass g asked ByType (pass g asked Name (pass g asked Guid (map given asked, free_at_first is_used g asked)))

-- The highest of these numbers and k.
abbrev pub highest : List (Option EntryMatch) → ℕ → ℕ
highest [] k = k
highest (None ∷ found) k = highest found k
highest (Some m ∷ found) k = highest found (if nat_lt k m.number then m.number else k)

-- The number is after the last one that is meant, or it is not.
abbrev pub is_on_side : Bool → ℕ → ℕ → Bool
is_on_side true last i = nat_lt last i
is_on_side false last i = not (nat_lt last i)

abbrev pub sorted_around : ℕ → List ℕ → List ℕ
sorted_around last free = filter (is_on_side true last) free ++ filter (is_on_side false last) free

-- The numbers for new partitions: first those after all that are meant, so that new partitions come after those that
-- were found by their order.
abbrev pub new_numbers : GPT → List Asked → List (Option EntryMatch) → List ℕ
new_numbers g asked found = sorted_around (highest found 0) (free_at_first is_unused g asked)

-- The others get unused entries, the first of these numbers.
abbrev pub new_found : GPT → List Asked → List ℕ → List (Option EntryMatch) → List (Option EntryMatch)
new_found g asked free found = (pass g asked New (found, free)).0

-- The entries, if each request has one.
abbrev pub all_found : List (Option EntryMatch) → Result (List EntryMatch) Refusal
all_found [] = Ok []
all_found (None ∷ found) = Err NoUnusedEntry
all_found (Some m ∷ found) = and_then (all_found found) (λ ms. Ok (m ∷ ms))

-- ---- the layout

-- The requests with the numbers of these entries.
abbrev pub numbered : List Asked → List EntryMatch → List Asked
numbered [] ms = []
numbered (a ∷ asked) [] = a ∷ asked
numbered (a ∷ asked) (m ∷ ms) = asked_for m.number a ∷ numbered asked ms

-- The requested GUID, if there is one, is another.
abbrev pub is_other : Option (List ℕ) → List ℕ → Bool
is_other None guid = false
is_other (Some asked) guid = not (bytes_eq asked guid)

abbrev pub is_by_role : MatchedBy → Bool
is_by_role Name = true
is_by_role ByType = true
is_by_role by = false

-- The request means the entry only by its name or type, and gives it another type or GUID.
abbrev pub has_new_role : GPT → Asked → EntryMatch → Bool
has_new_role g a m = elim (entry_of_number g m.number) [ None ↦ false | Some e ↦ is_by_role m.by && (is_other a.type_guid e.partition_type_guid || is_other a.unique_guid e.unique_partition_guid) ]

-- The first request with a new role for its entry.
abbrev pub role_fault : GPT → List Asked → List EntryMatch → Option Refusal
role_fault g [] ms = None
role_fault g (a ∷ asked) [] = None
role_fault g (a ∷ asked) (m ∷ ms) = if has_new_role g a m then Some (NewRole m.number) else role_fault g asked ms

abbrev pub role_fault_unless : Bool → GPT → List Asked → List EntryMatch → Option Refusal
role_fault_unless replace g asked ms = if replace then None else role_fault g asked ms

-- The entries that the requests mean, or why there are none.
abbrev pub matched : GPT → List Asked → Bool → Result (List EntryMatch) Refusal
matched g asked replace = and_then (all_found (new_found g asked (new_numbers g asked (used_found g asked).0) (used_found g asked).0)) (λ ms. unless (role_fault_unless replace g asked ms) ms)

-- The layout has the numbers of these entries. It removes the used entries that no request means, or none.
pub record IsMatched (g : GPT) (layout : RequestedLayout) (replace : Bool) (m : MatchedLayout) : Type 0 where
  pub matches : matched g layout.asked.items replace ≡ Ok m.matches.items
  pub asked : m.layout.asked.items ≡ numbered layout.asked.items m.matches.items
  pub removed : m.layout.removed.items ≡ (if replace then (used_found g layout.asked.items).1 else [])
  pub mode : m.layout.mode ≡ Become replace
  pub disk_guid : m.layout.disk_guid ≡ layout.disk_guid
  pub align : m.layout.align ≡ layout.align

-- The requests with numbers, where those without one get unused entries; or why there are none.
abbrev pub added : GPT → List Asked → Result (List Asked) Refusal
added g asked = and_then (all_found (new_found g asked (free_at_first is_unused g asked) (map given asked))) (λ ms. Ok (numbered asked ms))

pub record IsAdded (g : GPT) (layout next : RequestedLayout) : Type 0 where
  pub asked : added g layout.asked.items ≡ Ok next.asked.items
  pub removed : next.removed.items ≡ layout.removed.items
  pub mode : next.mode ≡ layout.mode
  pub disk_guid : next.disk_guid ≡ layout.disk_guid
  pub align : next.align ≡ layout.align

-- ---- what the entries say of the requests

-- The request means entry i in this way.
abbrev pub MeansBy : GPT → Asked → ℕ → MatchedBy → Type 0
MeansBy g a i Number = a.number ≡ Some i
MeansBy g a i Guid = IsUsedAs g (λ e. a.unique_guid ≡ Some e.unique_partition_guid) i
MeansBy g a i Name = IsUsedAs g (λ e. (name_asked a ≢ []) × (e.partition_name.text ≡ name_asked a)) i
MeansBy g a i ByType = IsUsedAs g (λ e. (a.type_guid ≡ Some e.partition_type_guid) × (((name_asked a ≡ []) ⊎ (e.partition_name.text ≡ [])) ⊎ (e.partition_name.text ≡ name_asked a))) i
MeansBy g a i New = IsNumber g i × IsTrue (is_unused (entry_at g i))

abbrev pub Means : GPT → Asked → EntryMatch → Type 0
Means g a m = MeansBy g a m.number m.by

-- A request with a number keeps it.
abbrev pub KeepsNumber : Asked → EntryMatch → Type 0
KeepsNumber a m = IfSome a.number (λ i. (m.number ≡ i) × (m.by ≡ Number))

-- The numbers differ from each other.
abbrev pub AreApart : List ℕ → Type 0
AreApart [] = Unit {0}
AreApart (i ∷ is) = (¬ IsAmong i is) × AreApart is

-- The numbers that the layout gives, and those of the entries.
abbrev pub numbers_given : List Asked → List ℕ
numbers_given asked = filter_map (λ a. a.number) asked

abbrev pub numbers_in : List EntryMatch → List ℕ
numbers_in ms = map (λ m. m.number) ms

-- Number i is that of a used entry that no request means.
abbrev pub IsLeft : GPT → List EntryMatch → ℕ → Type 0
IsLeft g ms i = IsNumber g i × IsTrue (is_used (entry_at g i)) × ¬ IsAmong i (numbers_in ms)

-- The numbers are exactly those of the used entries that no request means.
abbrev pub AreLeft : GPT → List EntryMatch → List ℕ → Type 0
AreLeft g ms removed = (i : ℕ) → (IsAmong i removed → IsLeft g ms i) × (IsLeft g ms i → IsAmong i removed)

-- A request that gets a new entry could not have meant, by GUID or type, an entry that is left.
abbrev pub IsNewIn : GPT → List EntryMatch → Asked → EntryMatch → Type 0
IsNewIn g ms a m = m.by ≡ New → (i : ℕ) → IsLeft g ms i → (¬ MeansBy g a i Guid) × (¬ MeansBy g a i ByType)

-- What the result says of the table and the layout.
pub record IsLawful (g : GPT) (layout : RequestedLayout) (replace : Bool) (m : MatchedLayout) : Type 0 where
  pub kept : AllZip KeepsNumber layout.asked.items m.matches.items
  pub meant : AllZip (Means g) layout.asked.items m.matches.items
  pub apart : AreApart (numbers_given layout.asked.items) → AreApart (numbers_in m.matches.items)
  pub left : replace ≡ true → AreLeft g m.matches.items m.layout.removed.items
  pub none_left : replace ≡ false → m.layout.removed.items ≡ []
  pub complete : AllZip (IsNewIn g m.matches.items) layout.asked.items m.matches.items
