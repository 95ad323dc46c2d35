-- The effect of a plan on the disk, and why there is no plan.
use Rattle.std.specs.Prelude.{◌≡◌, ◌≢◌, ◌<◌, ◌⊎◌, ◌+◌, ℕ, List, [], ◌∷◌, length, map, Ok, Err, Some}
use Rattle.gptman.specs.Copy.{Copy}
use Rattle.gptman.specs.Crash.{other_place}
use Rattle.gptman.specs.Disk.{AgreesOutside}
use Rattle.gptman.specs.Fault.{Fault, fault_of, out_of_memory}
use Rattle.gptman.specs.Fit.{fit_fault, fit_header, new_header_of}
use Rattle.gptman.specs.Layout.{HasLayout, HasRightSectors, Holds, IsLaidOut, copy_ranges_at}
use Rattle.gptman.specs.Ranges.{AreClear}
use Rattle.gptman.specs.Reading.{CopyPlace, primary, backup, reading_of, taken_from}
use Rattle.gptman.specs.Stop.{HoldsOneOf}
use Rattle.gptman.specs.Table.{Table, entries_in, new_table_of, table_in, table_of, IsHeaderForm, IsInForm}
use Rattle.gptman.specs.TableWrites.{RefusesTable}
use Rattle.gptman.specs.declared.codec.entry.GPTPartitionEntry.{GPTPartitionEntry}
use Rattle.gptman.specs.declared.codec.header.GPTHeader.{GPTHeader}
use Rattle.gptman.specs.declared.table.GPT.{GPT}
use Rattle.gptman_plan.specs.Crossing.{content_in, content_of, four_ranges}
use Rattle.gptman.specs.Fault.{fault_number}
use Rattle.gptman_plan.specs.Plan.{Act, LeftBy, acts_of, pending_after, bytes_after}
use Rattle.gptman_plan.specs.Reading.{IsLack, OfEvery}
use Rattle.gptman_plan.specs.declared.ends.Ends.{Ends}
use Rattle.gptman_plan.specs.declared.planning.PlanError.{PlanError}
use Rattle.gptman_plan.specs.declared.planning.PlanError.TheVariants.{BadArgument, Refused, Lacks, OtherLength, OtherLayout}
use Rattle.gptman_plan.specs.declared.records.Needed.{Needed}
use Rattle.gptman_plan.specs.declared.records.Partition.{Partition}
use Rattle.gptman_plan.specs.declared.records.Step.{Step}

-- the table of the copy, with these entries
abbrev pub rewritten : Copy → List Partition → Table
rewritten copy partitions = record (table_of copy.header copy.entries) { entries = map content_of partitions }

-- After all of these acts both places hold the table, and nothing is pending. A crash between or within them leaves all
-- bytes outside its four ranges unchanged.
pub record IsWrittenPlan (start : List ℕ) (ss : ℕ) (next : Table) (acts : List Act) : Type 0 where
  pub others : (x : List ℕ) → LeftBy start acts x → AgreesOutside (four_ranges next ss (length start)) start x
  pub synced : pending_after acts ≡ []
  pub at_primary : Holds (bytes_after start acts) ss primary next
  pub at_backup : Holds (bytes_after start acts) ss backup next

-- The acts write the table that is read from these bytes, with these entries. The copy that is read is in the form of
-- its place, and its table has the stated layout. A crash between or within the acts leaves the old table or the new
-- one in one place at least.
pub record IsPlan (start : List ℕ) (ss : ℕ) (partitions : List Partition) (acts : List Act) : Type 0 where
  pub copy : Copy
  pub taken : reading_of start ss ≡ Ok copy
  pub form : IsHeaderForm (taken_from start ss) copy.header
  pub laid_out : IsLaidOut (table_of copy.header copy.entries) ss (length start)
  pub written : IsWrittenPlan start ss (rewritten copy partitions) acts
  pub stops : (x : List ℕ) → LeftBy start acts x → HoldsOneOf x ss (table_of copy.header copy.entries ∷ rewritten copy partitions ∷ [])

-- The table that is read from these bytes was made for another length: its headers are not those of sector 1 and the
-- last whole sector.
pub record IsOfOtherLength (b : List ℕ) (ss : ℕ) : Type 0 where
  pub copy : Copy
  pub taken : reading_of b ss ≡ Ok copy
  pub other : ¬ HasRightSectors (table_of copy.header copy.entries) ss (length b)

-- The table was made for this length, but the copy that is read is not in the form of its place, or the table does not
-- have the stated layout for another reason.
pub record IsOfOtherLayout (b : List ℕ) (ss : ℕ) : Type 0 where
  pub copy : Copy
  pub taken : reading_of b ss ≡ Ok copy
  pub made : HasRightSectors (table_of copy.header copy.entries) ss (length b)
  pub other : ¬ (IsHeaderForm (taken_from b ss) copy.header × IsLaidOut (table_of copy.header copy.entries) ss (length b))

-- A table with this header and these entries may not be written to a disk of len bytes, because of this fault.
pub record IsUnfit (header : GPTHeader) (ss : ℕ) (partitions : List Partition) (len : ℕ) (fault : Fault) : Type 0 where
  pub value : GPT
  pub header_is : value.header ≡ header
  pub sector : value.sector_size ≡ ss
  pub entries : map content_in (entries_in value) ≡ map content_of partitions
  pub why : RefusesTable value len fault

-- Why the table in these bytes is not written with these entries: it cannot be read, or may not be written.
pub data RefusesPlan (b : List ℕ) (ss : ℕ) (partitions : List Partition) (fault : Fault) : Type 0 where
  is_not_read : reading_of b ss ≡ Err fault → RefusesPlan b ss partitions fault
  is_unfit : (copy : Copy) → reading_of b ss ≡ Ok copy → IsUnfit copy.header ss partitions (length b) fault → RefusesPlan b ss partitions fault

-- Why a new table with `count` entries is not written to a disk of `size` bytes: there is no room for two copies, or
-- the table may not be written.
abbrev pub RefusesNew : ℕ → List ℕ → ℕ → ℕ → Fault → Type 0
RefusesNew count guid ss size fault = (fit_fault (new_header_of count guid) ss size ≡ Some fault) ⊎ RefusesTable (new_table_of count guid ss size) size fault

-- There is a plan with this number of steps and bytes.
pub record HasPlan (is_plan : List Act → Type 0) (needed : Needed) : Type 0 where
  pub steps : List Step
  pub bytes : List ℕ
  pub count : length steps ≡ needed.steps
  pub filled : length bytes ≡ needed.bytes
  pub plan : is_plan (acts_of bytes steps)

-- It is the number of a fault with this property.
pub record IsNumberOf (why : Fault → Type 0) (number : ℕ) : Type 0 where
  pub fault : Fault
  pub holds : why fault
  pub number_is : fault_number fault ≡ number

-- no disk has sectors of ss bytes and these ends
abbrev pub AreNoEnds : List ℕ → List ℕ → ℕ → ℕ → Type 0
AreNoEnds head tail size ss = (ss ≡ 0) ⊎ (size < length head + length tail)

-- The table in these bytes has no entries, or not as many as these; or the disk is shorter than a sector.
pub record IsMiscounted (b : List ℕ) (ss : ℕ) (partitions : List Partition) : Type 0 where
  pub copy : Copy
  pub taken : reading_of b ss ≡ Ok copy
  pub count : (copy.header.number_of_partition_entries ≡ 0) ⊎ ((length partitions ≢ copy.header.number_of_partition_entries) ⊎ (length b < ss))

-- why there is no plan, except for missing bytes
pub data Cause : Type 0 where
  bad_argument : Cause
  a_fault : Fault → Cause
  other_length : Cause
  other_layout : Cause

-- Why there is no plan: a cause with this property, an allocation failure, or bytes of the disk that neither end has.
abbrev pub IsRefusal : (Cause → Type 0) → Ends → PlanError → Type 0
IsRefusal why ends BadArgument = why bad_argument
IsRefusal why ends (Refused e) = (fault_of e ≡ out_of_memory) ⊎ why (a_fault (fault_of e))
IsRefusal why ends (Lacks lack) = IsLack ends lack
IsRefusal why ends OtherLength = why other_length
IsRefusal why ends OtherLayout = why other_layout

-- the cause is a fault with this property
abbrev pub IsOfFault : (Fault → Type 0) → Cause → Type 0
IsOfFault why bad_argument = ⊥
IsOfFault why (a_fault fault) = why fault
IsOfFault why other_length = ⊥
IsOfFault why other_layout = ⊥

-- the number of a refusal in C
abbrev pub refusal_number : PlanError → ℕ
refusal_number BadArgument = 105
refusal_number (Refused e) = fault_number (fault_of e)
refusal_number (Lacks lack) = 103
refusal_number OtherLength = 100
refusal_number OtherLayout = 101

-- the output of a refusal: the missing range, if that is the reason
abbrev pub needed_after : PlanError → Needed → Needed
needed_after BadArgument needed = needed
needed_after (Refused e) needed = needed
needed_after (Lacks lack) needed = record needed { from = lack.from; length = lack.length }
needed_after OtherLength needed = needed
needed_after OtherLayout needed = needed

-- why this table is not written to a disk of size bytes
abbrev pub StopsTable : GPT → ℕ → Cause → Type 0
StopsTable g size bad_argument = ⊥
StopsTable g size (a_fault fault) = RefusesTable g size fault
StopsTable g size other_length = ⊥
StopsTable g size other_layout = ¬ HasLayout g size

abbrev pub IsTableRefusal : Ends → GPT → PlanError → Type 0
IsTableRefusal ends g refusal = IsRefusal (StopsTable g ends.size) ends refusal

-- why the table in these bytes is not written with these entries
abbrev pub StopsPlan : List ℕ → ℕ → List Partition → Cause → Type 0
StopsPlan b ss partitions bad_argument = IsMiscounted b ss partitions
StopsPlan b ss partitions (a_fault fault) = RefusesPlan b ss partitions fault
StopsPlan b ss partitions other_length = IsOfOtherLength b ss
StopsPlan b ss partitions other_layout = IsOfOtherLayout b ss

abbrev pub IsPlanRefusal : Ends → ℕ → List Partition → PlanError → Type 0
IsPlanRefusal ends ss partitions refusal = IsRefusal (λ cause. OfEvery ends (λ b. StopsPlan b ss partitions cause)) ends refusal

-- why a new table is not written
abbrev pub StopsNew : ℕ → List ℕ → ℕ → ℕ → Cause → Type 0
StopsNew count guid ss size bad_argument = (count ≡ 0) ⊎ (size < ss)
StopsNew count guid ss size (a_fault fault) = RefusesNew count guid ss size fault
StopsNew count guid ss size other_length = ⊥
StopsNew count guid ss size other_layout = ¬ HasLayout (new_table_of count guid ss size) size

abbrev pub IsNewRefusal : Ends → ℕ → ℕ → List ℕ → PlanError → Type 0
IsNewRefusal ends ss count guid refusal = IsRefusal (StopsNew count guid ss ends.size) ends refusal

-- A crash between or within these acts leaves all bytes outside the table's copy at the other side unchanged, or that
-- copy complete.
abbrev pub ComesInOrder : CopyPlace → List ℕ → ℕ → Table → List Act → Type 0
ComesInOrder side start ss next acts = (x : List ℕ) → LeftBy start acts x
    → AgreesOutside (copy_ranges_at (other_place side) next ss (length start)) start x ⊎ Holds x ss (other_place side) next

-- If the place of this place holds a table that does not overlap the new one's copy at the other side, a crash leaves
-- that table or the new one.
abbrev pub IsReplaced : CopyPlace → List ℕ → ℕ → Table → Table → List Act → Type 0
IsReplaced side start ss was next acts = Holds start ss side was → AreClear (copy_ranges_at side was ss (length start)) (copy_ranges_at (other_place side) next ss (length start))
    → (x : List ℕ) → LeftBy start acts x → HoldsOneOf x ss (was ∷ next ∷ [])

-- The acts write the table of this value, which has the stated layout. A table that it replaces at the place of its
-- header's form is not lost.
pub record IsTablePlan (start : List ℕ) (g : GPT) (acts : List Act) : Type 0 where
  pub layout : HasLayout g (length start)
  pub written : IsWrittenPlan start g.sector_size (table_in g) acts
  pub replaced : (side : CopyPlace) → IsHeaderForm side g.header → (was : Table) → IsReplaced side start g.sector_size was (table_in g) acts

-- The same for a new table, whose header is a primary one.
pub record IsNewPlan (start : List ℕ) (g : GPT) (acts : List Act) : Type 0 where
  pub layout : HasLayout g (length start)
  pub written : IsWrittenPlan start g.sector_size (table_in g) acts
  pub replaced : (was : Table) → IsReplaced primary start g.sector_size was (table_in g) acts

-- the table of the copy, with its header fitted to a disk of len bytes
abbrev pub fitted : Copy → ℕ → ℕ → Table
fitted copy ss len = table_of (fit_header copy.header ss len) copy.entries

-- The copy that is read from these bytes is in the form of its place, and its table, fitted to the length of the disk,
-- has the stated layout.
pub record IsStatedToFit (b : List ℕ) (ss : ℕ) (copy : Copy) : Type 0 where
  pub form : IsHeaderForm (taken_from b ss) copy.header
  pub fitted_form : IsInForm (fit_header copy.header ss (length b))
  pub laid_out : IsLaidOut (fitted copy ss (length b)) ss (length b)

-- The acts write the table that is read from these bytes, fitted to the length of the disk, in the stated layout. If
-- the primary copy is read, a crash leaves the old table or the fitted one in one place at least.
pub record IsFitPlan (start : List ℕ) (ss : ℕ) (acts : List Act) : Type 0 where
  pub copy : Copy
  pub taken : reading_of start ss ≡ Ok copy
  pub stated : IsStatedToFit start ss copy
  pub written : IsWrittenPlan start ss (fitted copy ss (length start)) acts
  pub stops : taken_from start ss ≡ primary → (x : List ℕ) → LeftBy start acts x
      → HoldsOneOf x ss (table_of copy.header copy.entries ∷ fitted copy ss (length start) ∷ [])

-- The copy that is read is not in the form of its place, or the fitted table does not have the stated layout.
pub record IsNotStatedToFit (b : List ℕ) (ss : ℕ) : Type 0 where
  pub copy : Copy
  pub taken : reading_of b ss ≡ Ok copy
  pub other : ¬ IsStatedToFit b ss copy

-- A table with this header and these entries may not be written to a disk of len bytes, because of this fault.
pub record IsUnfitTable (header : GPTHeader) (ss : ℕ) (entries : List GPTPartitionEntry) (len : ℕ) (fault : Fault) : Type 0 where
  pub value : GPT
  pub header_is : value.header ≡ header
  pub sector : value.sector_size ≡ ss
  pub entries_are : entries_in value ≡ entries
  pub why : RefusesTable value len fault

-- Why the table in these bytes is not written fitted to their length: it cannot be read, the disk has too few sectors
-- for it, or it may not be written.
pub data RefusesFit (b : List ℕ) (ss : ℕ) (fault : Fault) : Type 0 where
  is_not_read_to_fit : reading_of b ss ≡ Err fault → RefusesFit b ss fault
  does_not_fit : (copy : Copy) → reading_of b ss ≡ Ok copy → fit_fault copy.header ss (length b) ≡ Some fault → RefusesFit b ss fault
  is_unfit_fitted : (copy : Copy) → reading_of b ss ≡ Ok copy → IsUnfitTable (fit_header copy.header ss (length b)) ss copy.entries (length b) fault → RefusesFit b ss fault

-- why a table is not fitted to a disk of this size
abbrev pub IsSizeRefusal : Ends → GPT → PlanError → Type 0
IsSizeRefusal ends g refusal = IsRefusal (IsOfFault (λ fault. fit_fault g.header g.sector_size ends.size ≡ Some fault)) ends refusal

-- why the table in these bytes is not written fitted to their length
abbrev pub StopsFit : List ℕ → ℕ → Cause → Type 0
StopsFit b ss bad_argument = ⊥
StopsFit b ss (a_fault fault) = RefusesFit b ss fault
StopsFit b ss other_length = ⊥
StopsFit b ss other_layout = IsNotStatedToFit b ss

-- why there is no plan that fits the table in the ends
abbrev pub IsFitRefusal : Ends → ℕ → PlanError → Type 0
IsFitRefusal ends ss refusal = IsRefusal (λ cause. OfEvery ends (λ b. StopsFit b ss cause)) ends refusal
