-- The table that a request makes.
use Rattle.std.specs.Prelude.{◌≡◌, ◌≢◌, ◌≤◌, ◌⊎◌, ℕ, Bool, true, false, List, length}
use Rattle.gptman.specs.Fault.{Fault, out_of_memory}
use Rattle.gptman.specs.Layout.{HasLayout}
use Rattle.gptman.specs.Number.{with_entries}
use Rattle.gptman.specs.Order.{by_rank, rank}
use Rattle.gptman.specs.Table.{entries_in}
use Rattle.gptman.specs.TableWrites.{MayBeWritten}
use Rattle.gptman.specs.Valid.{HasGoodBoundaries, HasOwnGuids}
use Rattle.gptman.specs.declared.table.GPT.{GPT}
use Rattle.gptman_change.specs.declared.Planned.{Planned}
use Rattle.gptman_change.specs.declared.Planned.TheVariants.{Write, Leave}
use Rattle.gptedit_core.specs.Applying.{IsApplied, RefusesAsked}
use Rattle.gptedit_core.specs.declared.plan.Job.{Job}
use Rattle.gptedit_core.specs.declared.plan.Job.TheVariants.{Apply, Sort, Rewrite}
use Rattle.gptedit_core.specs.declared.plan.Outcome.{Outcome}
use Rattle.gptedit_core.specs.declared.plan.Outcome.TheVariants.{Changed, Unchanged, Refused}
use Rattle.gptedit_core.specs.declared.plan.Request.{Request}
use Rattle.gptedit_core.specs.declared.refusal.Refusal.{Refusal}
use Rattle.gptedit_core.specs.declared.refusal.Refusal.TheVariants.{BadBoundaries, NotLaidOut, SharedGuid}

-- n random GUIDs are enough for the job.
abbrev pub asks_random : Job → ℕ → Type 0
asks_random (Apply layout) n = length layout.asked.items ≤ n
asks_random job n = Unit {0}

abbrev pub has_random : Request → Type 0
has_random request = asks_random request.job (length request.random.items)

-- The job makes next of g.
abbrev pub IsDone : Job → List (List ℕ) → GPT → GPT → Type 0
IsDone (Apply layout) randoms g next = IsApplied layout randoms g next
IsDone Sort randoms g next = next ≡ with_entries g (by_rank rank (entries_in g))
IsDone Rewrite randoms g next = next ≡ g

-- The job is refused.
abbrev pub RefusesJob : Job → List (List ℕ) → GPT → Refusal → Type 0
RefusesJob (Apply layout) randoms g r = RefusesAsked layout randoms g r
RefusesJob job randoms g r = ⊥

-- A table with the stated layout may not be written: two entries have the same GUID, or partitions overlap or are
-- outside the usable sectors.
pub data RefusesCheck (g : GPT) (r : Refusal) : Type 0 where
  shared : ¬ HasOwnGuids (entries_in g) → r ≡ SharedGuid → RefusesCheck g r
  boundaries : HasOwnGuids (entries_in g) → ¬ HasGoodBoundaries g.header (entries_in g) → r ≡ BadBoundaries → RefusesCheck g r

-- A request makes next of g on a disk of len bytes: g has the stated layout, and the result of the job may be
-- written.
pub record IsPlanned (request : Request) (len : ℕ) (g next : GPT) : Type 0 where
  pub layout : HasLayout g len
  pub done : IsDone request.job request.random.items g next
  pub may : MayBeWritten next len

-- A request is refused on a disk of len bytes, for the first of these reasons that applies.
pub data RefusesRequest (request : Request) (len : ℕ) (g : GPT) (r : Refusal) : Type 0 where
  not_laid_out : ¬ HasLayout g len → r ≡ NotLaidOut → RefusesRequest request len g r
  not_done : HasLayout g len → RefusesJob request.job request.random.items g r → RefusesRequest request len g r
  not_written : (next : GPT) → HasLayout g len → IsDone request.job request.random.items g next → RefusesCheck next r → RefusesRequest request len g r

-- There is something to write: the table changes, or the job always writes.
abbrev pub IsNeeded : Job → GPT → GPT → Type 0
IsNeeded Rewrite g next = Unit {0}
IsNeeded job g next = g ≢ next

-- The outcome of a change from g to next, and the table new that is left in memory: next if it is to be written, else
-- g.
abbrev pub IsDecided : Bool → Bool → GPT → GPT → GPT → Planned Outcome → Type 0
IsDecided needed dry g next new (Write answer) = (new ≡ next) × (dry ≡ false) × (needed ≡ true) × (answer ≡ Changed g next)
IsDecided needed dry g next new (Leave answer) =
    (new ≡ g) × (((needed ≡ false) × (answer ≡ Unchanged g)) ⊎ ((dry ≡ true) × (needed ≡ true) × (answer ≡ Changed g next)))

-- The table that is written, and the outcome. The plan makes it, the write is needed, and it is not a dry run.
pub record IsWrittenAs (P N : GPT → GPT → Type 0) (dry : Bool) (g next : GPT) (answer : Outcome) : Type 0 where
  pub planned : P g next
  pub needed : N g next
  pub wet : dry ≡ false
  pub outcome : answer ≡ Changed g next

-- The outcome if nothing is written: a refusal, no need to write, or a dry run.
pub data IsLeftAs (P N : GPT → GPT → Type 0) (R : GPT → Refusal → Type 0) (dry : Bool) (g : GPT) (answer : Outcome) : Type 0 where
  is_refused : (r : Refusal) → R g r → answer ≡ Refused g r → IsLeftAs P N R dry g answer
  is_unchanged : (next : GPT) → P g next → (¬ N g next) → answer ≡ Unchanged g → IsLeftAs P N R dry g answer
  is_dry : (next : GPT) → P g next → N g next → dry ≡ true → answer ≡ Changed g next → IsLeftAs P N R dry g answer

-- The table that a request writes, and the outcome; the outcome if it writes nothing.
abbrev pub IsWritten : Request → ℕ → GPT → GPT → Outcome → Type 0
IsWritten request len = IsWrittenAs (IsPlanned request len) (IsNeeded request.job) request.is_dry

abbrev pub IsLeft : Request → ℕ → GPT → Outcome → Type 0
IsLeft request len = IsLeftAs (IsPlanned request len) (IsNeeded request.job) (RefusesRequest request len) request.is_dry

-- The tables differ.
abbrev pub Differs : GPT → GPT → Type 0
Differs g next = g ≢ next

-- A plan itself fails only with an allocation failure. It also asks the disk for its length, which may fail.
abbrev pub IsMemoryFault : {P : Type 0} → P → ℕ → GPT → Fault → Type 0
IsMemoryFault plan len g fault = fault ≡ out_of_memory

abbrev pub MayAsk : {P : Type 0} → P → Type 0
MayAsk plan = Unit {0}
