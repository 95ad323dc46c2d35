-- The ranges for which a plan asks.
use Rattle.std.proofs.Common.{◌≡◌, ◌≤◌, inl, Bool, ℕ, List, ◌∷◌, length, sym, ◌∙◌, subst, arith, length-append}
use Rattle.std.specs.Prelude.{Option, None, Some, Result, Ok, Err, IfSome}
use Rattle.gptman.specs.Copy.{Copy}
use Rattle.gptman.specs.Fault.{Fault, fault_of}
use Rattle.gptman.specs.Reading.{reading_of}
use Rattle.gptman.specs.Table.{grow_to, table_in}
use Rattle.gptman.specs.TableReads.{copy_of}
use Rattle.gptman.specs.declared.table.GPT.{GPT}
use Rattle.gptman_plan.specs.Asking.{AsksAmong, AsksNothing, fit_ranges, fitted_ranges, plan_ranges, table_ranges, value_ranges}
use Rattle.gptman_plan.specs.Crossing.{four_ranges}
use Rattle.gptman_plan.specs.Ends.{IsDiskOf}
use Rattle.gptman_plan.specs.Planning.{fitted, needed_after, refusal_number}
use Rattle.gptman_plan.specs.Reading.{IsTable, OfEvery}
use Rattle.gptman_plan.specs.Rounds.{IsAmong, first_sector, reading_ranges}
use Rattle.gptman_plan.specs.declared.planning.PlanError.{PlanError}
use Rattle.gptman_plan.specs.declared.planning.PlanError.TheVariants.{BadArgument, Refused, Lacks, OtherLength, OtherLayout}
use Rattle.gptman_plan.specs.declared.reading.Lack.{Lack}
use Rattle.gptman_plan.specs.declared.records.Needed.{Needed}
use Rattle.gptman_plan.proofs.Asked.{among_right}
use Rattle.gptman_plan.proofs.Refused.{within_16}
use Rattle.gptman_plan.proofs.Rounded.{few_places}
use Rattle.gptman_plan.specs.declared.ends.Ends.{Ends}

-- ---- the ranges of a table

-- the range that had to be known is the first
pub first_among : (from len : ℕ) (more : List (ℕ × ℕ)) (o : Option Lack) → IfSome o (λ lack. (lack.from ≡ from) × (lack.length ≡ len))
    → IfSome o (λ lack. IsAmong (lack.from, lack.length) ((from, len) ∷ more))
first_among from len more None asked = tt
first_among from len more (Some lack) asked = inl (λ i. (asked.0 i, asked.1 i))

-- each of these places is one of those
pub some_among : (places more : List (ℕ × ℕ)) → ((range : ℕ × ℕ) → IsAmong range places → IsAmong range more) → (o : Option Lack)
    → IfSome o (λ lack. IsAmong (lack.from, lack.length) places) → IfSome o (λ lack. IsAmong (lack.from, lack.length) more)
some_among places more wider None asked = tt
some_among places more wider (Some lack) asked = wider (lack.from, lack.length) asked

-- a property of the value, if there is one
pub if_some : (P : Lack → Type 0) (o : Option Lack) (lack : Lack) → o ≡ Some lack → IfSome o P → P lack
if_some P o lack is holds = subst (λ p. IfSome p P) is holds

-- ---- a refusal

module _ (e : Ends) where
  abbrev Places : Type 0
  Places = List ℕ → List (ℕ × ℕ)

  -- places among more places
  pub asks_as : (places more : Places) → ((b : List ℕ) → IsDiskOf e b → (range : ℕ × ℕ) → IsAmong range (places b) → IsAmong range (more b))
      → (r : PlanError) → AsksAmong places e r → AsksAmong more e r
  asks_as places more wider BadArgument asks = tt
  asks_as places more wider (Refused error) asks = tt
  asks_as places more wider (Lacks lack) asks = λ b ends. wider b ends (lack.from, lack.length) (asks b ends)
  asks_as places more wider OtherLength asks = tt
  asks_as places more wider OtherLayout asks = tt

  -- a refusal that asks for nothing
  pub asks_none : (places : Places) (r : PlanError) → AsksNothing r → AsksAmong places e r
  asks_none places BadArgument asks = tt
  asks_none places (Refused error) asks = tt
  asks_none places (Lacks lack) asks = absurd asks
  asks_none places OtherLength asks = tt
  asks_none places OtherLayout asks = tt

  asked_of : (places : Places) (r : PlanError) (needed : Needed) → AsksAmong places e r → refusal_number r ≡ 103
      → OfEvery e (λ b. IsAmong ((needed_after r needed).from, (needed_after r needed).length) (places b))
  asked_of places BadArgument needed asks seventeen = absurd (omega (arith, seventeen))
  asked_of places (Refused error) needed asks seventeen = absurd (omega (arith, (within_16 (fault_of error)).1, seventeen))
  asked_of places (Lacks lack) needed asks seventeen = asks
  asked_of places OtherLength needed asks seventeen = absurd (omega (arith, seventeen))
  asked_of places OtherLayout needed asks seventeen = absurd (omega (arith, seventeen))

  -- the range that the call returns
  pub answer_asked : (places : Places) (r : PlanError) → AsksAmong places e r → (answer : ℕ) → answer ≡ refusal_number r → (old new : Needed) → new ≡ needed_after r old
      → answer ≡ 103 → OfEvery e (λ b. IsAmong (new.from, new.length) (places b))
  answer_asked places r asks answer is old new told seventeen =
      subst (λ (n : Needed). OfEvery e (λ b. IsAmong (n.from, n.length) (places b))) (sym told) (asked_of places r old asks (sym is ∙ seventeen))

  -- ---- a table that was read

  module _ (ss : ℕ) (g : GPT) (is_backup : Bool) (read : IsTable e ss g is_backup) (range : ℕ × ℕ) where
    -- its places
    pub plan_place : IsAmong range (value_ranges g e.size) → OfEvery e (λ b. IsAmong range (plan_ranges b ss))
    plan_place is b ends =
        let here : IsAmong range (table_ranges ss (length b) (Ok (copy_of g))) =
        subst (λ (n : ℕ). IsAmong range (four_ranges (table_in g) ss n)) (sym ends.long) (subst (λ (n : ℕ). IsAmong range (four_ranges (table_in g) n e.size)) read.sector is) in
        among_right (reading_ranges b ss) (table_ranges ss (length b) (reading_of b ss)) range
        (subst (λ (r : Result Copy Fault). IsAmong range (table_ranges ss (length b) r)) (sym (read.reading b ends)) here)

    -- its places after it is fitted
    pub fit_place : (next : GPT) → next ≡ grow_to g e.size → IsAmong range (value_ranges next e.size) → OfEvery e (λ b. IsAmong range (fit_ranges b ss))
    fit_place next made is b ends =
        let grown : IsAmong range (value_ranges (grow_to g e.size) e.size) = subst (λ (t : GPT). IsAmong range (value_ranges t e.size)) made is in
        let sized : IsAmong range (fitted_ranges ss e.size (Ok (copy_of g))) = subst (λ (n : ℕ). IsAmong range (four_ranges (fitted (copy_of g) n e.size) n e.size)) read.sector grown in
        let here : IsAmong range (fitted_ranges ss (length b) (Ok (copy_of g))) = subst (λ (n : ℕ). IsAmong range (fitted_ranges ss n (Ok (copy_of g)))) (sym ends.long) sized in
        among_right (reading_ranges b ss) (fitted_ranges ss (length b) (reading_of b ss)) range
        (subst (λ (r : Result Copy Fault). IsAmong range (fitted_ranges ss (length b) r)) (sym (read.reading b ends)) here)

-- ---- the first sector

-- ---- their number

few_of_table : (ss len : ℕ) (r : Result Copy Fault) → length (table_ranges ss len r) ≤ 4
few_of_table ss len (Ok copy) = omega arith
few_of_table ss len (Err fault) = omega arith

few_of_fitted : (ss len : ℕ) (r : Result Copy Fault) → length (fitted_ranges ss len r) ≤ 4
few_of_fitted ss len (Ok copy) = omega arith
few_of_fitted ss len (Err fault) = omega arith

pub few_to_plan : (b : List ℕ) (ss : ℕ) → length (first_sector ∷ plan_ranges b ss) ≤ 9
few_to_plan b ss = omega (arith, length-append (reading_ranges b ss) (table_ranges ss (length b) (reading_of b ss)), few_places b ss, few_of_table ss (length b) (reading_of b ss))

pub few_to_fit : (b : List ℕ) (ss : ℕ) → length (first_sector ∷ fit_ranges b ss) ≤ 9
few_to_fit b ss = omega (arith, length-append (reading_ranges b ss) (fitted_ranges ss (length b) (reading_of b ss)), few_places b ss, few_of_fitted ss (length b) (reading_of b ss))

pub few_of_value : (g : GPT) (len : ℕ) → length (first_sector ∷ value_ranges g len) ≤ 5
few_of_value g len = omega arith
