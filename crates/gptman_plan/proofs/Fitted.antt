-- A table that is fitted to the length of the disk.
use Rattle.std.proofs.Common.{◌≡◌, ◌≢◌, ◌≤◌, ◌<◌, ◌/◌, ◌*◌, ◌||◌, ◌⊎◌, ⊎_elim, inl, inr, Bool, true, false, ℕ, ◌+◌, ◌-◌, List, [], ◌∷◌, length, refl, sym, ap, subst, arith}
use Rattle.std.specs.Prelude.{if◌then◌else◌, nat_eq, Option, None, Some, Ok}
use Rattle.std.proofs.Math.Nat.{mul-le-mul_left}
use Rattle.std.proofs.lemmas.Bool.{eqb-false, ltb-false}
use Rattle.gptman.specs.Copy.{IsCoherent}
use Rattle.gptman.specs.Fault.{Fault, fault_of, io, overflow}
use Rattle.gptman.specs.Fit.{array_sectors, array_size, fit_fault, fit_header, is_too_small}
use Rattle.gptman.specs.Layout.{HasLayout, Holds, IsLaidOut}
use Rattle.gptman.specs.Reading.{CopyPlace, primary, backup, reading_of, taken_from}
use Rattle.gptman.specs.Stop.{HoldsOneOf}
use Rattle.gptman.specs.Table.{entries_in, grow_to, table_in, IsHeaderForm, IsInForm}
use Rattle.gptman.specs.TableReads.{copy_of}
use Rattle.gptman.specs.TableWrites.{RefusesTable}
use Rattle.gptman.specs.declared.codec.entry.GPTPartitionEntry.{GPTPartitionEntry}
use Rattle.gptman.specs.declared.codec.header.GPTHeader.{GPTHeader}
use Rattle.gptman.specs.Error.{Error}
use Rattle.gptman.specs.declared.table.GPT.{GPT}
use Rattle.gptman.proofs.FourRanges.{sides_clear}
use Rattle.gptman.proofs.ReadingLaw.{holds_what_is_read}
use Rattle.gptman_plan.specs.Ends.{IsDiskOf}
use Rattle.gptman_plan.specs.Plan.{Act, LeftBy}
use Rattle.gptman_plan.specs.Planning.{Cause, IsFitPlan, IsFitRefusal, IsNotStatedToFit, IsOfFault, IsSizeRefusal, IsStatedToFit, IsTablePlan, IsTableRefusal, IsUnfitTable, StopsFit, StopsTable}
use Rattle.gptman_plan.specs.Planning.Cause.{bad_argument, a_fault, other_length, other_layout}
use Rattle.gptman_plan.specs.Planning.RefusesFit.{does_not_fit, is_unfit_fitted}
use Rattle.gptman_plan.specs.Reading.{IsTable, OfEvery, copy_place_of}
use Rattle.gptman_plan.specs.declared.planning.PlanError.{PlanError}
use Rattle.gptman_plan.proofs.Refused.{fault_as, refused_as}
use Rattle.gptman_plan.specs.declared.ends.Ends.{Ends}

-- ---- a header that fits

fits_cases : (h : GPTHeader) (ss len : ℕ) (none small : Bool) → nat_eq (array_size h) 0 ≡ none → is_too_small (len / ss) (array_sectors h ss) ≡ small
    → ◌≡◌ {A = Option Fault} (if none || small then Some overflow else None) None → (array_size h ≢ 0) × (2 ≤ len / ss)
fits_cases h ss len true small is_none is_small fits = absurd (cc)
fits_cases h ss len false true is_none is_small fits = absurd (cc)
fits_cases h ss len false false is_none is_small fits =
    (eqb-false (array_size h) 0 is_none, omega (arith, ltb-false (len / ss) (array_sectors h ss + 2) is_small))

-- It counts entries, and the disk has a sector.
pub fits_room : (h : GPTHeader) (ss len : ℕ) → 0 < ss → fit_fault h ss len ≡ None → (0 < h.number_of_partition_entries) × (ss ≤ len)
fits_room h ss len above fits =
    let two = fits_cases h ss len (nat_eq (array_size h) 0) (is_too_small (len / ss) (array_sectors h ss)) refl refl fits in
    let some : h.number_of_partition_entries ≢ 0 = λ none. two.0 (omega (arith, ap (λ (n : ℕ). n * h.size_of_partition_entry) none)) in
    (omega (arith, some), omega (arith, above, mul-le-mul_left ss two.1))

-- The fitted header still describes the entries,
pub coherent_fitted : (h : GPTHeader) (es : List GPTPartitionEntry) (ss len : ℕ) → IsCoherent h es → IsCoherent (fit_header h ss len) es
coherent_fitted h es ss len coherent = record { header_size = coherent.header_size; count = coherent.count; entry_size = coherent.entry_size }

-- so its write can be planned,
pub ready : (g next : GPT) (size : ℕ) → 0 < g.sector_size → IsCoherent g.header (entries_in g) → next ≡ grow_to g size → fit_fault g.header g.sector_size size ≡ None
    → (0 < next.sector_size) × (next.sector_size ≤ size) × (0 < next.header.number_of_partition_entries) × IsCoherent next.header (entries_in next)
ready g next size above coherent is fits =
    let room = fits_room g.header g.sector_size size above fits in
    subst (λ (t : GPT). (0 < t.sector_size) × (t.sector_size ≤ size) × (0 < t.header.number_of_partition_entries) × IsCoherent t.header (entries_in t)) (sym is)
    (above, room.1, room.0, coherent_fitted g.header (entries_in g) g.sector_size size coherent)

-- and it is a primary header if it was one.
form_fitted : (h : GPTHeader) (ss len : ℕ) → IsHeaderForm primary h → IsHeaderForm primary (fit_header h ss len)
form_fitted h ss len form = (
  ap (λ (k : ℕ). if nat_eq k 1 then k else (len / ss - 1)) form.0,
  ap (λ (k : ℕ). if nat_eq k 2 then k else (len / ss - array_sectors h ss - 2 + 1)) form.1,
)

-- ---- the result

-- the error of a disk that did not fail
pub settled_err : (fault : Option Fault) (e : Error) (before after : ℕ) → after ≡ 0 → (Some (fault_of e) ≡ fault) ⊎ ((fault_of e ≡ io) × ((before < after) ⊎ (18446744073709551615 ≤ after)))
    → fault ≡ Some (fault_of e)
settled_err fault e before after none settles = ⊎_elim
    (λ is. sym is)
    (λ failed. absurd (⊎_elim (λ more. omega (arith, none, more)) (λ most. omega (arith, none, most)) failed.1))
    settles

-- ---- the plan

-- the header of a value in the stated layout has one of the two forms
pub in_form : (g : GPT) (len : ℕ) → HasLayout g len → IsInForm g.header
in_form g len layout = by_side layout.side layout.form
  where
    by_side : (side : CopyPlace) → IsHeaderForm side g.header → IsInForm g.header
    by_side primary form = inl form
    by_side backup form = inr form

-- and a value in such a form whose table is laid out has the stated layout
pub has_layout : (g : GPT) (len : ℕ) → IsInForm g.header → IsLaidOut (table_in g) g.sector_size len → HasLayout g len
has_layout g len form laid = ⊎_elim (λ at. record { table = laid; side = primary; form = at }) (λ at. record { table = laid; side = backup; form = at }) form

module _ (b : List ℕ) (g : GPT) (acts : List Act) (taken : reading_of b g.sector_size ≡ Ok (copy_of g)) (form : IsHeaderForm (taken_from b g.sector_size) g.header)
    (plan : IsTablePlan b (grow_to g (length b)) acts) where
  abbrev grown : GPT
  grown = grow_to g (length b)

  held : taken_from b g.sector_size ≡ primary → Holds b g.sector_size primary (table_in g)
  held from = subst (λ (side : CopyPlace). Holds b g.sector_size side (table_in g)) from (holds_what_is_read b g.sector_size (copy_of g) taken form)

  -- the primary copy keeps its place, which the backup copy does not overlap
  stops : taken_from b g.sector_size ≡ primary → (x : List ℕ) → LeftBy b acts x → HoldsOneOf x g.sector_size (table_in g ∷ table_in grown ∷ [])
  stops from x left =
      let at : IsHeaderForm primary g.header = subst (λ (side : CopyPlace). IsHeaderForm side g.header) from form in
      plan.replaced primary (form_fitted g.header g.sector_size (length b) at) (table_in g) (held from) (sides_clear backup (table_in grown) g.sector_size (length b) plan.layout.table) x left

  fit_here : IsFitPlan b g.sector_size acts
  fit_here = record {
    copy = copy_of g;
    taken = taken;
    stated = record { form = form; fitted_form = in_form grown (length b) plan.layout; laid_out = plan.layout.table };
    written = plan.written;
    stops = stops;
  }

-- ---- for every disk with these ends

module _ (e : Ends) (ss : ℕ) (g : GPT) (is_backup : Bool) (told : IsTable e ss g is_backup) where
  read_so : (b : List ℕ) → reading_of b ss ≡ Ok (copy_of g) → reading_of b g.sector_size ≡ Ok (copy_of g)
  read_so b is = subst (λ (n : ℕ). reading_of b n ≡ Ok (copy_of g)) (sym told.sector) is

  form_so : IsHeaderForm (copy_place_of is_backup) g.header → (b : List ℕ) → IsDiskOf e b → IsHeaderForm (taken_from b g.sector_size) g.header
  form_so form b ends =
      subst (λ (n : ℕ). IsHeaderForm (taken_from b n) g.header) (sym told.sector) (subst (λ (side : CopyPlace). IsHeaderForm side g.header) (sym (told.from b ends)) form)

  pub fit_plan : IsHeaderForm (copy_place_of is_backup) g.header → (next : GPT) (acts : List Act) → next ≡ grow_to g e.size → OfEvery e (λ b. IsTablePlan b next acts)
      → OfEvery e (λ b. IsFitPlan b ss acts)
  fit_plan form next acts is plan b ends =
      let here : IsTablePlan b (grow_to g (length b)) acts =
      subst (λ (n : ℕ). IsTablePlan b (grow_to g n) acts) (sym ends.long) (subst (λ (t : GPT). IsTablePlan b t acts) is (plan b ends)) in
      subst (λ (n : ℕ). IsFitPlan b n acts) told.sector (fit_here b g acts (read_so b (told.reading b ends)) (form_so form b ends) here)

  -- a copy that is not in the form of its place
  pub not_of_side : ¬ IsHeaderForm (copy_place_of is_backup) g.header → OfEvery e (λ b. IsNotStatedToFit b ss)
  not_of_side not b ends = record {
    copy = copy_of g;
    taken = told.reading b ends;
    other = λ stated. not (subst (λ (side : CopyPlace). IsHeaderForm side g.header) (told.from b ends) stated.form);
  }

  pub size_refused : (r : PlanError) → IsSizeRefusal e g r → IsFitRefusal e ss r
  size_refused r refused =
      let why : Fault → Type 0 = λ fault. fit_fault g.header g.sector_size e.size ≡ Some fault in
      refused_as (IsOfFault why) (λ cause. OfEvery e (λ b. StopsFit b ss cause)) e
      (fault_as why (λ cause. OfEvery e (λ b. StopsFit b ss cause)) (λ fault is b ends. does_not_fit (copy_of g) (told.reading b ends)
      (subst (λ (n : ℕ). fit_fault g.header n (length b) ≡ Some fault) told.sector (subst (λ (n : ℕ). fit_fault g.header g.sector_size n ≡ Some fault) (sym ends.long) is))))
      r refused

  unfit : (next : GPT) (fault : Fault) (len : ℕ) → next ≡ grow_to g len → RefusesTable next len fault → IsUnfitTable (fit_header g.header ss len) ss (entries_in g) len fault
  unfit next fault len is why = record {
    value = next;
    header_is = subst (λ (n : ℕ). next.header ≡ fit_header g.header n len) told.sector (ap (λ (t : GPT). t.header) is);
    sector = subst (λ (n : ℕ). next.sector_size ≡ n) told.sector (ap (λ (t : GPT). t.sector_size) is);
    entries_are = ap (λ (t : GPT). entries_in t) is;
    why = why;
  }

  -- a fitted table without the stated layout
  not_laid_out : (next : GPT) → next ≡ grow_to g e.size → ¬ HasLayout next e.size → OfEvery e (λ b. IsNotStatedToFit b ss)
  not_laid_out next is not b ends = record {
    copy = copy_of g;
    taken = told.reading b ends;
    other = λ stated.
        let at : IsStatedToFit b g.sector_size (copy_of g) = subst (λ (n : ℕ). IsStatedToFit b n (copy_of g)) (sym told.sector) stated in
        let here : HasLayout (grow_to g (length b)) (length b) = has_layout (grow_to g (length b)) (length b) at.fitted_form at.laid_out in
        not (subst (λ (t : GPT). HasLayout t e.size) (sym is) (subst (λ (n : ℕ). HasLayout (grow_to g n) n) ends.long here));
  }

  pub table_refused : (next : GPT) → next ≡ grow_to g e.size → (r : PlanError) → IsTableRefusal e next r → IsFitRefusal e ss r
  table_refused next is r refused = refused_as (StopsTable next e.size) (λ cause. OfEvery e (λ b. StopsFit b ss cause)) e by_cause r refused
    where
      by_cause : (cause : Cause) → StopsTable next e.size cause → OfEvery e (λ b. StopsFit b ss cause)
      by_cause bad_argument none = absurd none
      by_cause (a_fault fault) why = λ b ends. is_unfit_fitted (copy_of g) (told.reading b ends)
          (subst (λ (n : ℕ). IsUnfitTable (fit_header g.header ss n) ss (entries_in g) n fault) (sym ends.long) (unfit next fault e.size is why))
      by_cause other_length none = absurd none
      by_cause other_layout not = not_laid_out next is not
