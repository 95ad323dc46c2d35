-- The plan of the table that was read, with other entries.
use Rattle.std.proofs.Common.{◌≡◌, ◌≤◌, ◌<◌, ⊎_elim, inl, inr, ℕ, List, [], ◌∷◌, length, map, sym, ◌∙◌, subst}
use Rattle.std.proofs.lemmas.List.{length-map}
use Rattle.gptman.specs.Copy.{IsCoherent}
use Rattle.gptman.specs.Crash.{other_place}
use Rattle.gptman.specs.Layout.{HasLayout, Holds, IsLaidOut, copy_ranges_at}
use Rattle.gptman.specs.Ranges.{AreClear}
use Rattle.gptman.specs.Reading.{CopyPlace, primary, backup, taken_from}
use Rattle.gptman.specs.Stop.{HoldsOneOf}
use Rattle.gptman.specs.Table.{Table, entries_in, table_in, table_of, IsHeaderForm}
use Rattle.gptman.specs.TableReads.{copy_of}
use Rattle.gptman.specs.declared.codec.header.GPTHeader.{GPTHeader}
use Rattle.gptman.specs.declared.table.GPT.{GPT}
use Rattle.gptman.proofs.FourRanges.{sides_clear}
use Rattle.gptman.proofs.ReadingLaw.{holds_what_is_read}
use Rattle.gptman_plan.specs.Asking.{AsksAmong, plan_ranges, value_ranges}
use Rattle.gptman_plan.specs.Crossing.{content_in, content_of, four_ranges}
use Rattle.gptman_plan.specs.Ends.{IsDiskOf}
use Rattle.gptman_plan.specs.Plan.{Act, LeftBy}
use Rattle.gptman_plan.specs.Planning.{Cause, IsPlan, IsPlanRefusal, IsReplaced, IsTablePlan, IsTableRefusal, IsUnfit, IsWrittenPlan, StopsPlan, StopsTable, rewritten}
use Rattle.gptman_plan.specs.Planning.Cause.{bad_argument, a_fault, other_length, other_layout}
use Rattle.gptman_plan.specs.Planning.RefusesPlan.{is_unfit}
use Rattle.gptman_plan.specs.Reading.{IsStatedTable, OfEvery, copy_place_of}
use Rattle.gptman_plan.specs.Rounds.{IsAmong}
use Rattle.gptman_plan.specs.declared.ends.Ends.{Ends}
use Rattle.gptman_plan.specs.declared.planning.PlanError.{PlanError}
use Rattle.gptman_plan.specs.declared.records.Partition.{Partition}
use Rattle.gptman_plan.proofs.AskedPlans.{asks_as, plan_place}
use Rattle.gptman_plan.proofs.Refused.{refused_as}

-- the two places of a table share no byte
clear_sides : (side : CopyPlace) (t : Table) (ss len : ℕ) → IsLaidOut t ss len → AreClear (copy_ranges_at side t ss len) (copy_ranges_at (other_place side) t ss len)
clear_sides primary t ss len laid = sides_clear backup t ss len laid
clear_sides backup t ss len laid = sides_clear primary t ss len laid

-- as many entries as before, and a header with the same sizes: a write of this table can be planned
pub ready : (e : Ends) (ss : ℕ) (g next : GPT) → IsStatedTable e ss g → 0 < ss → ss ≤ e.size → 0 < g.header.number_of_partition_entries
    → next.sector_size ≡ ss → length (entries_in next) ≡ g.header.number_of_partition_entries → next.header.number_of_partition_entries ≡ g.header.number_of_partition_entries
    → next.header.header_size ≡ g.header.header_size → next.header.size_of_partition_entry ≡ g.header.size_of_partition_entry
    → (0 < next.sector_size) × (next.sector_size ≤ e.size) × (0 < next.header.number_of_partition_entries) × IsCoherent next.header (entries_in next)
ready e ss g next stated above room some sector long count header_size entry_size =
    let was = stated.read.value.coherent in (
      subst (λ (n : ℕ). 0 < n) (sym sector) above,
      subst (λ (n : ℕ). n ≤ e.size) (sym sector) room,
      subst (λ (n : ℕ). 0 < n) (sym count) some,
      record {
        header_size = header_size ∙ was.header_size;
        count = long ∙ sym count;
        entry_size = ⊎_elim (λ is. inl (entry_size ∙ is)) (λ none. inr (count ∙ none)) was.entry_size;
      },
    )

module _ (e : Ends) (ss : ℕ) (g next : GPT) (partitions : List Partition) (stated : IsStatedTable e ss g) (count : length partitions ≡ g.header.number_of_partition_entries)
    (contents : map content_in (entries_in next) ≡ map content_of partitions) (sector : next.sector_size ≡ ss) (header : next.header ≡ g.header) where
  abbrev written : Table
  written = rewritten (copy_of g) partitions

  made : table_in next ≡ written
  made = (λ i. table_of (header i) (entries_in next)) ∙ (λ i. record (table_in g) { entries = contents i })

  -- The table with other entries, as many as before, has the stated layout too.
  laid : IsLaidOut written ss e.size
  laid = let was = stated.laid_out in record {
    sector = was.sector;
    signature = was.signature;
    revision = was.revision;
    header_size = was.header_size;
    entry_size = was.entry_size;
    entries = length-map partitions _ ∙ count;
    low_sector = was.low_sector;
    high_sector = was.high_sector;
    inside = was.inside;
    apart = was.apart;
    fits = was.fits;
  }

  layout : HasLayout next e.size
  layout = record {
    table = subst (λ (n : ℕ). IsLaidOut (table_in next) n e.size) (sym sector) (subst (λ (t : Table). IsLaidOut t ss e.size) (sym made) laid);
    side = copy_place_of stated.is_backup;
    form = subst (λ (h : GPTHeader). IsHeaderForm (copy_place_of stated.is_backup) h) (sym header) stated.form;
  }

  -- ---- the plan

  module _ (b : List ℕ) (ends : IsDiskOf e b) where
    form : IsHeaderForm (taken_from b ss) g.header
    form = subst (λ (side : CopyPlace). IsHeaderForm side g.header) (sym (stated.read.from b ends)) stated.form

    laid_here : IsLaidOut (table_in g) ss (length b)
    laid_here = subst (λ (n : ℕ). IsLaidOut (table_in g) ss n) (sym ends.long) stated.laid_out

    module _ (acts : List Act) (plan : IsTablePlan b next acts) where
      written_here : IsWrittenPlan b ss written acts
      written_here = subst (λ (t : Table). IsWrittenPlan b ss t acts) made (subst (λ (n : ℕ). IsWrittenPlan b n (table_in next) acts) sector plan.written)

      replaced : IsReplaced (taken_from b ss) b ss (table_in g) written acts
      replaced =
          let form_next : IsHeaderForm (taken_from b ss) next.header = subst (λ (h : GPTHeader). IsHeaderForm (taken_from b ss) h) (sym header) form in
          subst (λ (t : Table). IsReplaced (taken_from b ss) b ss (table_in g) t acts) made
          (subst (λ (n : ℕ). IsReplaced (taken_from b ss) b n (table_in g) (table_in next) acts) sector (plan.replaced (taken_from b ss) form_next (table_in g)))

      -- The new table has the places of the old one, and the copy that was read is not written first.
      stops : (x : List ℕ) → LeftBy b acts x → HoldsOneOf x ss (table_in g ∷ written ∷ [])
      stops x left =
          let held : Holds b ss (taken_from b ss) (table_in g) = holds_what_is_read b ss (copy_of g) (stated.read.reading b ends) form in
          replaced held (clear_sides (taken_from b ss) (table_in g) ss (length b) laid_here) x left

      pub write_plan : IsPlan b ss partitions acts
      write_plan = record {
        copy = copy_of g;
        taken = stated.read.reading b ends;
        form = form;
        laid_out = laid_here;
        written = written_here;
        stops = stops;
      }

  -- ---- why there is none

  pub write_refused : (r : PlanError) → IsTableRefusal e next r → IsPlanRefusal e ss partitions r
  write_refused r refused = refused_as (StopsTable next e.size) (λ cause. OfEvery e (λ b. StopsPlan b ss partitions cause)) e by_cause r refused
    where
      by_cause : (cause : Cause) → StopsTable next e.size cause → OfEvery e (λ b. StopsPlan b ss partitions cause)
      by_cause bad_argument none = absurd none
      by_cause (a_fault fault) why = λ b ends. is_unfit (copy_of g) (stated.read.reading b ends)
          (subst (λ (n : ℕ). IsUnfit g.header ss partitions n fault) (sym ends.long)
          (record { value = next; header_is = header; sector = sector; entries = contents; why = why }))
      by_cause other_length none = absurd none
      by_cause other_layout not = absurd (not layout)

  -- it asks only for places of the table that was read
  pub write_asked : (r : PlanError) → AsksAmong (λ _. value_ranges next e.size) e r → AsksAmong (λ b. plan_ranges b ss) e r
  write_asked r asks = asks_as e (λ _. value_ranges next e.size) (λ b. plan_ranges b ss)
      (λ b ends range is. plan_place e ss g stated.is_backup stated.read range (of_read range is) b ends) r asks
    where
      of_read : (range : ℕ × ℕ) → IsAmong range (value_ranges next e.size) → IsAmong range (value_ranges g e.size)
      of_read range is = subst (λ (n : ℕ). IsAmong range (four_ranges (table_in g) n e.size)) (sector ∙ sym stated.read.sector)
          (subst (λ (t : Table). IsAmong range (four_ranges t next.sector_size e.size)) made is)
