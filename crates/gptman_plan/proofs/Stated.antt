-- A table without the stated layout is not written.
use Rattle.std.proofs.Common.{ℕ, Bool, sym, subst}
use Rattle.gptman.specs.Layout.{HasRightSectors, IsLaidOut}
use Rattle.gptman.specs.Reading.{CopyPlace}
use Rattle.gptman.specs.Table.{table_in, IsHeaderForm}
use Rattle.gptman.specs.TableReads.{copy_of}
use Rattle.gptman.specs.declared.table.GPT.{GPT}
use Rattle.gptman_plan.specs.Planning.{IsOfOtherLayout, IsOfOtherLength}
use Rattle.gptman_plan.specs.Reading.{IsTable, OfEvery, copy_place_of}
use Rattle.gptman_plan.specs.declared.ends.Ends.{Ends}

module _ (e : Ends) (ss : ℕ) (g : GPT) (is_backup : Bool) (told : IsTable e ss g is_backup) where
  pub other_length : ¬ HasRightSectors (table_in g) g.sector_size e.size → OfEvery e (λ b. IsOfOtherLength b ss)
  other_length not b ends = record {
    copy = copy_of g;
    taken = told.reading b ends;
    other = λ made. not (subst (λ (n : ℕ). HasRightSectors (table_in g) n e.size) (sym told.sector) (subst (λ (n : ℕ). HasRightSectors (table_in g) ss n) ends.long made));
  }

  pub other_layout : HasRightSectors (table_in g) g.sector_size e.size → ¬ (IsHeaderForm (copy_place_of is_backup) g.header × IsLaidOut (table_in g) g.sector_size e.size)
      → OfEvery e (λ b. IsOfOtherLayout b ss)
  other_layout made not b ends = record {
    copy = copy_of g;
    taken = told.reading b ends;
    made = subst (λ (n : ℕ). HasRightSectors (table_in g) ss n) (sym ends.long) (subst (λ (n : ℕ). HasRightSectors (table_in g) n e.size) told.sector made);
    other = λ stated. not (
      subst (λ (side : CopyPlace). IsHeaderForm side g.header) (told.from b ends) stated.0,
      subst (λ (n : ℕ). IsLaidOut (table_in g) n e.size) (sym told.sector) (subst (λ (n : ℕ). IsLaidOut (table_in g) ss n) ends.long stated.1),
    );
  }
