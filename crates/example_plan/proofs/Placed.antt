-- A partition at the place that was found for it.
use Rattle.std.proofs.Common.{ℕ, sym, subst}
use Rattle.gptman.specs.Crash.{EditsKeepPlaces}
use Rattle.gptman.specs.declared.codec.entry.GPTPartitionEntry.{GPTPartitionEntry}
use Rattle.gptman.specs.declared.edit.Edit.TheVariants.{Put}
use Rattle.gptman.specs.declared.table.GPT.{GPT}
use Rattle.gptman_change.specs.Planning.{AlwaysKeepsPlaces, KeepsPlaces}
use Rattle.example_plan.specs.Adding.{placed, IsWith}

-- It keeps the places of the table, as each edit does.
pub keeps_places : (partition : GPTPartitionEntry) (size : ℕ) → EditsKeepPlaces → AlwaysKeepsPlaces (IsWith partition size)
keeps_places partition size edits table next first added =
    subst (λ (g : GPT). KeepsPlaces table g) (sym added.next_is) (record {
      places = (edits table (Put added.number (placed partition size first)) 0).0;
      layout = λ len. (edits table (Put added.number (placed partition size first)) len).1;
    })
