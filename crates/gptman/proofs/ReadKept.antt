-- A table that was read in the form of its place is one good copy for the next write.
use Rattle.std.proofs.Common.{ℕ, List, refl, sym, subst}
use Rattle.gptman_disk.specs.Disk.{DiskState}
use Rattle.gptman.specs.Crash.{EditListsKeepPlaces, EditsKeepPlaces, HasPlacesOf, KeepsWhatIsRead, TakesInForm}
use Rattle.gptman.specs.Edit.{after_edit, edited_all}
use Rattle.gptman.specs.Layout.{Holds}
use Rattle.gptman.specs.Reading.{primary, copy_in, taken_from}
use Rattle.gptman.specs.Table.{table_in}
use Rattle.gptman.specs.TableReads.{copy_of}
use Rattle.gptman.specs.declared.table.GPT.{GPT}
use Rattle.gptman.proofs.Commits.{coherent_still, edited_keeps, form_still, layout_still, list_keeps, same_ranges_too, KeepsRanges}
use Rattle.gptman.proofs.OneGood.{held_is_kept}
use Rattle.gptman.proofs.ReadingLaw.{taken_cases}

pub takes_in_form : (view : List ℕ) → TakesInForm view
takes_in_form view g taken form = record {
  side = taken_from view g.sector_size;
  accepted = taken_cases view g.sector_size (copy_of g) (copy_in primary view g.sector_size) refl taken;
  form = form;
}

pub keeps_what_is_read : (disk : DiskState) → KeepsWhatIsRead disk
keeps_what_is_read disk g next honest synced read places layout =
    let held : Holds disk.view g.sector_size read.side (table_in g) = record {
      copy = copy_of g;
      accepted = read.accepted;
      form = record { table = refl; form = read.form };
    } in
    record {
      start = record { honest = honest; layout = layout };
      kept = held_is_kept read.side disk next (table_in g) synced (places.form read.side read.form)
          (subst (λ (n : ℕ). Holds disk.view n read.side (table_in g)) (sym places.sector) held) layout places.ranges;
    }

pub has_places : (g next : GPT) → KeepsRanges g next → HasPlacesOf g next
has_places g next keeps = record { sector = keeps.sector; form = form_still g next keeps; ranges = same_ranges_too g next keeps }

pub edits_keep_places : EditsKeepPlaces
edits_keep_places g edit len =
    let keeps = edited_keeps g edit in (has_places g (after_edit g edit) keeps, layout_still g (after_edit g edit) keeps len)

pub edit_lists_keep_places : EditListsKeepPlaces
edit_lists_keep_places g edits len =
    let next = edited_all g edits in
    let keeps = list_keeps g edits in (has_places g next keeps, layout_still g next keeps len, coherent_still g next keeps)
