-- A request keeps the places of the table, at each step.
use Rattle.std.proofs.Common.{◌≡◌, ℕ, List, [], ◌∷◌, refl, sym, subst}
use Rattle.std.specs.Prelude.{Option, Some, None, Result, Ok, Err, unwrap_or}
use Rattle.gptman.specs.Coding.{empty_entry}
use Rattle.gptman.specs.Copy.{IsCoherent}
use Rattle.gptman.specs.Layout.{HasLayout}
use Rattle.gptman.specs.Number.{entry_of_number, with_entry}
use Rattle.gptman.specs.Table.{entries_in}
use Rattle.gptman.specs.declared.codec.entry.GPTPartitionEntry.{GPTPartitionEntry}
use Rattle.gptman.specs.declared.edit.Edit.TheVariants.{Put, SortEntries}
use Rattle.gptman.specs.declared.table.GPT.{GPT}
use Rattle.gptman.proofs.Commits.{coherent_still, edited_keeps, keeps_both, layout_still, KeepsRanges}
use Rattle.gptman.proofs.ReadKept.{has_places}
use Rattle.gptman_change.specs.Planning.{KeepsPlaces}
use Rattle.gptedit_core.specs.Applying.{cleared, removed_all, removed_one, rest_numbers, without_entry, is_blank, AreExtended, ArePut, IsExtendedFrom}
use Rattle.gptedit_core.specs.Planning.{IsDone}
use Rattle.gptedit_core.specs.declared.plan.Job.{Job}
use Rattle.gptedit_core.specs.declared.plan.Job.TheVariants.{Apply, Sort, Rewrite}
use Rattle.gptedit_core.specs.declared.refusal.Refusal.{Refusal}
use Rattle.gptedit_core.specs.declared.refusal.Refusal.TheVariants.{IsUnused, NoEntry}
use Rattle.gptedit_core.specs.declared.resolve.ResolvedPartition.{ResolvedPartition}
use Rattle.gptedit_core.proofs.Steps.{and_then_ok, else_ok}

-- An entry is put,
put_keeps : (g : GPT) (i : ℕ) (e : GPTPartitionEntry) → KeepsRanges g (with_entry g i e)
put_keeps g i e = edited_keeps g (Put i e)

-- the alignment is set,
align_keeps : (g : GPT) (align : ℕ) → KeepsRanges g (record g { align = align })
align_keeps g align = record { sector = refl; header = refl; long = refl }

-- entries are removed
removed_keeps : (i : ℕ) (g h : GPT) (found : Option GPTPartitionEntry) → without_entry i g found ≡ Ok h → KeepsRanges g h
removed_keeps i g h None is = absurd (cc)
removed_keeps i g h (Some e) is =
    subst (KeepsRanges g) (else_ok (is_blank e) (IsUnused i) (with_entry g i empty_entry) h is).1 (put_keeps g i empty_entry)

all_removed_keep : (is : List ℕ) (g h : GPT) → removed_all is g ≡ Ok h → KeepsRanges g h
all_removed_keep [] g h done = let same : g ≡ h = cc in subst (KeepsRanges g) same (record { sector = refl; header = refl; long = refl })
all_removed_keep (i ∷ is) g h done =
    let step = and_then_ok (removed_one i g) (removed_all is) h done in
    keeps_both g step.0 h (removed_keeps i g step.0 (entry_of_number g i) step.1) (all_removed_keep is step.0 h step.2)

-- or cleared,
cleared_keeps : (i : ℕ) (g h : GPT) (next : GPT → Result GPT Refusal) (found : Option GPTPartitionEntry)
    → ◌≡◌ {A = Result GPT Refusal} (elim found [ None ↦ Err (NoEntry i) | Some e ↦ next (with_entry g i empty_entry) ]) (Ok h)
    → ((m : GPT) → next m ≡ Ok h → KeepsRanges m h) → KeepsRanges g h
cleared_keeps i g h next None is rest = absurd (cc)
cleared_keeps i g h next (Some e) is rest =
    let mid = with_entry g i empty_entry in
    keeps_both g mid h (put_keeps g i empty_entry) (rest mid is)

pub all_cleared_keep : (ps : List ResolvedPartition) (g h : GPT) → cleared ps g ≡ Ok h → KeepsRanges g h
all_cleared_keep [] g h done = let same : g ≡ h = cc in subst (KeepsRanges g) same (record { sector = refl; header = refl; long = refl })
all_cleared_keep (p ∷ ps) g h done =
    cleared_keeps p.number g h (cleared ps) (entry_of_number g p.number) done (λ m is. all_cleared_keep ps m h is)

-- partitions are put,
all_put_keep : (ps : List ResolvedPartition) (g h : GPT) → ArePut ps g h → KeepsRanges g h
all_put_keep [] g h is = subst (KeepsRanges g) (sym is) (record { sector = refl; header = refl; long = refl })
all_put_keep (p ∷ ps) g h is =
    let put = is.1 in
    let mid_keeps = subst (KeepsRanges g) (sym put.next_is) (put_keeps g p.number (record p.entry { starting_lba = put.range.first; ending_lba = put.range.last })) in
    keeps_both g is.0 h mid_keeps (all_put_keep ps is.0 h is.2)

-- lengthened,
extended_keeps : (g h : GPT) (i : ℕ) (found : Option GPTPartitionEntry) → IsExtendedFrom found i g h → KeepsRanges g h
extended_keeps g h i None is = subst (KeepsRanges g) (sym is) (record { sector = refl; header = refl; long = refl })
extended_keeps g h i (Some e) is = subst (KeepsRanges g) (sym is.2) (put_keeps g i (record e { ending_lba = is.0 }))

all_extended_keep : (is : List ℕ) (g h : GPT) → AreExtended is g h → KeepsRanges g h
all_extended_keep [] g h is = subst (KeepsRanges g) (sym is) (record { sector = refl; header = refl; long = refl })
all_extended_keep (i ∷ is) g h all =
    keeps_both g all.0 h (extended_keeps g all.0 i (entry_of_number g i) all.1) (all_extended_keep is all.0 h all.2)

-- and the GUID of the disk is set.
guid_keeps : (g : GPT) (align : ℕ) (guid : List ℕ) → KeepsRanges g (record g { align = align; header = record g.header { disk_guid = guid } })
guid_keeps g align guid = record { sector = refl; header = refl; long = refl }

applied_keeps : (g next : GPT) (guid : Option (List ℕ)) (align : ℕ) (ps : List ResolvedPartition) (is js : List ℕ) (rest free placed last : GPT) → removed_all is (record g { align = align }) ≡ Ok rest
    → cleared ps rest ≡ Ok free → ArePut ps free placed → AreExtended js placed last
    → next ≡ record last { align = g.align; header = record last.header { disk_guid = unwrap_or guid last.header.disk_guid } } → KeepsRanges g next
applied_keeps g next guid align ps is js rest free placed last removed clear put extended next_is =
    let h : GPT = record g { align = align } in
    let to_rest = keeps_both g h rest (align_keeps g align) (all_removed_keep is h rest removed) in
    let to_free = keeps_both g rest free to_rest (all_cleared_keep ps rest free clear) in
    let to_placed = keeps_both g free placed to_free (all_put_keep ps free placed put) in
    let to_last = keeps_both g placed last to_placed (all_extended_keep js placed last extended) in
    let end : GPT = record last { align = g.align; header = record last.header { disk_guid = unwrap_or guid last.header.disk_guid } } in
    subst (KeepsRanges g) (sym next_is) (keeps_both g last end to_last (guid_keeps last g.align (unwrap_or guid last.header.disk_guid)))

-- So each job keeps them.
pub done_keeps : (job : Job) (randoms : List (List ℕ)) (g next : GPT) → IsDone job randoms g next → KeepsRanges g next
done_keeps (Apply layout) randoms g next is =
    applied_keeps g next layout.disk_guid is.align is.partitions layout.removed.items (rest_numbers layout.asked.items is.partitions)
    is.rest is.free is.placed is.last is.removed is.clear is.put is.extended is.next_is
done_keeps Sort randoms g next is = subst (KeepsRanges g) (sym is) (edited_keeps g SortEntries)
done_keeps Rewrite randoms g next is = subst (KeepsRanges g) (sym is) (record { sector = refl; header = refl; long = refl })

pub done_coherent : (job : Job) (randoms : List (List ℕ)) (g next : GPT) → IsDone job randoms g next → IsCoherent g.header (entries_in g) → IsCoherent next.header (entries_in next)
done_coherent job randoms g next is = coherent_still g next (done_keeps job randoms g next is)

pub done_layout : (job : Job) (randoms : List (List ℕ)) (g next : GPT) (len : ℕ) → IsDone job randoms g next → HasLayout g len → HasLayout next len
done_layout job randoms g next len is = layout_still g next (done_keeps job randoms g next is) len

pub done_places : (job : Job) (randoms : List (List ℕ)) (g next : GPT) → IsDone job randoms g next → KeepsPlaces g next
done_places job randoms g next is =
    let keeps = done_keeps job randoms g next is in
    record { places = has_places g next keeps; layout = λ len. layout_still g next keeps len }
