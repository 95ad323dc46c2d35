use Rattle.std.proofs.Common.{◌<◌, ◌+◌, ◌∙◌, ap, sym, inl, inr, arith, List, length, ℕ}
use Rattle.std.specs.Prelude.{not, Option}
use Rattle.std.proofs.Math.ListN.{set}
use Rattle.gptedit_core.specs.declared.matching.EntryMatch.{EntryMatch}
use Rattle.std.specs.List.{find}
use Rattle.gptedit_core.specs.Matching.{may_mean, taken}
use Rattle.gptedit_core.proofs.Matched.{progress, seek_kept, seek_taken, Found}
use Rattle.gptedit_core.proofs.matching.seek.Goals as goal
use Rattle.gptedit_core.proofs.matching.seek.Goals.{then-is_none+then-may_seek, else-is_none, else-is_none-via-then-is_none+else-may_seek, else-is_none-via-else-is_none}

pub loop-i-preserved : goal.loop-i-preserved
loop-i-preserved c =
    let g = c.args.table.now in
    let asked = c.args.asked.now in
    let i = c.loop-i.i in
    let found = c.loop-i.found in
    let free = c.loop-i.free.items in
    let next : List (Option EntryMatch) → List ℕ → Found = progress g c.args.by asked asked (i + 1) in
    let in_found : i < length found = omega (arith, c.loop-i.auto.found, c.requires) in
    c.loop-i.invariant ∙ elim c.if-is_none.branch [
      | then-is_none+then-may_seek w ↦
          let one = w.take_first.result in
          let took : Option EntryMatch × List ℕ = taken c.args.by free (find (may_mean g c.args.by c.index-asked-i.result) free) in
          seek_taken g c.args.by asked asked i found free c.index-asked-i.result c.loop-i-test.true in_found c.index-asked-i.is (c.is_none.ensures ∙ ap not w.if-is_none.true) (sym w.may_seek.ensures ∙ w.if-may_seek.true)
          ∙ ap (λ (x : Option EntryMatch). next (set found i x) took.1) (sym w.take_first.ensures.found)
          ∙ ap (λ (xs : List ℕ). next (set found i one) xs) (sym w.take_first.ensures.free)
          ∙ ap (λ (xs : List ℕ). next (set found i one) xs) (ap (λ v. v.items) (sym w.free-is))
          ∙ ap (λ (xs : List (Option EntryMatch)). next xs c.if-is_none.free.items) (sym w.found-is)
      | else-is_none w ↦
          seek_kept g c.args.by asked asked i found free c.index-asked-i.result c.loop-i-test.true in_found c.index-asked-i.is (elim w.else-is_none.branch [
            | else-is_none-via-then-is_none+else-may_seek w' ↦ inr (sym w'.may_seek.ensures ∙ w'.if-may_seek.false)
            | else-is_none-via-else-is_none w' ↦ inl (c.is_none.ensures ∙ ap not w'.if-is_none.false)
          ])
          ∙ ap (λ (xs : List ℕ). next found xs) (ap (λ v. v.items) (sym w.free-is))
          ∙ ap (λ (xs : List (Option EntryMatch)). next xs c.if-is_none.free.items) (sym w.found-is)
    ]
