-- A property that each put keeps is kept by a whole layout.
use Rattle.std.proofs.Common.{◌≡◌, ℕ, List, [], ◌∷◌, sym, ap, ◌∙◌}
use Rattle.std.specs.Prelude.{Option, Some, None, Result, Ok, Err}
use Rattle.gptman.specs.Coding.{empty_entry}
use Rattle.gptman.specs.Number.{entry_of_number, with_entry}
use Rattle.gptman.specs.declared.codec.entry.GPTPartitionEntry.{GPTPartitionEntry}
use Rattle.gptman.specs.declared.table.GPT.{GPT}
use Rattle.gptedit_core.specs.Applying.{cleared, removed_all, removed_one, without_entry, is_blank, ArePut}
use Rattle.gptedit_core.specs.declared.refusal.Refusal.{Refusal}
use Rattle.gptedit_core.specs.declared.refusal.Refusal.TheVariants.{IsUnused, NoEntry}
use Rattle.gptedit_core.specs.declared.resolve.ResolvedPartition.{ResolvedPartition}
use Rattle.gptedit_core.proofs.Steps.{and_then_ok, else_ok}

module _ {X : Type 0} (f : GPT → X) (stays : (g : GPT) (i : ℕ) (e : GPTPartitionEntry) → f (with_entry g i e) ≡ f g) where
  one_removed : (i : ℕ) (g h : GPT) (found : Option GPTPartitionEntry) → without_entry i g found ≡ Ok h → f h ≡ f g
  one_removed i g h None is = absurd (cc)
  one_removed i g h (Some e) is = ap f (sym (else_ok (is_blank e) (IsUnused i) (with_entry g i empty_entry) h is).1) ∙ stays g i empty_entry

  pub removed_same : (is : List ℕ) (g h : GPT) → removed_all is g ≡ Ok h → f h ≡ f g
  removed_same [] g h done = let same : g ≡ h = cc in ap f (sym same)
  removed_same (i ∷ is) g h done =
      let step = and_then_ok (removed_one i g) (removed_all is) h done in
      removed_same is step.0 h step.2 ∙ one_removed i g step.0 (entry_of_number g i) step.1

  one_cleared : (i : ℕ) (g h : GPT) (next : GPT → Result GPT Refusal) (found : Option GPTPartitionEntry)
      → ◌≡◌ {A = Result GPT Refusal} (elim found [ None ↦ Err (NoEntry i) | Some e ↦ next (with_entry g i empty_entry) ]) (Ok h)
      → ((m : GPT) → next m ≡ Ok h → f h ≡ f m) → f h ≡ f g
  one_cleared i g h next None is rest = absurd (cc)
  one_cleared i g h next (Some e) is rest = rest (with_entry g i empty_entry) is ∙ stays g i empty_entry

  pub cleared_same : (ps : List ResolvedPartition) (g h : GPT) → cleared ps g ≡ Ok h → f h ≡ f g
  cleared_same [] g h done = let same : g ≡ h = cc in ap f (sym same)
  cleared_same (p ∷ ps) g h done = one_cleared p.number g h (cleared ps) (entry_of_number g p.number) done (λ m is. cleared_same ps m h is)

  pub put_same : (ps : List ResolvedPartition) (g h : GPT) → ArePut ps g h → f h ≡ f g
  put_same [] g h is = ap f is
  put_same (p ∷ ps) g h is =
      let put = is.1 in
      put_same ps is.0 h is.2 ∙ (ap f put.next_is ∙ stays g p.number (record p.entry { starting_lba = put.range.first; ending_lba = put.range.last }))
