-- Texts that are printed one after another.
use Rattle.std.proofs.Common.{◌≡◌, ◌++◌, ℕ, List, [], ◌∷◌, true, false, append_assoc, sym, subst, ◌∙◌, ap}
use Rattle.std.specs.Prelude.{Option, Some, None, Result, Ok, Err, OnOk}
use Rattle.std.specs.Io.KnownBytes.{Appends}
use Rattle.std.proofs.lemmas.List.{append-nil}
use Rattle.gptman.specs.Entry.{is_used}
use Rattle.gptman.specs.declared.codec.entry.GPTPartitionEntry.{GPTPartitionEntry}
use Rattle.gptimg_core.specs.Lines.{entry_line, entry_lines}

pub appends_then : (a b c : Option (List ℕ)) (xs ys : List ℕ) → Appends a b xs → Appends b c ys → Appends a c (xs ++ ys)
appends_then None b c xs ys first next = tt
appends_then (Some a) None c xs ys first next = absurd first
appends_then (Some a) (Some b) None xs ys first next = absurd next
appends_then (Some a) (Some b) (Some c) xs ys first next = next ∙ (ap (λ x. x ++ ys) first ∙ append_assoc a xs ys)

pub appends_nothing : (a : Option (List ℕ)) → Appends a a []
appends_nothing None = tt
appends_nothing (Some a) = sym (append-nil a)

-- the last piece of a line
pub line_ends : {T E : Type 0} (a b c : Option (List ℕ)) (so_far last line : List ℕ) (r : Result T E) → Appends a b so_far → OnOk r (Appends b c last) → so_far ++ last ≡ line → OnOk r (Appends a c line)
line_ends a b c so_far last line (Ok x) before end is = subst (λ l. Appends a c l) is (appends_then a b c so_far last before end)
line_ends a b c so_far last line (Err e) before end is = tt

-- the line of a used entry, and then those of the others
pub used_line : (a b c : Option (List ℕ)) (p : ℕ × GPTPartitionEntry) (left rest : List (ℕ × GPTPartitionEntry)) → left ≡ p ∷ rest → is_used p.1 ≡ true
    → Appends a b (entry_line p) → Appends b c (entry_lines rest) → Appends a c (entry_lines left)
used_line a b c p left rest is used line lines =
    subst (λ ps. Appends a c (entry_lines ps)) (sym is) (rw used (appends_then a b c (entry_line p) (entry_lines rest) line lines))

-- an unused entry has no line
pub unused_line : (a c : Option (List ℕ)) (p : ℕ × GPTPartitionEntry) (left rest : List (ℕ × GPTPartitionEntry)) → left ≡ p ∷ rest → is_used p.1 ≡ false
    → Appends a c (entry_lines rest) → Appends a c (entry_lines left)
unused_line a c p left rest is unused lines = subst (λ ps. Appends a c (entry_lines ps)) (sym is) (rw unused lines)
