-- Texts that are printed one after another.
use Rattle.std.proofs.Common.{◌≡◌, ◌++◌, ℕ, List, append_assoc, subst, ◌∙◌, ap}
use Rattle.std.specs.Prelude.{Option, Some, None, Result, Ok, Err, OnOk}
use Rattle.std.specs.Io.KnownBytes.{Appends}

pub appends_then : (a b c : Option (List ℕ)) (xs ys : List ℕ) → Appends a b xs → Appends b c ys → Appends a c (xs ++ ys)
appends_then None b c xs ys first next = tt
appends_then (Some a) None c xs ys first next = absurd first
appends_then (Some a) (Some b) None xs ys first next = absurd next
appends_then (Some a) (Some b) (Some c) xs ys first next = next ∙ (ap (λ x. x ++ ys) first ∙ append_assoc a xs ys)

-- The last piece of a line.
pub line_ends : {T E : Type 0} (a b c : Option (List ℕ)) (so_far last line : List ℕ) (r : Result T E) → Appends a b so_far → OnOk r (Appends b c last) → so_far ++ last ≡ line → OnOk r (Appends a c line)
line_ends a b c so_far last line (Ok x) before end is = subst (λ l. Appends a c l) is (appends_then a b c so_far last before end)
line_ends a b c so_far last line (Err e) before end is = tt
