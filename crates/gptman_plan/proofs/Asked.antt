-- The ranges for which calls ask are places of every disk with these ends.
use Rattle.std.proofs.Common.{◌≡◌, inl, inr, ◌-◌, ◌*◌, ◌/◌, ℕ, List, [], ◌∷◌, ◌++◌, length, sym, ◌∙◌, ap, subst}
use Rattle.std.specs.Prelude.{Option, None, Some, Ok, IfSome, MatchOption}
use Rattle.gptman.specs.Copy.{header_result}
use Rattle.gptman.specs.Reading.{backup, copy_start}
use Rattle.gptman.specs.declared.codec.header.GPTHeader.{GPTHeader}
use Rattle.gptman_plan.specs.Ends.{HaveRange, IsDiskOf, zeroed}
use Rattle.gptman_plan.specs.Reading.{IsHeaderKnown, IsLack, IsLackOf, OfEvery}
use Rattle.gptman_plan.specs.Rounds.{IsAmong, copy_ranges, entries_range, reading_ranges}
use Rattle.gptman_plan.specs.declared.reading.Lack.{Lack}
use Rattle.gptman_plan.specs.declared.ends.Ends.{Ends}

-- a property of an option, case by case
pub matched_both : {T : Type 0} (P Q : Type 0) (R S : T → Type 0) (o : Option T) → (P → Q) → ((x : T) → R x → S x) → MatchOption o P R → MatchOption o Q S
matched_both P Q R S None f g m = f m
matched_both P Q R S (Some x) f g m = g x m

-- a range of either list is one of both lists together
pub among_left : (xs ys : List (ℕ × ℕ)) (range : ℕ × ℕ) → IsAmong range xs → IsAmong range (xs ++ ys)
among_left [] ys range none = absurd none
among_left (x ∷ xs) ys range (inl is) = inl is
among_left (x ∷ xs) ys range (inr later) = inr (among_left xs ys range later)

pub among_right : (xs ys : List (ℕ × ℕ)) (range : ℕ × ℕ) → IsAmong range ys → IsAmong range (xs ++ ys)
among_right [] ys range is = is
among_right (x ∷ xs) ys range is = inr (among_right xs ys range is)

module _ (e : Ends) where
  abbrev Places : Type 0
  Places = List ℕ → List (ℕ × ℕ)

  -- the missing range, which had to be known
  pub lack_at : (places : Places) (from len : ℕ) (lack : Lack) → lack.from ≡ from → lack.length ≡ len → OfEvery e (λ b. IsAmong (from, len) (places b))
      → IsLack e lack → IsLackOf places e lack
  lack_at places from len lack start long among lacking =
      let same : ◌≡◌ {A = ℕ × ℕ} (from, len) (lack.from, lack.length) = λ i. (sym start i, sym long i) in
      record { lacking = lacking; among = λ b ends. subst (λ (r : ℕ × ℕ). IsAmong r (places b)) same (among b ends) }

  -- the range is known, or it is missing
  pub known_or_lack : (places : Places) (Q : Type 0) (from len : ℕ) (o : Option Lack) → OfEvery e (λ b. IsAmong (from, len) (places b))
      → (HaveRange e (from, len) → Q) → MatchOption o (HaveRange e (from, len)) (IsLack e)
      → IfSome o (λ lack. (lack.from ≡ from) × (lack.length ≡ len)) → MatchOption o Q (IsLackOf places e)
  known_or_lack places Q from len None among tells known asked = tells known
  known_or_lack places Q from len (Some lack) among tells known asked = lack_at places from len lack asked.0 asked.1 among known

  -- places among more places
  lack_as : (places more : Places) → ((b : List ℕ) → IsDiskOf e b → (range : ℕ × ℕ) → IsAmong range (places b) → IsAmong range (more b))
      → (lack : Lack) → IsLackOf places e lack → IsLackOf more e lack
  lack_as places more wider lack is = record { lacking = is.lacking; among = λ b ends. wider b ends (lack.from, lack.length) (is.among b ends) }

  -- the entries of a known header are those of its copy
  pub entries_lack : (p ss : ℕ) (h : GPTHeader) → header_result (zeroed e) p ≡ Ok h → IsHeaderKnown e p
      → (lack : Lack) → IsLackOf (λ _. entries_range ss (Ok h)) e lack → IsLackOf (λ b. copy_ranges b ss p) e lack
  entries_lack p ss h good told = lack_as (λ _. entries_range ss (Ok h)) (λ b. copy_ranges b ss p)
      (λ b ends range is. inr (subst (λ r. IsAmong range (entries_range ss r)) (sym (told b ends ∙ good)) is))

  -- what the primary copy asks for, a read asks for
  pub primary_lack : (ss : ℕ) (lack : Lack) → IsLackOf (λ b. copy_ranges b ss ss) e lack → IsLackOf (λ b. reading_ranges b ss) e lack
  primary_lack ss = lack_as (λ b. copy_ranges b ss ss) (λ b. reading_ranges b ss)
      (λ b ends range is. among_left (copy_ranges b ss ss) (copy_ranges b ss (copy_start backup (length b) ss)) range is)

  -- and what the backup copy asks for
  pub backup_lack : (ss at : ℕ) → at ≡ (e.size / ss - 1) * ss → (lack : Lack) → IsLackOf (λ b. copy_ranges b ss at) e lack → IsLackOf (λ b. reading_ranges b ss) e lack
  backup_lack ss at is_at = lack_as (λ b. copy_ranges b ss at) (λ b. reading_ranges b ss)
      (λ b ends range is.
      let here : at ≡ copy_start backup (length b) ss = is_at ∙ ap (λ (n : ℕ). (n / ss - 1) * ss) (sym ends.long) in
      among_right (copy_ranges b ss ss) (copy_ranges b ss (copy_start backup (length b) ss)) range (subst (λ (p : ℕ). IsAmong range (copy_ranges b ss p)) here is))
