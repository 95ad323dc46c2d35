-- The first sector of a disk, given only the ends.
use Rattle.std.proofs.Common.{◌≡◌, ◌≤◌, ◌<◌, ℕ, List, length, drop, sym, ◌∙◌, subst, arith, length-drop, length-take}
use Rattle.std.proofs.lemmas.List.{get_or_past}
use Rattle.gptman.specs.Bytes.{part}
use Rattle.gptman_plan.specs.Dos.{IsDosDisk, IsDosSector}
use Rattle.gptman_plan.specs.Ends.{HaveRange, IsDiskOf, zeroed}
use Rattle.gptman_plan.specs.Reading.{OfEvery}
use Rattle.gptman_plan.proofs.Middle.{agree_in_ends, zero_ends}
use Rattle.gptman_plan.specs.declared.ends.Ends.{Ends}

-- a shorter disk has no signature there
pub none_short : (b : List ℕ) → length b < 512 → ¬ IsDosDisk b
none_short b short is =
    let low : length (part b 0 512) ≤ 511 = omega (arith, short, length-take 512 (drop 0 b), length-drop 0 b) in
    let wrong : 0xAA ≡ 0 = sym is.signed_too ∙ get_or_past (part b 0 512) 511 0 low in
    omega (arith, wrong)

module _ (e : Ends) (known : HaveRange e (0, 512)) (s : List ℕ)
    (filled : s ≡ part (zeroed e) 0 512) where
  same : (b : List ℕ) → IsDiskOf e b → part b 0 512 ≡ s
  same b ends = agree_in_ends b (zeroed e) e.head.now e.tail.now e.size 0 512 ends (zero_ends e) known ∙ sym filled

  pub is_dos : IsDosSector s → OfEvery e IsDosDisk
  is_dos is b ends = subst IsDosSector (sym (same b ends)) is

  pub is_clear : ¬ IsDosSector s → OfEvery e (λ b. ¬ IsDosDisk b)
  is_clear not b ends is = not (subst IsDosSector (same b ends) is)
