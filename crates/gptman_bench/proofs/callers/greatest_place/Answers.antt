use Rattle.std.proofs.Common.{◌≡◌, ℕ, zero, suc, max, arith, refl, subst}
use Rattle.std.proofs.lemmas.Option.{MatchOption-at_some}
use Rattle.gptman.specs.Place.{IsFreeIn, IsFirstPlace, IsPlace, HasNoPlace}
use Rattle.gptman_bench.proofs.callers.greatest_place.Goals as goal

max_one : (n : ℕ) → ¬ (n ≡ 0) → max 1 n ≡ n
max_one zero some = absurd (some refl)
max_one (suc k) some = omega arith

pub returns : goal.returns
returns c =
    let table = c.args.table.now in
    let size : ℕ = c.in_ok-size.size in
    let n : ℕ = max 1 size in
    let s : ℕ = c.in-Some.start in
    let first = MatchOption-at_some (HasNoPlace (IsFreeIn table) table.align n) (λ s. IsFirstPlace (IsFreeIn table) table.align n s) s c.in-Some.is c.in_ok-start.ensures.value in
    let same : n ≡ size = max_one size c.if-size-eq0.false in (
      subst (λ (k : ℕ). IsPlace (IsFreeIn table) table.align k s) same first.place,
      (c.maximum_is_offered.ensures table size c.requires.aligned c.in_ok-size.ensures.value).no_more,
    )
