use Rattle.std.proofs.Common.{◌≡◌, ◌<◌, ◌+◌, ◌*◌, ◌^◌, ℕ, Ok, inl, refl, subst, arith}
use Rattle.gptman_plan.specs.Ends.{HaveRange}
use Rattle.gptman_plan.specs.Reading.{IsArrayKnown}
use Rattle.gptman_plan.specs.Rounds.{entries_range}
use Rattle.gptman_plan.proofs.Asked.{known_or_lack}
use Rattle.gptman_plan.proofs.KnownCopies.{beyond_array, known_array, no_array, short_array, wrong_array}
use Rattle.gptman_plan.proofs.reading.lack_of_entries.Goals as goal
use Rattle.gptman_plan.proofs.reading.lack_of_entries.Goals.{then-header-eq0-via-then-header-eq0, then-header-eq0-via-else-header-eq0+then-header-ne128}

pub returns-then-header-eq0 : goal.returns-then-header-eq0
returns-then-header-eq0 c =
    let h = c.args.header.now in
    elim c.then-header-eq0.branch [
      | then-header-eq0-via-then-header-eq0 w ↦
          record { known = no_array c.args.ends.now c.args.sector_size h w.if-header-eq0.true }
      | then-header-eq0-via-else-header-eq0+then-header-ne128 w ↦
          record { known = wrong_array c.args.ends.now c.args.sector_size h w.if-header-eq0.false w.if-header-ne128.true }
    ]

pub returns-in_err-start : goal.returns-in_err-start
returns-in_err-start c =
    let h = c.args.header.now in
    record {
      known = rw c.from_residual.ensures
          (beyond_array c.args.ends.now c.args.sector_size h c.if-header-eq0.false c.if-header-ne128.false
          (omega (arith, c.in_err-start.ensures)));
    }

pub returns-then-passes_end : goal.returns-then-passes_end
returns-then-passes_end c =
    let h = c.args.header.now in
    let fits : h.partition_entry_lba * c.args.sector_size < 2 ^ 64 = c.in_ok-start.ensures.0 in
    let start : c.in_ok-start.start ≡ h.partition_entry_lba * c.args.sector_size = c.in_ok-start.ensures.1 in
    let short : c.args.ends.now.size < c.in_ok-start.start + 128 * c.from-len.result = c.if-passes_end.ensures.0 refl in
    record {
      known = short_array c.args.ends.now c.args.sector_size h c.if-header-eq0.false c.if-header-ne128.false
          fits (omega (arith, short, start, c.from-len.ensures));
    }

pub returns : goal.returns
returns c =
    let a = c.args in
    let h = a.header.now in
    let start : c.in_ok-start.start ≡ h.partition_entry_lba * a.sector_size = c.in_ok-start.ensures.1 in
    let long : 128 * c.from-len.result ≡ 128 * h.number_of_partition_entries = omega (arith, c.from-len.ensures) in
    let made : ◌≡◌ {A = ℕ × ℕ} (c.in_ok-start.start, 128 * c.from-len.result) (h.partition_entry_lba * a.sector_size, 128 * h.number_of_partition_entries) = λ i. (start i, long i) in
    record {
      known = known_or_lack a.ends.now (λ _. entries_range a.sector_size (Ok h)) (IsArrayKnown a.ends.now a.sector_size h)
          c.in_ok-start.start (128 * c.from-len.result) c.lack_of.result (λ b ends. inl made)
          (λ known. known_array a.ends.now a.sector_size h (subst (λ (r : ℕ × ℕ). HaveRange a.ends.now r) made known))
          c.lack_of.ensures.known c.lack_of.ensures.asked;
    }
