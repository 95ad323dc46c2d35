use Rattle.std.proofs.Common.{Ok, inl, refl}
use Rattle.gptman_plan.specs.Ends.{HaveRange}
use Rattle.gptman_plan.specs.Reading.{IsArrayKnown, IsCopyKnown, IsLack, IsLackOf}
use Rattle.gptman_plan.specs.Rounds.{copy_ranges, entries_range}
use Rattle.gptman_plan.proofs.Asked.{entries_lack, lack_at, matched_both}
use Rattle.gptman_plan.proofs.KnownCopies.{at_none, known_header, refused_copy, short_copy, whole_copy}
use Rattle.gptman_plan.proofs.reading.lack_of_copy.Goals as goal

pub returns-then-passes_end : goal.returns-then-passes_end
returns-then-passes_end c =
    record { known = short_copy c.args.ends.now c.args.at c.args.sector_size (c.if-passes_end.ensures.0 refl) }

pub returns-in-Some : goal.returns-in-Some
returns-in-Some c =
    let a = c.args in
    let asked = c.in-Some.ensures.asked in
    record { known = lack_at a.ends.now (λ b. copy_ranges b a.sector_size a.at) a.at 92 c.in-Some.lack asked.0 asked.1 (λ b ends. inl refl) c.in-Some.ensures.known }

pub returns-in_err-header : goal.returns-in_err-header
returns-in_err-header c =
    let e = c.args.ends.now in
    record {
      known = rw c.from_residual.ensures
          (refused_copy e c.args.at c.args.sector_size c.in_err-header.ensures.answer
          (known_header e c.args.at (at_none (HaveRange e (c.args.at, 92)) (IsLack e) c.lack_of.result c.in_default.is c.lack_of.ensures.known)));
    }

pub returns : goal.returns
returns c =
    let e = c.args.ends.now in
    let ss = c.args.sector_size in
    let h = c.in_ok-header.header in
    let good = c.in_ok-header.ensures.answer in
    let told = known_header e c.args.at (at_none (HaveRange e (c.args.at, 92)) (IsLack e) c.lack_of.result c.in_default.is c.lack_of.ensures.known) in
    record {
      known = matched_both (IsArrayKnown e ss h) (IsCopyKnown e c.args.at ss) (IsLackOf (λ _. entries_range ss (Ok h)) e)
          (IsLackOf (λ b. copy_ranges b ss c.args.at) e) c.lack_of_entries.result
          (whole_copy e c.args.at ss h good told) (entries_lack e c.args.at ss h good told) c.lack_of_entries.ensures.known;
    }
