use Rattle.std.proofs.Common.{arith, rules, ◌≡◌, ◌≤◌, ◌+◌, ◌-◌, ◌<◌, ◌^◌, ◌++◌, ◌∷◌, [], length, get_or}
use Rattle.std.proofs.lemmas.List.Elements.{All-push, All-same}
use Rattle.gptedit_report.proofs.Shares.{share_fits, share_steps, sum_more}
use Rattle.gptedit_report.proofs.map.widths.widths_of.Goals as goal

pub share_of-until-requires-clause-fits : goal.share_of-until-requires-clause-fits
share_of-until-requires-clause-fits c =
    let spare_is : c.saturating_sub-spare.result ≡ 64 - length c.args.lengths.now = search rules in
    let short : length c.args.lengths.now < 2 ^ 64 = search rules in
    rw (spare_is) (share_fits (length c.args.lengths.now) c.total_of-total.result short c.total_of-total.ensures.bound)

pub overflow_add-until : goal.overflow_add-until
overflow_add-until c =
    let l = c.loop-length in
    let x_is : c.from-passed.result ≡ get_or c.args.lengths.now l.length-index 0 = search rules in
    let steps = share_steps c.args.lengths.now l.length-index c.saturating_sub-spare.result l.used l.passed c.from-passed.result c.total_of-total.result
    c.share_of-until.result c.loop-length-test.true x_is l.invariant.0 c.total_of-total.ensures.value l.invariant.1 l.invariant.2
    c.share_of-until.ensures.whole c.share_of-until.ensures.share in
    let spare_is : c.saturating_sub-spare.result ≡ 64 - length c.args.lengths.now = search rules in
    omega (arith, steps.0.1, spare_is)

pub overflow_sub-until : goal.overflow_sub-until
overflow_sub-until c =
    let l = c.loop-length in
    let x_is : c.from-passed.result ≡ get_or c.args.lengths.now l.length-index 0 = search rules in
    let steps = share_steps c.args.lengths.now l.length-index c.saturating_sub-spare.result l.used l.passed c.from-passed.result c.total_of-total.result
    c.share_of-until.result c.loop-length-test.true x_is l.invariant.0 c.total_of-total.ensures.value l.invariant.1 l.invariant.2
    c.share_of-until.ensures.whole c.share_of-until.ensures.share in
    omega (arith, steps.0.0)

pub loop-length-preserved : goal.loop-length-preserved
loop-length-preserved c =
    let l = c.loop-length in
    let x_is : c.from-passed.result ≡ get_or c.args.lengths.now l.length-index 0 = search rules in
    let steps = share_steps c.args.lengths.now l.length-index c.saturating_sub-spare.result l.used l.passed c.from-passed.result c.total_of-total.result
    c.share_of-until.result c.loop-length-test.true x_is l.invariant.0 c.total_of-total.ensures.value l.invariant.1 l.invariant.2
    c.share_of-until.ensures.whole c.share_of-until.ensures.share in
    let width = 1 + c.share_of-until.result - l.used in
    let fresh : 1 ≤ width = omega (arith, steps.0.0) in
    let pushed : c.push.new.self.items ≡ l.widths.items ++ width ∷ [] = search rules in (
      steps.1,
      steps.0.1,
      steps.0.2,
      λ some all. c.share_of-until.ensures.whole all,
      search rules,
      All-same (λ n. 1 ≤ n) c.push.new.self.items (l.widths.items ++ width ∷ []) pushed
          (All-push (λ n. 1 ≤ n) l.widths.items width l.invariant.5 fresh),
      rw (pushed) (omega (arith, sum_more l.widths.items width, l.invariant.6, steps.0.0)),
    )
