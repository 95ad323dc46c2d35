use Rattle.std.proofs.Common.{inl, ◌+◌, drop, refl, arith}
use Rattle.std.proofs.lemmas.List.{drop_more}
use Rattle.gptman.proofs.Runs.{keeps_then, wrote_not}
use Rattle.gptedit_look.proofs.Clears.{clear_wrote, set_more}
use Rattle.gptedit_look.proofs.clearing.clear_all.Goals as goal

pub loop-range-init : goal.loop-range-init
loop-range-init g c = record {
  keeps = record { size = refl; honest = refl; failures = omega arith };
  wrote = λ honest. wrote_not _ _ honest (g.met.D.Disk.sound c.args.disk.now honest);
  set = λ honest k h. inl h;
}

pub returns-in_err-put_zeros-clause-wrote : goal.returns-in_err-put_zeros-clause-wrote
returns-in_err-put_zeros-clause-wrote g c =
    let rs = c.args.ranges.now in
    let i = c.loop-range.range-index in
    clear_wrote rs i _ (drop_more rs i _ c.loop-range-test.true) c.put_zeros.ensures.wrote c.loop-range.invariant.wrote

pub loop-range-preserved : goal.loop-range-preserved
loop-range-preserved g c =
    let inv = c.loop-range.invariant in
    let rs = c.args.ranges.now in
    let i = c.loop-range.range-index in
    record {
      keeps = keeps_then inv.keeps c.put_zeros.ensures.keeps;
      wrote = clear_wrote rs i _ (drop_more rs i _ c.loop-range-test.true) c.put_zeros.ensures.wrote inv.wrote;
      set = λ honest.
          let before = inv.wrote honest in
          set_more rs (drop (i + 1) rs) (drop i rs) _ (g.D.Disk.state c.loop-range.disk).view (g.D.Disk.state c.put_zeros.new.disk).view
          (drop_more rs i _ c.loop-range-test.true) (c.put_zeros.ensures.wrote before.honest).view (c.in_ok-put_zeros.ensures.zeros before.honest) (inv.set honest);
    }
