use Rattle.std.proofs.Common.{true, ◌≡◌, ◌∙◌, ◌+◌, drop, inl, refl, arith}
use Rattle.std.proofs.lemmas.List.{drop_more}
use Rattle.gptman.proofs.Runs.{keeps_then}
use Rattle.gptedit_look.specs.Wiped.{IsOfBeside}
use Rattle.gptedit_look.proofs.Beside.{beside_then, gone_more, only_not}
use Rattle.gptedit_look.proofs.clearing.clear_beside.Goals as goal

pub loop-signature-init : goal.loop-signature-init
loop-signature-init g c = record {
  keeps = record { size = refl; honest = refl; failures = omega arith };
  only = only_not (λ k. IsOfBeside c.args.primary c.args.backup c.args.sector_size k c.args.signatures.now) (g.D.Disk.state c.args.disk.now) (g.met.D.Disk.sound c.args.disk.now);
  gone = λ honest k h. inl h;
}

pub loop-signature-preserved : goal.loop-signature-preserved
loop-signature-preserved g c =
    let inv = c.loop-signature.invariant in
    let all = c.args.signatures.now in
    let i = c.loop-signature.signature-index in
    record {
      keeps = keeps_then inv.keeps c.clear_one.ensures.keeps;
      only = beside_then c.args.primary c.args.backup c.args.sector_size i all _ (drop_more all i _ c.loop-signature-test.true) c.clear_one.ensures.only inv.only;
      gone = λ honest.
          let before : (g.D.Disk.state c.loop-signature.disk).is_honest ≡ true = inv.keeps.honest ∙ honest in
          gone_more c.args.primary c.args.backup c.args.sector_size all (drop (i + 1) all) (drop i all) _ (g.D.Disk.state c.loop-signature.disk) (g.D.Disk.state c.clear_one.new.disk)
          (drop_more all i _ c.loop-signature-test.true) before c.clear_one.ensures.only (c.in_ok-clear_one.ensures.cleared before) (inv.gone honest);
    }

pub returns-in_err-clear_one-clause-only : goal.returns-in_err-clear_one-clause-only
returns-in_err-clear_one-clause-only g c =
    let all = c.args.signatures.now in
    let i = c.loop-signature.signature-index in
    beside_then c.args.primary c.args.backup c.args.sector_size i all _ (drop_more all i _ c.loop-signature-test.true) c.clear_one.ensures.only c.loop-signature.invariant.only
