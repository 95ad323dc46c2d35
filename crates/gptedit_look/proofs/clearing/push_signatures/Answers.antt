use Rattle.std.proofs.Common.{◌+◌, drop}
use Rattle.std.proofs.lemmas.List.{drop_more}
use Rattle.gptedit_look.proofs.Clears.{signature_added, signature_all, signature_kept}
use Rattle.gptedit_look.proofs.clearing.push_signatures.Goals as goal

pub loop-signature-preserved : goal.loop-signature-preserved
loop-signature-preserved c =
    let inv = c.loop-signature.invariant in
    let all = c.args.signatures.now in
    let i = c.loop-signature.signature-index in
    let now = c.loop-signature.ranges.items in
    let new = c.push.new.self.items in
    record {
      only = signature_added all (drop (i + 1) all) c.args.ranges.now.items now new i _ c.all_of.result (drop_more all i _ c.loop-signature-test.true)
          c.all_of.ensures.at c.all_of.ensures.length c.in_ok-push.ensures.items inv.only;
      kept = signature_kept c.args.ranges.now.items now new c.all_of.result c.in_ok-push.ensures.items inv.kept;
      all = signature_all all (drop (i + 1) all) now new i _ c.all_of.result (drop_more all i _ c.loop-signature-test.true)
          c.all_of.ensures.at c.all_of.ensures.length c.in_ok-push.ensures.items inv.all;
    }
