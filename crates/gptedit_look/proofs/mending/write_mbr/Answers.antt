use Rattle.std.proofs.Common.{◌≡◌, ◌∙◌, arith}
use Rattle.gptman.specs.Disk.{overlay}
use Rattle.gptman.proofs.Ranges.{within_none, within_range}
use Rattle.gptman.proofs.Runs.{wrote_then, wrote_wider}
use Rattle.gptedit_look.proofs.mending.write_mbr.Goals as goal

pub returns-in_err-write_all-clause-wrote : goal.returns-in_err-write_all-clause-wrote
returns-in_err-write_all-clause-wrote g c = λ honest.
    let read = c.seek_start.ensures.reads.only honest in
    let at : (g.D.Disk.state c.seek_start.new.self).position ≡ 446 = c.in_ok-seek_start.ensures.answer.1 in
    wrote_then (within_range (omega (arith, at)) (omega (arith, at, c.requires.length))) (wrote_wider within_none read.wrote) (c.write_all.ensures.wrote read.wrote.honest)

pub returns-in_err-sync-clause-wrote : goal.returns-in_err-sync-clause-wrote
returns-in_err-sync-clause-wrote g c = λ honest.
    let read = c.seek_start.ensures.reads.only honest in
    let at : (g.D.Disk.state c.seek_start.new.self).position ≡ 446 = c.in_ok-seek_start.ensures.answer.1 in
    let wrote = wrote_then (within_range (omega (arith, at)) (omega (arith, at, c.requires.length))) (wrote_wider within_none read.wrote) (c.write_all.ensures.wrote read.wrote.honest) in
    wrote_then within_none wrote (c.sync.ensures.wrote wrote.honest)

pub returns-clause-wrote : goal.returns-clause-wrote
returns-clause-wrote g c = λ honest.
    let read = c.seek_start.ensures.reads.only honest in
    let at : (g.D.Disk.state c.seek_start.new.self).position ≡ 446 = c.in_ok-seek_start.ensures.answer.1 in
    let wrote = wrote_then (within_range (omega (arith, at)) (omega (arith, at, c.requires.length))) (wrote_wider within_none read.wrote) (c.write_all.ensures.wrote read.wrote.honest) in
    wrote_then within_none wrote (c.sync.ensures.wrote wrote.honest)

pub returns-clause-contents : goal.returns-clause-contents
returns-clause-contents g c = λ honest.
    let read = c.seek_start.ensures.reads.only honest in
    let laid = c.in_ok-write_all.ensures.contents read.wrote.honest in
    let at : (g.D.Disk.state c.seek_start.new.self).position ≡ 446 = c.in_ok-seek_start.ensures.answer.1 in
    let wrote = c.write_all.ensures.wrote read.wrote.honest in
    c.sync.ensures.view wrote.honest ∙ laid.view ∙ (λ i. overlay (read.view i) (at i) c.args.bytes.now)
