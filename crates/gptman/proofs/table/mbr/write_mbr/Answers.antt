use Rattle.std.proofs.Common.{◌≡◌, length, arith, ap, ◌∙◌}
use Rattle.gptman_disk.specs.Disk.{overlay}
use Rattle.gptman_disk.proofs.Ranges.{grown_since, within_none, within_range}
use Rattle.gptman.proofs.Readers.{reads_then}
use Rattle.gptman.proofs.Runs.{wrote_then, wrote_wider}
use Rattle.gptman.specs.Mbr.{mbr_bytes}
use Rattle.gptman.proofs.table.mbr.write_mbr.Goals as goal

pub returns-in_err-write_all-clause-wrote : goal.returns-in_err-write_all-clause-wrote
returns-in_err-write_all-clause-wrote g c = λ honest.
    let end = c.seek_end.ensures.reads.only honest in
    let read = reads_then end (c.seek_start.ensures.reads.only end.wrote.honest) in
    let at : (g.D.Disk.state c.seek_start.new.self).position ≡ 446 = c.in_ok-seek_start.ensures.answer.1 in
    let size : length c.in_ok-bytes.bytes ≡ 66 = omega arith in
    wrote_then (within_range (omega (arith, at)) (omega (arith, at, size))) (wrote_wider within_none read.wrote) (c.write_all.ensures.wrote read.wrote.honest)

pub returns-clause-contents : goal.returns-clause-contents
returns-clause-contents g c = λ honest.
    let end = c.seek_end.ensures.reads.only honest in
    let read = reads_then end (c.seek_start.ensures.reads.only end.wrote.honest) in
    let laid = c.in_ok-write_all.ensures.contents read.wrote.honest in
    let at : (g.D.Disk.state c.seek_start.new.self).position ≡ 446 = c.in_ok-seek_start.ensures.answer.1 in
    let size : length c.in_ok-bytes.bytes ≡ 66 = omega arith in
    let bytes : c.in_ok-bytes.bytes ≡ mbr_bytes c.args.bootable c.args.sector_size (g.D.Disk.state c.args.disk.now).size =
    c.in_ok-bytes.ensures.bytes ∙ ap (mbr_bytes c.args.bootable c.args.sector_size) c.in_ok-size.ensures.answer.0 in
    record {
      view = laid.view ∙ (λ i. overlay (read.view i) (at i) (bytes i));
      pending = grown_since _ _ 446 66 at size read.pending laid.pending;
    }
