use Rattle.std.proofs.Common.{◌*◌, ◌+◌, ◌≤◌, ◌<◌, length, flat_map, arith, sym, ap, ◌∙◌}
use Rattle.byteorder.specs.Endian.{little_bytes}
use Rattle.std.proofs.lemmas.List.{take_all}
use Rattle.gptman.proofs.EntryBytes.{units_written}
use Rattle.gptman.proofs.codec.entry.bytes_of.Goals as goal

pub loop-k-preserved : goal.loop-k-preserved
loop-k-preserved c =
    let lt : c.loop-k.k < length c.args.units.now = omega arith in
    let room : 2 * c.loop-k.k + 2 ≤ length c.loop-k.bytes = omega arith in
    (units_written c.loop-k.bytes _ c.args.units.now c.loop-k.k c.loop-k.invariant.0 room lt c.put_u16.ensures.written, omega arith)

pub returns-clause-bytes : goal.returns-clause-bytes
returns-clause-bytes c =
    sym (take_all (2 * c.loop-k.k) c.loop-k.bytes (omega arith)) ∙ c.loop-k.invariant.0
    ∙ ap (flat_map (little_bytes 2)) (take_all c.loop-k.k c.args.units.now (omega arith))
