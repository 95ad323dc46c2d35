use Rattle.std.proofs.Common.{◌≡◌, ℕ, ◌+◌, ◌*◌, ◌<◌, ◌≤◌, ◌++◌, List, length, take, drop, arith, subst}
use Rattle.std.proofs.lemmas.List.Elements.{All-more}
use Rattle.gptman.specs.Coding.{FitsEntry, entry_bytes}
use Rattle.gptman.specs.declared.codec.entry.GPTPartitionEntry.{GPTPartitionEntry}
use Rattle.gptman.proofs.ArrayBytes.{entry_long}
use Rattle.gptman.proofs.BlockBytes.{entry_put}
use Rattle.gptman.proofs.header.write.encode_block.Goals as goal

pub loop-k-preserved : goal.loop-k-preserved
loop-k-preserved c =
    let k : ℕ = c.loop-k.k in
    let old : List ℕ = c.loop-k.bytes in
    let e : GPTPartitionEntry = c.index-block-k.result in
    let es : List GPTPartitionEntry = c.args.block.now in
    let lt : k < length es = omega arith in
    let room : 128 * k + 128 ≤ length old = omega arith in
    let put : c.put.new.bytes ≡ take (128 * k) old ++ (entry_bytes e ++ drop (128 * k + length (entry_bytes e)) old) =
    subst (λ (part : List ℕ). c.put.new.bytes ≡ take (128 * k) old ++ (part ++ drop (128 * k + length part) old)) c.encode.ensures.spelled c.put.ensures in
    record {
      bytes = entry_put old c.put.new.bytes es k e c.loop-k.invariant.bytes room lt c.index-block-k.is (entry_long e c.encode.ensures.fits) put;
      fits = All-more FitsEntry es k e lt c.loop-k.invariant.fits (subst FitsEntry c.index-block-k.is c.encode.ensures.fits);
    }
