use Rattle.std.proofs.Common.{◌≡◌, ◌≤◌, ◌+◌, ◌-◌, ◌*◌, List, [], ◌∷◌, ℕ, IsTrue, length, take, drop, arith, sym, ap, ◌∙◌}
use Rattle.std.proofs.lemmas.List.{length-take-le}
use Rattle.std.proofs.lemmas.List.Elements.{All-append, All-same}
use Rattle.gptman.specs.Coding.{FitsEntry, array_bytes}
use Rattle.gptman_disk.specs.Disk.{Wrote, overlay}
use Rattle.gptman.specs.declared.codec.entry.GPTPartitionEntry.{GPTPartitionEntry}
use Rattle.gptman.proofs.ArrayBytes.{array_long}
use Rattle.gptman.proofs.BlockBytes.{block_count, block_more, entries_more}
use Rattle.gptman_disk.proofs.Overlays.{overlay_more}
use Rattle.gptman_disk.proofs.Ranges.{within_range, within_then}
use Rattle.gptman.proofs.Runs.{wrote_then}
use Rattle.gptman.proofs.header.write.write_entries.Given.{Over}
use Rattle.gptman.proofs.header.write.write_entries.Goals as goal
use Rattle.gptman.proofs.header.write.write_entries.Goals.{After-write_block}

-- The entries of one block.
abbrev block_of : List GPTPartitionEntry → ℕ → ℕ → List GPTPartitionEntry
block_of es done end = take (end - done) (drop done es)

-- With the block, only the range of all entries was written.
block_wrote : (g : Over) (c : After-write_block g) → IsTrue (g.D.Disk.state c.args.disk.now).is_honest
    → Wrote (((g.D.Disk.state c.args.disk.now).position, 128 * length c.args.partitions.now) ∷ []) (g.D.Disk.state c.args.disk.now) (g.D.Disk.state c.write_block.new.disk)
block_wrote g c honest =
    let inv = c.loop-done.invariant in
    let start = g.D.Disk.state c.args.disk.now in
    let before = g.D.Disk.state c.loop-done.disk in
    let es : List GPTPartitionEntry = c.args.partitions.now in
    let block = block_of es c.loop-done.done c.min-end.result in
    let count : length block ≡ c.min-end.result - c.loop-done.done = block_count es c.loop-done.done c.min-end.result (omega arith) in
    let low : start.position ≤ before.position = omega (arith, inv.position) in
    let high : before.position + 128 * length block ≤ start.position + 128 * length es = omega (arith, inv.position, inv.within, count) in
    wrote_then (within_range low high) (inv.wrote honest) (c.write_block.ensures.wrote (inv.wrote honest).honest)

pub returns-in_err-write_block-clause-wrote : goal.returns-in_err-write_block-clause-wrote
returns-in_err-write_block-clause-wrote g c = block_wrote g (goal.at.returns-in_err-write_block-clause-wrote g c).After-write_block

pub loop-done-preserved : goal.loop-done-preserved
loop-done-preserved g c =
    let inv = c.loop-done.invariant in
    let next = c.in_ok-write_block.ensures in
    let start = g.D.Disk.state c.args.disk.now in
    let before = g.D.Disk.state c.loop-done.disk in
    let es : List GPTPartitionEntry = c.args.partitions.now in
    let done : ℕ = c.loop-done.done in
    let end : ℕ = c.min-end.result in
    let upto : done ≤ end = omega arith in
    let within : end ≤ length es = omega arith in
    let block = block_of es done end in
    let count : length block ≡ end - done = block_count es done end within in
    let xs : List ℕ = array_bytes (take done es) in
    let long : length xs ≡ 128 * done = omega (arith, array_long (take done es) inv.fits, length-take-le done es inv.within) in
    let size : length (array_bytes block) ≡ 128 * (end - done) = omega (arith, array_long block next.fits, count) in
    record {
      within = within;
      keeps = grind arith;
      counts = omega (arith, inv.counts, next.counts);
      position = omega (arith, next.moves, inv.position, count);
      fits = All-same FitsEntry (take end es) _ (entries_more es done end upto) (All-append FitsEntry (take done es) block inv.fits next.fits);
      wrote = block_wrote g (goal.at.loop-done-preserved g c).After-write_block;
      contents = λ honest.
          let here : before.position ≡ start.position + length xs = omega (arith, inv.position, long) in
          let fits : start.position + length xs + length (array_bytes block) ≤ length start.view = omega (arith, long, size, c.requires, (g.met.D.Disk.sound c.args.disk.now honest).size) in
          next.contents (inv.wrote honest).honest
          ∙ ap (λ v. overlay v before.position (array_bytes block)) (inv.contents honest)
          ∙ ap (λ p. overlay (overlay start.view start.position xs) p (array_bytes block)) here
          ∙ overlay_more start.view start.position xs (array_bytes block) fits
          ∙ ap (λ l. overlay start.view start.position l) (sym (block_more es done end upto));
      still_pending = λ honest. within_then (inv.still_pending honest) (next.still_pending (inv.wrote honest).honest);
    }
