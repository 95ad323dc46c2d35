use Rattle.std.proofs.Common.{◌≡◌, ◌≤◌, ◌+◌, ◌-◌, ◌*◌, ◌++◌, ℕ, List, refl, inl, inr, ap, ◌∙◌, subst, arith, rules}
use Rattle.gptman_disk.specs.Bytes.{part}
use Rattle.gptman.specs.Copy.{entries_of}
use Rattle.gptman.specs.Register.{HasTaken}
use Rattle.gptman.specs.declared.codec.entry.GPTPartitionEntry.{GPTPartitionEntry}
use Rattle.gptman.proofs.EntryLists.{entries_of-blocks, part-more}
use Rattle.gptman.proofs.Readers.{reads_not, reads_then}
use Rattle.gptman.proofs.header.read.read_array.Goals as goal

pub loop-done-init : goal.loop-done-init
unfolding entries_of
loop-done-init g c = record {
  keeps = search rules;
  counts = refl;
  few = omega arith;
  position = omega arith;
  within = inl refl;
  long = search rules;
  reads = λ honest. reads_not _ honest (g.met.D.Disk.sound c.args.disk.now honest);
  entries = λ honest. search rules;
  taken = λ honest. c.new-checksum.ensures;
}

pub loop-done-preserved : goal.loop-done-preserved
loop-done-preserved g c =
    let start = g.D.Disk.state c.args.disk.now in
    let here = g.D.Disk.state c.loop-done.disk in
    let inv = c.loop-done.invariant in
    let done = c.loop-done.done in
    let n = c.min-block.result in
    let some : n ≤ c.args.count - done = omega (arith, c.min-block.ensures) in
    record {
      keeps = search rules;
      counts = omega (arith, inv.counts, c.in_ok-read_block.ensures.counts);
      few = omega (arith, some, inv.few);
      position = omega (arith, c.in_ok-read_block.ensures.moves, inv.position);
      within = inr (omega (arith, c.in_ok-read_block.ensures.within, inv.position, inv.keeps.size));
      long = omega (arith, c.in_ok-read_block.ensures.count, inv.long);
      reads = λ honest. reads_then (inv.reads honest) (c.read_block.ensures.reads.only (inv.reads honest).wrote.honest);
      entries = λ honest.
          let reads = inv.reads honest in
          c.in_ok-read_block.ensures.entries reads.wrote.honest
          ∙ ap (λ (es : List GPTPartitionEntry). es ++ entries_of (part here.view here.position (128 * n)) n) (inv.entries honest)
          ∙ ap (λ (b : List ℕ). entries_of (part start.view start.position (128 * done)) done ++ entries_of (part b here.position (128 * n)) n) reads.view
          ∙ ap (λ (k : ℕ). entries_of (part start.view start.position (128 * done)) done ++ entries_of (part start.view k (128 * n)) n) inv.position
          ∙ entries_of-blocks start.view start.position done n;
      taken = λ honest.
          let reads = inv.reads honest in
          let before : List ℕ = part start.view start.position (128 * done) in
          let all : 128 * done + 128 * n ≡ 128 * (done + n) = omega arith in
          let joined : before ++ part here.view here.position (128 * n) ≡ part start.view start.position (128 * (done + n)) =
          ap (λ (b : List ℕ). before ++ part b here.position (128 * n)) reads.view
          ∙ ap (λ (k : ℕ). before ++ part start.view k (128 * n)) inv.position
          ∙ part-more start.view start.position (128 * done) (128 * n)
          ∙ ap (part start.view start.position) all in
          subst (λ (m : List ℕ). HasTaken c.read_block.new.checksum m) joined
          (c.in_ok-read_block.ensures.checksum reads.wrote.honest before (inv.taken honest));
    }
