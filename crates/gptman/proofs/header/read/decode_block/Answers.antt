use Rattle.std.proofs.Common.{◌≡◌, ◌*◌, ◌++◌, [], ◌∷◌, List, sym, ap, ◌∙◌, rules}
use Rattle.std.proofs.lemmas.List.{append-nil, append_assoc}
use Rattle.gptman_disk.specs.Bytes.{part}
use Rattle.gptman.specs.Coding.{entry_of}
use Rattle.gptman.specs.Copy.{entries_of}
use Rattle.gptman.specs.declared.codec.entry.GPTPartitionEntry.{GPTPartitionEntry}
use Rattle.gptman.proofs.EntryBytes.{entry_is}
use Rattle.gptman.proofs.EntryLists.{entries_of-more, part-slice}
use Rattle.gptman.proofs.header.read.decode_block.Goals as goal

pub loop-k-init : goal.loop-k-init
unfolding entries_of
loop-k-init c = sym (append-nil c.args.partitions.now.items)

pub loop-k-preserved : goal.loop-k-preserved
loop-k-preserved c =
    let y = c.args.bytes.now in
    let k = c.loop-k.k in
    let before = c.args.partitions.now.items in
    let entry : c.in_ok-entry.entry ≡ entry_of (part y (128 * k) 128) =
    entry_is c.in_ok-entry.entry _ c.in_ok-entry.ensures.coding c.in_ok-entry.ensures.name ∙ ap entry_of (c.part_at.ensures ∙ part-slice y (128 * k) 128) in
    let pushed : c.push.new.self.items ≡ c.loop-k.partitions.items ++ c.in_ok-entry.entry ∷ [] = search rules in
    pushed
    ∙ ap (λ (es : List GPTPartitionEntry). es ++ c.in_ok-entry.entry ∷ []) c.loop-k.invariant
    ∙ ap (λ (e : GPTPartitionEntry). (before ++ entries_of y k) ++ e ∷ []) entry
    ∙ append_assoc before (entries_of y k) (entry_of (part y (128 * k) 128) ∷ [])
    ∙ ap (λ (es : List GPTPartitionEntry). before ++ es) (sym (entries_of-more y k))
