use Rattle.std.proofs.Common.{◌≡◌, ◌++◌, length, ap, ◌∙◌, arith, length-append}
use Rattle.std.proofs.lemmas.Result.{on_ok_weaker}
use Rattle.gptman.specs.Copy.{entries_of}
use Rattle.gptman.proofs.EntryLists.{length-entries_of}
use Rattle.gptman.proofs.header.read.read_block.Goals as goal

pub returns-clause-count : goal.returns-clause-count
returns-clause-count g c = on_ok_weaker c.decode_block.result
    (λ (is : c.decode_block.new.partitions.items ≡ c.args.partitions.now.items ++ entries_of c.read_exact.new.buf c.args.count).
    let joined = ap length is ∙ length-append c.args.partitions.now.items (entries_of c.read_exact.new.buf c.args.count) in
    let long = length-entries_of c.read_exact.new.buf c.args.count in
    omega (arith, joined, long))
    c.decode_block.ensures.entries
