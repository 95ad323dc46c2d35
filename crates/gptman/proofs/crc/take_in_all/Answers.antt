use Rattle.std.proofs.Common.{ℕ, ◌/◌, ◌*◌, List, length, drop, ap, ◌∙◌}
use Rattle.std.specs.Prelude.{fold}
use Rattle.gptman.specs.Register.{with_message}
use Rattle.gptman.proofs.ByBlock.{chunks_and_rest}
use Rattle.gptman.proofs.crc.take_in_all.Goals as goal

pub returns : goal.returns
returns c =
    let blocks = c.take_in_blocks.ensures ∙ ap (λ (b : List (List ℕ)). fold with_message c.args.register b) c.as_chunks.ensures.front in
    c.take_in_bytes.ensures
    ∙ ap (λ (b : List ℕ). with_message c.take_in_blocks.result b) c.as_chunks.ensures.back
    ∙ ap (λ (r : ℕ). with_message r (drop (length c.args.bytes.now / 8 * 8) c.args.bytes.now)) blocks
    ∙ chunks_and_rest c.args.register (length c.args.bytes.now / 8) c.args.bytes.now
