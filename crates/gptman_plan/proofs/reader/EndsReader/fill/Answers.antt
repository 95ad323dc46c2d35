use Rattle.std.proofs.Common.{◌≡◌, ◌<◌, ◌+◌, ◌++◌, ◌∷◌, [], ℕ, List, length, ◌∙◌, sym, ap, arith}
use Rattle.std.proofs.lemmas.List.{take_all, take_more_set}
use Rattle.gptman.specs.Bytes.{part}
use Rattle.gptman_plan.specs.Ends.{length-zeroed, zeroed}
use Rattle.gptman_plan.proofs.Known.{part_more}
use Rattle.gptman_plan.proofs.reader.EndsReader.fill.Goals as goal

pub loop-i-preserved : goal.loop-i-preserved
loop-i-preserved c =
    let d = c.args.self.now in
    let disk : List ℕ = zeroed d.ends in
    let room : c.loop-i.i < length c.loop-i.buf = omega arith in
    let on : d.position + c.loop-i.i < length disk = omega (arith, c.requires, length-zeroed d.ends) in
    take_more_set c.loop-i.buf c.loop-i.i c.byte_at.result room ∙ (λ k. c.loop-i.invariant k ++ c.byte_at.ensures k ∷ [])
    ∙ sym (part_more disk d.position c.loop-i.i on)

pub returns : goal.returns
returns c =
    let d = c.args.self.now in
    let disk : List ℕ = zeroed d.ends in
    let all : c.loop-i.i ≡ length c.args.buf.now = omega arith in
    sym (take_all c.loop-i.i c.loop-i.buf (omega arith)) ∙ c.loop-i.invariant ∙ ap (λ (n : ℕ). part disk d.position n) all
