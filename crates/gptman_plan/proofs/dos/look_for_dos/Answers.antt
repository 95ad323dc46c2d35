use Rattle.std.proofs.Common.{[], ◌∷◌, inl, refl, sym, ◌∙◌, arith}
use Rattle.std.proofs.lemmas.Bool.{false≢true}
use Rattle.gptman.specs.Bytes.{part}
use Rattle.gptman_plan.specs.Ends.{HaveRange, zeroed}
use Rattle.gptman_plan.specs.Reading.{IsLack}
use Rattle.gptman_plan.specs.Rounds.{first_sector}
use Rattle.gptman_plan.proofs.Asked.{lack_at}
use Rattle.gptman_plan.proofs.Seen.{is_clear, is_dos, none_short}
use Rattle.gptman_plan.proofs.KnownCopies.{at_none}
use Rattle.gptman_plan.proofs.dos.look_for_dos.Goals as goal

pub returns-then-ends-lt512 : goal.returns-then-ends-lt512
returns-then-ends-lt512 c = λ b ends. none_short b (omega (arith, ends.long, c.if-ends-lt512.true))

pub returns-then-is_dos_sector : goal.returns-then-is_dos_sector
returns-then-is_dos_sector c =
    let a = c.args in
    let made = c.new-disk.ensures in
    let known = at_none (HaveRange a.ends.now (0, 512)) (IsLack a.ends.now) c.lack_of.result c.in_default.is c.lack_of.ensures.known in
    is_dos a.ends.now known c.fill.new.buf
    (c.fill.ensures ∙ (λ i. part (zeroed (made.ends i)) (made.position i) 512))
    (c.is_dos_sector.ensures.0 c.if-is_dos_sector.true)

pub returns-else-is_dos_sector : goal.returns-else-is_dos_sector
returns-else-is_dos_sector c =
    let a = c.args in
    let made = c.new-disk.ensures in
    let known = at_none (HaveRange a.ends.now (0, 512)) (IsLack a.ends.now) c.lack_of.result c.in_default.is c.lack_of.ensures.known in
    is_clear a.ends.now known c.fill.new.buf
    (c.fill.ensures ∙ (λ i. part (zeroed (made.ends i)) (made.position i) 512))
    (λ is. false≢true (sym c.if-is_dos_sector.false ∙ c.is_dos_sector.ensures.1 is))

pub returns-in-Some : goal.returns-in-Some
returns-in-Some c =
    let a = c.args in
    let asked = c.in-Some.ensures.asked in
    lack_at a.ends.now (λ _. first_sector ∷ []) 0 512 c.in-Some.lack asked.0 asked.1 (λ b ends. inl refl) c.in-Some.ensures.known
