use Rattle.std.proofs.Common.{◌≡◌, ◌≢◌, ◌*◌, ◌/◌, ℕ, Some, None, inl, ap, ◌∙◌, subst}
use Rattle.std.specs.Prelude.{if◌then◌else◌, OnOk}
use Rattle.std.specs.Int.{div_ceil}
use Rattle.gptman_disk.specs.Fault.{overflow}
use Rattle.gptman.specs.Fit.{array_size, array_sectors, is_too_small, fit_to_sectors}
use Rattle.gptman.proofs.Fitting.{fit_fault_is}
use Rattle.gptman.proofs.codec.header.GPTHeader.update_from.Given.{Over}
use Rattle.gptman.proofs.codec.header.GPTHeader.update_from.Goals as goal

-- The length of the disk, and the sectors of the entries, which are not empty.
record IsGiven (g : Over) (c : goal.After-fit g) : Type 0 where
  some : array_size c.args.self.now ≢ 0
  length_is : c.in_ok-sectors.field-0 ≡ (g.D.Disk.state c.args.disk.now).size
  sectors_is : c.div_ceil.result ≡ array_sectors c.args.self.now c.args.sector_size

given : (g : Over) (c : goal.After-fit g) → IsGiven g c
given g c =
    let array : c.from.result * c.from-2.result ≡ array_size c.args.self.now = cc in
    record {
      some = λ zero. c.if-array_size-eq0.false (array ∙ zero);
      length_is = c.in_ok-sectors.ensures.answer.0;
      sectors_is = c.div_ceil.ensures ∙ ap (λ (n : ℕ). div_ceil n c.args.sector_size) array;
    }

pub returns-clause-answer : goal.returns-clause-answer
returns-clause-answer g c =
    let h = c.args.self.now in
    let size = (g.D.Disk.state c.args.disk.now).size in
    let ss = c.args.sector_size in
    inl (c.fit.ensures.answer
    ∙ ap (λ (n : ℕ). if is_too_small (n / ss) c.div_ceil.result then Some overflow else None) (given g c).length_is
    ∙ ap (λ (n : ℕ). if is_too_small (size / ss) n then Some overflow else None) (given g c).sectors_is
    ∙ fit_fault_is h ss size (given g c).some)

pub returns-clause-value : goal.returns-clause-value
returns-clause-value g c =
    let h = c.args.self.now in
    let ss = c.args.sector_size in
    subst (λ (n : ℕ). OnOk c.fit.result (c.fit.new.self ≡ fit_to_sectors h ((g.D.Disk.state c.args.disk.now).size / ss) n)) (given g c).sectors_is
    (subst (λ (n : ℕ). OnOk c.fit.result (c.fit.new.self ≡ fit_to_sectors h (n / ss) c.div_ceil.result)) (given g c).length_is c.fit.ensures.value)
