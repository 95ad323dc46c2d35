use Rattle.std.proofs.Common.{◌≡◌, ◌≤◌, ◌-◌, ◌*◌, ◌/◌, inl, inr, ℕ, length, Result, Ok, Err, IfOk, sym, ap, ◌∙◌, arith}
use Rattle.gptman.specs.Copy.{Copy, copy_at}
use Rattle.gptman_disk.specs.Disk.{DiskState}
use Rattle.gptman_disk.specs.Fault.{Fault}
use Rattle.gptman.specs.Reading.{backup, copy_in}
use Rattle.gptman_disk.specs.declared.error.Error.{Error}
use Rattle.gptman.proofs.Fallback.{backup_long, backup_short}
use Rattle.gptman.specs.Copies.{IsSeenAs}
use Rattle.gptman.specs.declared.copy.WholeCopy.{WholeCopy}
use Rattle.gptman.proofs.copies.look_at_backup.Goals as goal

found_as : (r : Result (Result WholeCopy Error) Error) (old new : DiskState) (here there : Result Copy Fault) → here ≡ there
    → IfOk r (IsSeenAs here old new) → IfOk r (IsSeenAs there old new)
found_as (Ok (Ok copy)) old new here there same (inr is) = inr (is ∙ same)
found_as (Ok (Ok copy)) old new here there same (inl fails) = inl fails
found_as (Ok (Err e)) old new here there same (inr is) = inr (is ∙ same)
found_as (Ok (Err e)) old new here there same (inl fails) = inl fails
found_as (Err e) old new here there same found = tt

pub returns-then-size-sector_size-clause-value : goal.returns-then-size-sector_size-clause-value
returns-then-size-sector_size-clause-value g c = λ honest.
    let old = g.D.Disk.state c.args.disk.now in
    let size : length old.view ≡ old.size = (g.met.D.Disk.sound c.args.disk.now honest).size in
    inr (sym (backup_short old.view c.args.sector_size (omega (arith, size, c.requires.whole, c.if-size-sector_size.true))))

pub returns-clause-value : goal.returns-clause-value
returns-clause-value g c = λ honest.
    let ss = c.args.sector_size in
    let old = g.D.Disk.state c.args.disk.now in
    let size : length old.view ≡ old.size = (g.met.D.Disk.sound c.args.disk.now honest).size in
    let long : ss ≤ length old.view = omega (arith, size, c.requires.whole, c.if-size-sector_size.false) in
    let here : copy_at old.view ((c.args.size / ss - 1) * ss) ss ≡ copy_in backup old.view ss =
    ap (λ (n : ℕ). copy_at old.view ((n / ss - 1) * ss) ss) (c.requires.whole ∙ sym size) ∙ sym (backup_long old.view ss long) in
    let there : copy_at old.view c.last_sector.result ss ≡ copy_in backup old.view ss = ap (λ (k : ℕ). copy_at old.view k ss) c.last_sector.ensures ∙ here in
    found_as c.look_at.result old (g.D.Disk.state c.look_at.new.disk) _ _ there (c.look_at.ensures.value honest)
