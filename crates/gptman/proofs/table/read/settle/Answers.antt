use Rattle.std.proofs.Common.{◌≡◌, ◌≢◌, true, sym, subst, rules}
use Rattle.std.specs.Prelude.{IsTrue}
use Rattle.gptman.specs.Answers.{is_copy_fault}
use Rattle.gptman.specs.TableReads.{is_reading_fault}
use Rattle.gptman_disk.specs.Fault.{Fault, fault_of, io, out_of_memory}
use Rattle.gptman.proofs.Fallback.{both_kinds, damage_from}
use Rattle.gptman.proofs.table.read.settle.Goals as goal

pub returns-clause-kinds : goal.returns-clause-kinds
returns-clause-kinds c =
    let copy : is_copy_fault (fault_of c.in-Err.backup) ≡ true = search rules in
    let known : fault_of c.in-Err.backup ≢ out_of_memory = search rules in
    let kinds = both_kinds (fault_of c.args.primary) (fault_of c.in-Err.backup) c.requires.damage (damage_from (fault_of c.in-Err.backup) copy known) in
    subst (λ (f : Fault). (f ≢ io) × IsTrue (is_reading_fault f)) (sym c.in_ok-both.ensures.both) kinds
