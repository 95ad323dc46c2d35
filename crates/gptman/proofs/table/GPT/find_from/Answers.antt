use Rattle.std.proofs.Common.{◌≡◌, ◌⊎◌, ⊎_elim, true, false, inl, inr, sym, ap, subst, ◌∙◌, List, ℕ, IsTrue, Ok, length, rules}
use Rattle.std.specs.Prelude.{IfOk}
use Rattle.gptman.specs.Copy.{Copy}
use Rattle.gptman_disk.specs.Disk.{Rose}
use Rattle.gptman_disk.specs.Fault.{fault_of, is_signature_fault}
use Rattle.gptman.specs.Reading.{found_sector_size, reading_of}
use Rattle.gptman.proofs.Fallback.{found_first, found_ok, found_second, second_counts, second_read, signature_fault}
use Rattle.gptman.proofs.Readers.{both_read}
use Rattle.gptman.proofs.Runs.{rose_before, rose_since}
use Rattle.gptman.proofs.table.GPT.find_from.Given.{Over}
use Rattle.gptman.proofs.table.GPT.find_from.Goals as goal
use Rattle.gptman.proofs.table.GPT.find_from.Goals.{After-read_from-2}

-- The disk was read with sectors of 512 bytes.
read_at_512 : {X : Type 0} (b : List ℕ) (copy : Copy) → X ⊎ (⊥ ⊎ (Ok copy ≡ reading_of b 512)) → X ⊎ ((found_sector_size b ≡ 512) × (Ok copy ≡ reading_of b 512))
read_at_512 b copy answer = ⊎_elim inl (⊎_elim (λ out. absurd out) (λ is. inr (found_ok b copy (sym is), is))) answer

pub returns-in-Ok-clause-answer : goal.returns-in-Ok-clause-answer
returns-in-Ok-clause-answer g c = λ honest.
    let b = (g.D.Disk.state c.args.disk.now).view in
    ⊎_elim inl (λ read. inr (inr (read.1 ∙ ap (reading_of b) (sym read.0)))) (read_at_512 b _ (c.in-Ok.ensures.answer honest))

pub returns-in-Ok-clause-found : goal.returns-in-Ok-clause-found
returns-in-Ok-clause-found g c = λ honest.
    ⊎_elim inl (λ read. inr (c.in-Ok.ensures.sector ∙ sym read.0)) (read_at_512 (g.D.Disk.state c.args.disk.now).view _ (c.in-Ok.ensures.answer honest))

pub returns-then-not-is_invalid_signature-clause-answer : goal.returns-then-not-is_invalid_signature-clause-answer
returns-then-not-is_invalid_signature-clause-answer g c = λ honest.
    let b = (g.D.Disk.state c.args.disk.now).view in
    let other : is_signature_fault (fault_of c.in-Err.fault) ≡ false = search rules in
    ⊎_elim (λ rose. inl rose)
    (λ rest. ⊎_elim (λ out. inr (inl out)) (λ is. inr (inr (is ∙ ap (reading_of b) (sym (found_first b _ (sym is) other))))) rest)
    (c.in-Err.ensures.answer honest)

pub returns-clause-reads : goal.returns-clause-reads
returns-clause-reads g c = both_read c.read_from.ensures.reads c.read_from-2.ensures.reads

-- With sectors of 512 bytes no signature was found,
none_at_512 : (g : Over) (c : After-read_from-2 g) → is_signature_fault (fault_of c.in-Err.fault) ≡ true
none_at_512 g c = search rules

-- so they have 4096, unless the disk failed.
found_4096 : (g : Over) (c : After-read_from-2 g) → IsTrue (g.D.Disk.state c.args.disk.now).is_honest
    → Rose (g.D.Disk.state c.args.disk.now) (g.D.Disk.state c.read_from-2.new.disk) ⊎ (found_sector_size (g.D.Disk.state c.args.disk.now).view ≡ 4096)
found_4096 g c honest =
    let none = none_at_512 g c in
    ⊎_elim (λ rose. inl (rose_before (g.D.Disk.state c.args.disk.now) (g.D.Disk.state c.read_from.new.disk) (g.D.Disk.state c.read_from-2.new.disk) rose c.read_from-2.ensures.reads.keeps))
    (⊎_elim (λ out. let e = ap is_signature_fault out in absurd (cc)) (λ is. inr (found_second _ _ (sym is) none))) (c.in-Err.ensures.answer honest)

pub returns-clause-answer : goal.returns-clause-answer
returns-clause-answer g c = λ honest.
    let old = g.D.Disk.state c.args.disk.now in
    let mid = g.D.Disk.state c.read_from.new.disk in
    let first = c.read_from.ensures.reads.only honest in
    ⊎_elim inl
    (λ great. ⊎_elim (λ rose. inl (rose_since old mid (g.D.Disk.state c.read_from-2.new.disk) c.read_from.ensures.reads.keeps rose))
    (⊎_elim (λ out. inr (inl out)) (λ said. inr (inr (said ∙ ap (λ (b : List ℕ). reading_of b 4096) first.view ∙ ap (reading_of old.view) (sym great)))))
    (c.read_from-2.ensures.answer first.wrote.honest))
    (found_4096 g (goal.at.returns-clause-answer g c).After-read_from-2 honest)

pub returns-clause-found : goal.returns-clause-found
returns-clause-found g c = λ honest.
    ⊎_elim inl (λ great. inr (subst (λ (n : ℕ). IfOk c.read_from-2.result (λ g. g.sector_size ≡ n)) (sym great) c.read_from-2.ensures.sector))
    (found_4096 g (goal.at.returns-clause-found g c).After-read_from-2 honest)

pub returns-clause-accepted : goal.returns-clause-accepted
returns-clause-accepted g c = λ honest.
    let first = c.read_from.ensures.reads.only honest in
    let second = c.read_from-2.ensures in
    second_read c.read_from-2.result (g.D.Disk.state c.args.disk.now) (g.D.Disk.state c.read_from.new.disk) (g.D.Disk.state c.read_from-2.new.disk) first.view c.read_from.ensures.reads.keeps second.sector (second.accepted first.wrote.honest)

pub returns-clause-counts : goal.returns-clause-counts
returns-clause-counts g c = λ honest.
    let old = g.D.Disk.state c.args.disk.now in
    let first = c.read_from.ensures.reads.only honest in
    let second = c.read_from-2.ensures in
    let size : length old.view ≡ old.size = (g.met.D.Disk.sound c.args.disk.now honest).size in
    second_counts c.read_from-2.result old (g.D.Disk.state c.read_from.new.disk) (g.D.Disk.state c.read_from-2.new.disk) first.view size (c.in-Err.ensures.unsigned (signature_fault _ (none_at_512 g (goal.at.returns-clause-counts g c).After-read_from-2)))
    second.sector (second.accepted first.wrote.honest) (second.counts first.wrote.honest)
