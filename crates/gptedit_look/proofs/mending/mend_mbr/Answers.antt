use Rattle.std.proofs.Common.{◌≡◌, ◌≤◌, ◌/◌, ℕ, List, [], ◌∷◌, max, ap, sym, subst, ◌∙◌, arith}
use Rattle.gptman.specs.Mbr.{mbr_range}
use Rattle.gptman.specs.Bytes.{part}
use Rattle.gptman.proofs.Ranges.{within_self}
use Rattle.gptman.proofs.Readers.{both_read}
use Rattle.gptedit_look.specs.Mended.{first_bytes, sectors_of, IsChange, IsDone, IsForeign}
use Rattle.gptedit_look.proofs.Changes.{change_done, change_dry, plan_at}
use Rattle.gptedit_look.proofs.Writing.{writes_read, writes_then}
use Rattle.gptedit_look.proofs.mending.mend_mbr.Goals as goal

pub returns-in_err-bytes-clause-others : goal.returns-in_err-bytes-clause-others
returns-in_err-bytes-clause-others g c = λ honest foreign. both_read c.seek_end.ensures.reads c.read_first.ensures.reads

pub returns-then-is_dry-clause-wrote : goal.returns-then-is_dry-clause-wrote
returns-then-is_dry-clause-wrote g c = writes_read (mbr_range ∷ []) (both_read c.seek_end.ensures.reads c.read_first.ensures.reads)

pub returns-then-is_dry-clause-dry : goal.returns-then-is_dry-clause-dry
returns-then-is_dry-clause-dry g c = λ dry. both_read c.seek_end.ensures.reads c.read_first.ensures.reads

pub returns-then-is_dry-clause-change : goal.returns-then-is_dry-clause-change
returns-then-is_dry-clause-change g c = λ honest.
    let old = g.D.Disk.state c.args.disk.now in
    let new = g.D.Disk.state c.read_first.new.disk in
    let end = c.seek_end.ensures.reads.only honest in
    let bytes : c.in_ok-bytes.bytes ≡ first_bytes old = c.in_ok-bytes.ensures.value end.wrote.honest ∙ ap (λ (v : List ℕ). part v 0 512) end.view in
    let largest : c.max-sector_size.result ≡ max c.args.sector_size 1 = cc in
    let sectors : c.in_ok-size.size / c.max-sector_size.result ≡ sectors_of old c.args.sector_size = λ i. c.in_ok-size.ensures.answer.0 i / largest i in
    let room : 512 ≤ old.size = omega (arith, c.if-size-lt-MBR_END.false, c.in_ok-size.ensures.answer.0) in
    subst (λ x. IsChange c.args.may_make c.args.is_dry c.args.sector_size x old new) (sym c.change_of.ensures)
    (change_dry c.args.may_make c.args.is_dry c.args.sector_size c.plan_of-plan.result old new room c.if-is_dry.true
    (plan_at c.args.may_make c.args.sector_size _ c.in_ok-bytes.bytes c.plan_of-plan.result old bytes sectors c.plan_of-plan.ensures.plan)
    (both_read c.seek_end.ensures.reads c.read_first.ensures.reads))

pub returns-then-is_dry-clause-others : goal.returns-then-is_dry-clause-others
returns-then-is_dry-clause-others g c = λ honest foreign. both_read c.seek_end.ensures.reads c.read_first.ensures.reads

pub returns-in_err-carry_out-clause-wrote : goal.returns-in_err-carry_out-clause-wrote
returns-in_err-carry_out-clause-wrote g c =
    writes_then (mbr_range ∷ []) (mbr_range ∷ []) (within_self (mbr_range ∷ []))
    (writes_read (mbr_range ∷ []) (both_read c.seek_end.ensures.reads c.read_first.ensures.reads)) c.carry_out.ensures.wrote

pub returns-in_err-carry_out-clause-others : goal.returns-in_err-carry_out-clause-others
returns-in_err-carry_out-clause-others g c = λ honest foreign.
    let old = g.D.Disk.state c.args.disk.now in
    let end = c.seek_end.ensures.reads.only honest in
    let bytes : c.in_ok-bytes.bytes ≡ first_bytes old = c.in_ok-bytes.ensures.value end.wrote.honest ∙ ap (λ (v : List ℕ). part v 0 512) end.view in
    both_read (both_read c.seek_end.ensures.reads c.read_first.ensures.reads)
    (c.carry_out.ensures.leaves (c.plan_of-plan.ensures.others (subst IsForeign (sym bytes) foreign)))

pub returns-clause-wrote : goal.returns-clause-wrote
returns-clause-wrote g c =
    writes_then (mbr_range ∷ []) (mbr_range ∷ []) (within_self (mbr_range ∷ []))
    (writes_read (mbr_range ∷ []) (both_read c.seek_end.ensures.reads c.read_first.ensures.reads)) c.carry_out.ensures.wrote

pub returns-clause-change : goal.returns-clause-change
returns-clause-change g c = λ honest.
    let old = g.D.Disk.state c.args.disk.now in
    let mid = g.D.Disk.state c.read_first.new.disk in
    let new = g.D.Disk.state c.carry_out.new.disk in
    let end = c.seek_end.ensures.reads.only honest in
    let read = c.read_first.ensures.reads.only end.wrote.honest in
    let bytes : c.in_ok-bytes.bytes ≡ first_bytes old = c.in_ok-bytes.ensures.value end.wrote.honest ∙ ap (λ (v : List ℕ). part v 0 512) end.view in
    let largest : c.max-sector_size.result ≡ max c.args.sector_size 1 = cc in
    let sectors : c.in_ok-size.size / c.max-sector_size.result ≡ sectors_of old c.args.sector_size = λ i. c.in_ok-size.ensures.answer.0 i / largest i in
    let room : 512 ≤ old.size = omega (arith, c.if-size-lt-MBR_END.false, c.in_ok-size.ensures.answer.0) in
    let done : IsDone c.plan_of-plan.result (max c.args.sector_size 1) mid new =
    subst (λ (n : ℕ). IsDone c.plan_of-plan.result n mid new) largest (c.in_ok-carry_out.ensures.done read.wrote.honest) in
    subst (λ x. IsChange c.args.may_make c.args.is_dry c.args.sector_size x old new) (sym c.change_of-2.ensures)
    (change_done c.args.may_make c.args.is_dry c.args.sector_size c.plan_of-plan.result old mid new room
    (both_read c.seek_end.ensures.reads c.read_first.ensures.reads) (read.view ∙ end.view)
    (plan_at c.args.may_make c.args.sector_size _ c.in_ok-bytes.bytes c.plan_of-plan.result old bytes sectors c.plan_of-plan.ensures.plan) done)

pub returns-clause-others : goal.returns-clause-others
returns-clause-others g c = λ honest foreign.
    let old = g.D.Disk.state c.args.disk.now in
    let end = c.seek_end.ensures.reads.only honest in
    let bytes : c.in_ok-bytes.bytes ≡ first_bytes old = c.in_ok-bytes.ensures.value end.wrote.honest ∙ ap (λ (v : List ℕ). part v 0 512) end.view in
    both_read (both_read c.seek_end.ensures.reads c.read_first.ensures.reads)
    (c.carry_out.ensures.leaves (c.plan_of-plan.ensures.others (subst IsForeign (sym bytes) foreign)))
