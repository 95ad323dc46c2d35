use Rattle.std.proofs.Common.{◌≡◌, ℕ, List, ap, subst, ◌∙◌}
use Rattle.gptman.proofs.Readers.{both_read}
use Rattle.gptedit_look.specs.Wiped.{header_in, IsOfBeside, IsOfOther, WritesOnly}
use Rattle.gptedit_look.specs.declared.signatures.HeaderPlace.TheVariants.{Start, End}
use Rattle.gptedit_look.specs.declared.signatures.Signature.{Signature}
use Rattle.gptedit_look.proofs.Beside.{cleared_as, only_after, only_as, only_named, only_read, other_of}
use Rattle.gptedit_look.proofs.Clears.{on_ok_as}
use Rattle.gptedit_look.proofs.clearing.clear_signatures.Goals as goal

pub returns-in_err-backup-clause-only : goal.returns-in_err-backup-clause-only
returns-in_err-backup-clause-only g c =
    only_read _ (g.D.Disk.state c.args.disk.now) (g.D.Disk.state c.read_header-2.new.disk) (both_read c.read_header.ensures.reads c.read_header-2.ensures.reads)

pub returns-in_err-backup-clause-spares : goal.returns-in_err-backup-clause-spares
returns-in_err-backup-clause-spares g c = λ honest.
    only_read _ (g.D.Disk.state c.args.disk.now) (g.D.Disk.state c.read_header-2.new.disk) (both_read c.read_header.ensures.reads c.read_header-2.ensures.reads)

pub returns-clause-only : goal.returns-clause-only
returns-clause-only g c =
    let old = g.D.Disk.state c.args.disk.now in
    let mid = g.D.Disk.state c.read_header-2.new.disk in
    let new = g.D.Disk.state c.clear_beside.new.disk in
    let ss = c.args.sector_size in
    let all = c.args.look.now.signatures.items in
    let cleared : WritesOnly (λ k. IsOfBeside c.in_ok-primary.primary c.in_ok-backup.backup ss k all) mid new =
    subst (λ (xs : List Signature). WritesOnly (λ k. IsOfBeside c.in_ok-primary.primary c.in_ok-backup.backup ss k xs) mid new) c.deref.ensures.value c.clear_beside.ensures.only in
    only_as (λ k. IsOfBeside c.in_ok-primary.primary c.in_ok-backup.backup ss k all) (λ k. IsOfOther ss k all) old new
    (other_of c.in_ok-primary.primary c.in_ok-backup.backup ss all)
    (only_after _ old mid new (both_read c.read_header.ensures.reads c.read_header-2.ensures.reads) cleared)

pub returns-clause-spares : goal.returns-clause-spares
returns-clause-spares g c = λ honest.
    let old = g.D.Disk.state c.args.disk.now in
    let mid = g.D.Disk.state c.read_header-2.new.disk in
    let new = g.D.Disk.state c.clear_beside.new.disk in
    let ss = c.args.sector_size in
    let all = c.args.look.now.signatures.items in
    let first = c.read_header.ensures.reads.only honest in
    let cleared : WritesOnly (λ k. IsOfBeside c.in_ok-primary.primary c.in_ok-backup.backup ss k all) mid new =
    subst (λ (xs : List Signature). WritesOnly (λ k. IsOfBeside c.in_ok-primary.primary c.in_ok-backup.backup ss k xs) mid new) c.deref.ensures.value c.clear_beside.ensures.only in
    let backup : c.in_ok-backup.backup ≡ header_in End ss old.view =
    c.in_ok-backup.ensures.found first.wrote.honest ∙ ap (λ (x : List ℕ). header_in End ss x) first.view in
    only_named c.in_ok-primary.primary c.in_ok-backup.backup (header_in Start ss old.view) (header_in End ss old.view) ss all old new
    (c.in_ok-primary.ensures.found honest) backup
    (only_after _ old mid new (both_read c.read_header.ensures.reads c.read_header-2.ensures.reads) cleared)

pub returns-clause-cleared : goal.returns-clause-cleared
returns-clause-cleared g c = λ honest.
    let ss = c.args.sector_size in
    let b = (g.D.Disk.state c.args.disk.now).view in
    let first = c.read_header.ensures.reads.only honest in
    let second = c.read_header-2.ensures.reads.only first.wrote.honest in
    let backup : c.in_ok-backup.backup ≡ header_in End ss b =
    c.in_ok-backup.ensures.found first.wrote.honest ∙ ap (λ (x : List ℕ). header_in End ss x) first.view in
    on_ok_as c.clear_beside.result (c.clear_beside.ensures.cleared second.wrote.honest)
    (cleared_as c.in_ok-primary.primary c.in_ok-backup.backup (header_in Start ss b) (header_in End ss b) ss _ c.args.look.now.signatures.items
    (g.D.Disk.state c.clear_beside.new.disk) (c.in_ok-primary.ensures.found honest) backup c.deref.ensures.value)
