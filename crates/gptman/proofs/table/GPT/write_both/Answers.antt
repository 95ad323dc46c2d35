use Rattle.std.proofs.Common.{◌≡◌, ◌∙◌, refl, sym, ap, subst, ℕ, List, IsTrue}
use Rattle.std.proofs.lemmas.Result.{err_from_is_err_and}
use Rattle.gptman.specs.Copy.{with_checksums}
use Rattle.gptman_disk.specs.Disk.{LeavesPending, Wrote}
use Rattle.gptman.specs.Write.{copy_write_fault, header_range, other_header, copy_ranges, HasBytes}
use Rattle.gptman.specs.Table.{entries_in}
use Rattle.gptman.specs.declared.codec.entry.GPTPartitionEntry.{GPTPartitionEntry}
use Rattle.gptman.specs.declared.codec.header.GPTHeader.{GPTHeader}
use Rattle.gptman.proofs.Outcomes.{on_err_of}
use Rattle.gptman.proofs.Runs.{rose_since}
use Rattle.gptman.proofs.TwoCopies.{both_allowed, copied_are_there, room_inside, wrote_other, wrote_own}
use Rattle.gptman.proofs.TwoPlaces.{ComesFor, IsCopied, after_of, both_done, copied, first_fails, order_of, second_fails, stored_of}
use Rattle.gptman.proofs.table.GPT.write_both.Given.{Over}
use Rattle.gptman.proofs.table.GPT.write_both.Goals as goal

-- ---- the other copy could not be written or synced

-- The other copy's ranges were written.
other_begun : (g : Over) (c : goal.After-from_residual g) (honest : IsTrue (g.D.Disk.state c.args.disk.now).is_honest)
    → Wrote (copy_ranges (other_header c.args.self.now.header) c.args.self.now.sector_size) (g.D.Disk.state c.args.disk.now) (g.D.Disk.state c.write_and_sync.new.disk)
other_begun g c honest =
    subst (λ (h : GPTHeader). Wrote (copy_ranges h c.args.self.now.sector_size) (g.D.Disk.state c.args.disk.now) (g.D.Disk.state c.write_and_sync.new.disk))
    c.requires.other (c.write_and_sync.ensures.wrote honest)

-- The own copy's ranges were written after the other copy.
other_then : (g : Over) (c : goal.After-from_residual-in_err-write_and_sync-2 g) (honest : IsTrue (g.D.Disk.state c.args.disk.now).is_honest)
    → IsCopied (other_header c.args.self.now.header) (entries_in c.args.self.now) c.args.self.now.sector_size (g.D.Disk.state c.args.disk.now) (g.D.Disk.state c.write_and_sync.new.disk)
other_then g c honest =
    let first = c.in_ok-write_and_sync.ensures in
    copied (other_header c.args.self.now.header) c.args.other c.write_and_sync.new.header (entries_in c.args.self.now) _ c.args.self.now.sector_size _ _ c.requires.other
    c.as_slice-entries.ensures.items first.value first.fits (first.contents honest) (first.synced honest)

-- Both were written.
other_done : (g : Over) (c : goal.In_ok-write_and_sync-2 g) (honest : IsTrue (g.D.Disk.state c.args.disk.now).is_honest)
    → IsCopied (other_header c.args.self.now.header) (entries_in c.args.self.now) c.args.self.now.sector_size (g.D.Disk.state c.args.disk.now) (g.D.Disk.state c.write_and_sync.new.disk)
other_done g c honest =
    let first = c.in_ok-write_and_sync.ensures in
    copied (other_header c.args.self.now.header) c.args.other c.write_and_sync.new.header (entries_in c.args.self.now) _ c.args.self.now.sector_size _ _ c.requires.other
    c.as_slice-entries.ensures.items first.value first.fits (first.contents honest) (first.synced honest)

come_first : (g : Over) (c : goal.After-from_residual g) (honest : IsTrue (g.D.Disk.state c.args.disk.now).is_honest)
    → ComesFor c.args.self.now (g.D.Disk.state c.args.disk.now) (g.D.Disk.state c.write_and_sync.new.disk) (g.met.D.Disk.sound c.args.disk.now honest).size
come_first g c honest side form laid =
    let new = g.D.Disk.state c.write_and_sync.new.disk in
    first_fails side c.args.self.now.header (entries_in c.args.self.now) c.args.self.now.sector_size (g.D.Disk.state c.args.disk.now).size form laid
    (g.D.Disk.state c.args.disk.now) new (other_begun g c honest)
    (subst (λ (h : GPTHeader). LeavesPending (header_range h c.args.self.now.sector_size) (g.D.Disk.state c.args.disk.now) new) c.requires.other
    (c.in_err-write_and_sync.ensures.failed honest))

pub returns-in_err-write_and_sync-clause-order : goal.returns-in_err-write_and_sync-clause-order
returns-in_err-write_and_sync-clause-order g c = λ from.
    order_of c.args.self.now (g.D.Disk.state c.args.disk.now) (g.D.Disk.state c.write_and_sync.new.disk) (g.met.D.Disk.sound c.args.disk.now from.start.honest).size from
    (come_first g c from.start.honest)

pub returns-in_err-write_and_sync-clause-after : goal.returns-in_err-write_and_sync-clause-after
returns-in_err-write_and_sync-clause-after g c = λ from.
    on_err_of _ (after_of c.args.self.now (g.D.Disk.state c.args.disk.now) (g.D.Disk.state c.write_and_sync.new.disk) (g.met.D.Disk.sound c.args.disk.now from.start.honest).size from
    (come_first g c from.start.honest))

pub returns-in_err-write_and_sync-clause-wrote : goal.returns-in_err-write_and_sync-clause-wrote
returns-in_err-write_and_sync-clause-wrote g c = λ honest.
    wrote_other c.args.self.now.header c.args.other c.args.self.now.sector_size c.requires.other (c.write_and_sync.ensures.wrote honest)

-- ---- the own copy could not be written or synced

come_second : (g : Over) (c : goal.After-from_residual-in_err-write_and_sync-2 g) (honest : IsTrue (g.D.Disk.state c.args.disk.now).is_honest)
    → ComesFor c.args.self.now (g.D.Disk.state c.args.disk.now) (g.D.Disk.state c.write_and_sync-2.new.disk) (g.met.D.Disk.sound c.args.disk.now honest).size
come_second g c honest side form laid =
    let first = c.write_and_sync.ensures.wrote honest in
    second_fails side c.args.self.now.header (entries_in c.args.self.now) c.args.self.now.sector_size (g.D.Disk.state c.args.disk.now).size form laid
    (g.D.Disk.state c.args.disk.now) (g.D.Disk.state c.write_and_sync.new.disk) (g.D.Disk.state c.write_and_sync-2.new.disk)
    (g.met.D.Disk.bounded c.args.disk.now) (g.met.D.Disk.sound c.args.disk.now honest).size
    (subst (λ (h : GPTHeader). Wrote (copy_ranges h c.args.self.now.sector_size) (g.D.Disk.state c.args.disk.now) (g.D.Disk.state c.write_and_sync.new.disk)) c.requires.other first)
    (other_then g c honest) (c.write_and_sync-2.ensures.wrote first.honest) (c.in_err-write_and_sync-2.ensures.failed first.honest)

pub returns-in_err-write_and_sync-2-clause-order : goal.returns-in_err-write_and_sync-2-clause-order
returns-in_err-write_and_sync-2-clause-order g c = λ from.
    order_of c.args.self.now (g.D.Disk.state c.args.disk.now) (g.D.Disk.state c.write_and_sync-2.new.disk) (g.met.D.Disk.sound c.args.disk.now from.start.honest).size from
    (come_second g c from.start.honest)

pub returns-in_err-write_and_sync-2-clause-after : goal.returns-in_err-write_and_sync-2-clause-after
returns-in_err-write_and_sync-2-clause-after g c = λ from.
    on_err_of _ (after_of c.args.self.now (g.D.Disk.state c.args.disk.now) (g.D.Disk.state c.write_and_sync-2.new.disk) (g.met.D.Disk.sound c.args.disk.now from.start.honest).size from
    (come_second g c from.start.honest))

pub returns-in_err-write_and_sync-2-clause-refused : goal.returns-in_err-write_and_sync-2-clause-refused
returns-in_err-write_and_sync-2-clause-refused g c =
    let p = err_from_is_err_and c.from_residual-in_err-write_and_sync-2.result c.from_residual-in_err-write_and_sync-2.ensures.1 in
    let failed = c.in_err-write_and_sync-2.ensures.refused in
    rw (p.1, p.2) (failed.0, rose_since _ (g.D.Disk.state c.write_and_sync.new.disk) (g.D.Disk.state c.write_and_sync-2.new.disk) c.write_and_sync.ensures.keeps failed.1)

pub returns-in_err-write_and_sync-2-clause-wrote : goal.returns-in_err-write_and_sync-2-clause-wrote
returns-in_err-write_and_sync-2-clause-wrote g c = λ honest.
    let other = wrote_other c.args.self.now.header c.args.other c.args.self.now.sector_size c.requires.other (c.write_and_sync.ensures.wrote honest) in
    wrote_own c.args.self.now.header c.args.self.now.sector_size other (c.write_and_sync-2.ensures.wrote other.honest)

-- ---- both copies were written

own_done : (g : Over) (c : goal.In_ok-write_and_sync-2 g) (honest : IsTrue (g.D.Disk.state c.args.disk.now).is_honest)
    → IsCopied c.args.self.now.header (entries_in c.args.self.now) c.args.self.now.sector_size (g.D.Disk.state c.write_and_sync.new.disk) (g.D.Disk.state c.write_and_sync-2.new.disk)
own_done g c honest =
    let still = (c.write_and_sync.ensures.wrote honest).honest in
    let second = c.in_ok-write_and_sync-2.ensures in
    copied c.args.self.now.header c.args.self.now.header c.write_and_sync-2.new.header (entries_in c.args.self.now) _ c.args.self.now.sector_size _ _ refl
    c.as_slice-entries.ensures.items second.value second.fits (second.contents still) (second.synced still)

come_both : (g : Over) (c : goal.In_ok-write_and_sync-2 g) (honest : IsTrue (g.D.Disk.state c.args.disk.now).is_honest)
    → ComesFor c.args.self.now (g.D.Disk.state c.args.disk.now) (g.D.Disk.state c.write_and_sync-2.new.disk) (g.met.D.Disk.sound c.args.disk.now honest).size
come_both g c honest side form laid =
    let first = c.write_and_sync.ensures.wrote honest in
    both_done side c.args.self.now.header (entries_in c.args.self.now) c.args.self.now.sector_size (g.D.Disk.state c.args.disk.now).size form laid
    (g.D.Disk.state c.args.disk.now) (g.D.Disk.state c.write_and_sync.new.disk) (g.D.Disk.state c.write_and_sync-2.new.disk)
    (g.met.D.Disk.bounded c.args.disk.now) (g.met.D.Disk.sound c.args.disk.now honest).size
    (subst (λ (h : GPTHeader). Wrote (copy_ranges h c.args.self.now.sector_size) (g.D.Disk.state c.args.disk.now) (g.D.Disk.state c.write_and_sync.new.disk)) c.requires.other first)
    (other_done g c honest) (c.write_and_sync-2.ensures.wrote first.honest) (own_done g c honest)

pub returns-clause-order : goal.returns-clause-order
returns-clause-order g c = λ from.
    order_of c.args.self.now (g.D.Disk.state c.args.disk.now) (g.D.Disk.state c.write_and_sync-2.new.disk) (g.met.D.Disk.sound c.args.disk.now from.start.honest).size from
    (come_both g c from.start.honest)

pub returns-clause-wrote : goal.returns-clause-wrote
returns-clause-wrote g c = λ honest.
    let other = wrote_other c.args.self.now.header c.args.other c.args.self.now.sector_size c.requires.other (c.write_and_sync.ensures.wrote honest) in
    wrote_own c.args.self.now.header c.args.self.now.sector_size other (c.write_and_sync-2.ensures.wrote other.honest)

pub returns-clause-stored : goal.returns-clause-stored
returns-clause-stored g c = λ start.
    stored_of c.args.self.now (g.D.Disk.state c.args.disk.now) (g.D.Disk.state c.write_and_sync-2.new.disk) (g.met.D.Disk.sound c.args.disk.now start.honest).size
    (g.D.Disk.state c.write_and_sync.new.disk) (g.met.D.Disk.bounded c.args.disk.now) start (other_done g c start.honest)
    (c.write_and_sync-2.ensures.wrote (c.write_and_sync.ensures.wrote start.honest).honest) (own_done g c start.honest)

pub returns-clause-contents : goal.returns-clause-contents
returns-clause-contents g c = λ honest apart.
    let h : GPTHeader = c.args.self.now.header in
    let es : List GPTPartitionEntry = entries_in c.args.self.now in
    let ss : ℕ = c.args.self.now.sector_size in
    let old = g.D.Disk.state c.args.disk.now in
    let new = g.D.Disk.state c.write_and_sync-2.new.disk in
    let inside = room_inside h ss old (g.met.D.Disk.sound c.args.disk.now honest).size c.requires.room in
    let stand = copied_are_there h es ss old (g.D.Disk.state c.write_and_sync.new.disk) new apart inside c.requires.coherent.count
    (other_done g c honest) (c.write_and_sync-2.ensures.wrote (c.write_and_sync.ensures.wrote honest).honest) (own_done g c honest) in
    let own_is : c.write_and_sync-2.new.header ≡ with_checksums h es = c.in_ok-write_and_sync-2.ensures.value ∙ ap (with_checksums h) c.as_slice-entries.ensures.items in
    let other_is : c.write_and_sync.new.header ≡ with_checksums (other_header h) es = c.in_ok-write_and_sync.ensures.value ∙ (λ i. with_checksums (c.requires.other i) (c.as_slice-entries.ensures.items i)) in
    (subst (λ (x : GPTHeader). HasBytes new.view x es ss) (sym own_is) stand.0, subst (λ (x : GPTHeader). HasBytes new.view x es ss) (sym other_is) stand.1)

-- ---- neither copy is refused

pub write_and_sync-requires-clause-allowed : goal.write_and_sync-requires-clause-allowed
write_and_sync-requires-clause-allowed g c =
    let old = g.D.Disk.state c.args.disk.now in
    ap (λ (x : GPTHeader). copy_write_fault x c.args.self.now.sector_size old.size) c.requires.other ∙ (both_allowed c.args.self.now.header c.args.self.now.sector_size old.size c.requires.room).other

pub write_and_sync-requires-2-clause-allowed : goal.write_and_sync-requires-2-clause-allowed
write_and_sync-requires-2-clause-allowed g c =
    let h : GPTHeader = c.args.self.now.header in
    let ss : ℕ = c.args.self.now.sector_size in
    ap (copy_write_fault h ss) c.write_and_sync.ensures.keeps.size ∙ (both_allowed h ss (g.D.Disk.state c.args.disk.now).size c.requires.room).own
