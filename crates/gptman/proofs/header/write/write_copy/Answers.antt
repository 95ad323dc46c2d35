use Rattle.std.proofs.Common.{◌≡◌, ◌≢◌, ◌⊎◌, ◌*◌, inl, inr, ⊎_elim, ℕ, [], ◌∷◌, length, IsTrue, arith, subst, sym, ap, ◌∙◌}
use Rattle.std.proofs.lemmas.List.{nil_from_length}
use Rattle.gptman_disk.specs.Disk.{IsPending, Untouched, Within, Wrote, overlay}
use Rattle.gptman.specs.Write.{header_range, copy_ranges}
use Rattle.gptman.specs.Coding.{header_bytes, array_bytes}
use Rattle.gptman_disk.proofs.Overlays.{overlay_nothing}
use Rattle.gptman.proofs.Outcomes.{on_err_of, on_ok_of}
use Rattle.gptman_disk.proofs.Ranges.{grown_has, within_none, within_then}
use Rattle.gptman.proofs.Runs.{wrote_then, wrote_wider}
use Rattle.gptman.proofs.WriteRanges.{within_array, within_header}
use Rattle.gptman.proofs.header.write.write_copy.Given.{Over}
use Rattle.gptman.proofs.header.write.write_copy.Goals as goal
use Rattle.gptman.proofs.header.write.write_copy.Goals.{After-write_all, In_ok-write_all}

-- The header was written, or a part of it.
header_wrote : (g : Over) (c : After-write_all g) → IsTrue (g.D.Disk.state c.args.disk.now).is_honest
    → Wrote (copy_ranges c.args.header.now c.args.sector_size) (g.D.Disk.state c.args.disk.now) (g.D.Disk.state c.write_all.new.self)
header_wrote g c honest =
    let seek = (c.seek_start.ensures.reads.only honest).wrote in
    let size : length c.encode.result ≡ 92 = omega arith in
    wrote_then (within_header c.args.header.now c.args.sector_size _ _ c.in_ok-seek_start.ensures.answer.1 size) (wrote_wider within_none seek)
    (c.write_all.ensures.wrote seek.honest)

-- After the write its range is pending.
header_left : (g : Over) (c : In_ok-write_all g) → IsTrue (g.D.Disk.state c.args.disk.now).is_honest
    → IsPending (header_range c.args.header.now c.args.sector_size) (g.D.Disk.state c.write_all.new.self)
header_left g c honest =
    let size : length c.encode.result ≡ 92 = omega arith in
    grown_has _ _ _ _ c.in_ok-seek_start.ensures.answer.1 size (c.in_ok-write_all.ensures.contents (c.seek_start.ensures.reads.only honest).wrote.honest).pending

pub returns-in_err-write_all-clause-wrote : goal.returns-in_err-write_all-clause-wrote
returns-in_err-write_all-clause-wrote g c = header_wrote g (goal.at.returns-in_err-write_all-clause-wrote g c).After-write_all

pub returns-in_err-write_all-clause-failed : goal.returns-in_err-write_all-clause-failed
returns-in_err-write_all-clause-failed g c = λ honest.
    let seek = c.seek_start.ensures.reads.only honest in
    let s0 = g.D.Disk.state c.args.disk.now in
    let s2 = g.D.Disk.state c.write_all.new.self in
    let size : length c.encode.result ≡ 92 = omega arith in
    let left : Untouched s0 s2 ⊎ IsPending (header_range c.args.header.now c.args.sector_size) s2 =
    ⊎_elim
    (λ same. inl (record { view = same.view ∙ seek.view; pending = same.pending ∙ seek.pending }))
    (λ more. inr (grown_has _ _ _ _ c.in_ok-seek_start.ensures.answer.1 size more))
    (c.in_err-write_all.ensures.failed seek.wrote.honest) in
    on_err_of _ left

pub returns-then-is_empty-clause-wrote : goal.returns-then-is_empty-clause-wrote
returns-then-is_empty-clause-wrote g c = header_wrote g (goal.at.returns-then-is_empty-clause-wrote g c).After-write_all

pub returns-then-is_empty-clause-contents : goal.returns-then-is_empty-clause-contents
returns-then-is_empty-clause-contents g c = λ honest.
    let w1 = (c.seek_start.ensures.reads.only honest).wrote in
    let h = c.args.header.now in
    let s0 = g.D.Disk.state c.args.disk.now in
    let s2 = g.D.Disk.state c.write_all.new.self in
    let none : c.args.partitions.now ≡ [] = nil_from_length c.args.partitions.now (grind arith) in
    let at : ℕ = h.partition_entry_lba * c.args.sector_size in
    let header : s2.view ≡ overlay s0.view (h.primary_lba * c.args.sector_size) (header_bytes h) =
    cc ((c.in_ok-write_all.ensures.contents w1.honest).view, c.in_ok-seek_start.ensures.answer.1, (c.seek_start.ensures.reads.only honest).view, c.encode.ensures.spelled) in
    header ∙ sym (overlay_nothing _ at) ∙ sym (ap (λ es. overlay (overlay s0.view (h.primary_lba * c.args.sector_size) (header_bytes h)) at (array_bytes es)) none)

pub returns-then-is_empty-clause-pending : goal.returns-then-is_empty-clause-pending
returns-then-is_empty-clause-pending g c = header_left g (goal.at.returns-then-is_empty-clause-pending g c).In_ok-write_all

pub returns-in_err-seek_start-2-clause-wrote : goal.returns-in_err-seek_start-2-clause-wrote
returns-in_err-seek_start-2-clause-wrote g c = λ honest.
    let header = header_wrote g (goal.at.returns-in_err-seek_start-2-clause-wrote g c).After-write_all honest in
    wrote_then within_none header (c.seek_start-2.ensures.reads.only header.honest).wrote

pub returns-in_err-seek_start-2-clause-failed : goal.returns-in_err-seek_start-2-clause-failed
returns-in_err-seek_start-2-clause-failed g c = λ honest.
    let at = goal.at.returns-in_err-seek_start-2-clause-failed g c in
    let seek = c.seek_start-2.ensures.reads.only (header_wrote g at.After-write_all honest).honest in
    on_err_of _ (inr (subst (λ ps. Within (header_range c.args.header.now c.args.sector_size ∷ []) ps) (sym seek.pending) (header_left g at.In_ok-write_all honest)))

pub returns-clause-wrote : goal.returns-clause-wrote
returns-clause-wrote g c = λ honest.
    let header = header_wrote g (goal.at.returns-clause-wrote g c).After-write_all honest in
    let seek = (c.seek_start-2.ensures.reads.only header.honest).wrote in
    let some : length c.args.partitions.now ≢ 0 = grind arith in
    wrote_then (within_array c.args.header.now c.args.sector_size _ _ c.in_ok-seek_start-2.ensures.answer.1 c.requires.count some)
    (wrote_then within_none header seek) (c.write_entries.ensures.wrote seek.honest)

-- It still is after the entries are written.
header_pending : (g : Over) (c : goal.After-write_entries g) → IsTrue (g.D.Disk.state c.args.disk.now).is_honest
    → IsPending (header_range c.args.header.now c.args.sector_size) (g.D.Disk.state c.write_entries.new.disk)
header_pending g c honest =
    let range = header_range c.args.header.now c.args.sector_size in
    let at = goal.at.returns-clause-pending g c in
    let seek = c.seek_start-2.ensures.reads.only (header_wrote g at.After-write_all honest).honest in
    within_then (subst (λ ps. Within (range ∷ []) ps) (sym seek.pending) (header_left g at.In_ok-write_all honest)) (c.write_entries.ensures.still_pending seek.wrote.honest)

pub returns-clause-failed : goal.returns-clause-failed
returns-clause-failed g c = λ honest. on_err_of _ (inr (header_pending g c honest))

pub returns-clause-pending : goal.returns-clause-pending
returns-clause-pending g c = λ honest. on_ok_of _ (header_pending g c honest)
