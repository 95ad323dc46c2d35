use Rattle.std.proofs.Common.{[], ◌∷◌, inr, ℕ}
use Rattle.std.specs.List.{list_all}
use Rattle.gptman_disk.specs.Fault.{overflow, no_space_left}
use Rattle.gptman.specs.Write.{is_addressable, is_inside, copy_ranges}
use Rattle.gptman.proofs.FirstFailing.{tests_pass}
use Rattle.gptman.proofs.Outcomes.{on_err_of}
use Rattle.gptman_disk.proofs.Ranges.{within_none, within_then}
use Rattle.gptman.proofs.Runs.{wrote_then}
use Rattle.gptman.proofs.table.write.write_and_sync.Goals as goal

pub write_summed-requires-clause-inside : goal.write_summed-requires-clause-inside
write_summed-requires-clause-inside g c =
    let ranges = copy_ranges c.args.header.now c.args.sector_size in
    let size : ℕ = (g.D.Disk.state c.args.disk.now).size in
    let pass = tests_pass ((list_all is_addressable ranges, overflow) ∷ (list_all (is_inside size) ranges, no_space_left) ∷ []) c.requires.allowed in
    pass.1.0

pub returns-in_err-sync-clause-wrote : goal.returns-in_err-sync-clause-wrote
returns-in_err-sync-clause-wrote g c = λ honest.
    let w1 = c.write_summed.ensures.wrote honest in
    wrote_then within_none w1 (c.sync.ensures.wrote w1.honest)

pub returns-clause-wrote : goal.returns-clause-wrote
returns-clause-wrote g c = λ honest.
    let w1 = c.write_summed.ensures.wrote honest in
    wrote_then within_none w1 (c.sync.ensures.wrote w1.honest)

pub returns-in_err-sync-clause-failed : goal.returns-in_err-sync-clause-failed
returns-in_err-sync-clause-failed g c = λ honest.
    let w1 = c.write_summed.ensures.wrote honest in
    let still = within_then (c.in_ok-write_summed.ensures.pending honest) (c.in_err-sync.ensures.failed w1.honest).back in
    on_err_of _ (inr still)
