use Rattle.std.proofs.Common.{◌∙◌}
use Rattle.gptman.proofs.Ranges.{within_none}
use Rattle.gptman.proofs.Runs.{wrote_then}
use Rattle.gptedit_look.proofs.mending.make_mbr.Goals as goal

pub returns-in_err-sync-clause-wrote : goal.returns-in_err-sync-clause-wrote
returns-in_err-sync-clause-wrote g c = λ honest.
    let first = c.write_protective_mbr_into.ensures.wrote honest in
    wrote_then within_none first (c.sync.ensures.wrote first.honest)

pub returns-clause-stored : goal.returns-clause-stored
returns-clause-stored g c = λ honest.
    let first = c.write_protective_mbr_into.ensures.wrote honest in
    let laid = c.in_ok-write_protective_mbr_into.ensures.contents honest in
    record { view = c.sync.ensures.view first.honest ∙ laid.view; synced = c.in_ok-sync.ensures.synced first.honest }
