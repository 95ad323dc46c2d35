use Rattle.std.proofs.Common.{rules}
use Rattle.gptman.proofs.Ranges.{within_none}
use Rattle.gptman.proofs.Runs.{wrote_then}
use Rattle.gptimg_core.proofs.commands.write_mbr.Goals as goal

pub returns-in_err-sync-clause-wrote : goal.returns-in_err-sync-clause-wrote
returns-in_err-sync-clause-wrote g c = λ honest.
    let laid = c.write_unsynced_mbr.ensures.wrote honest in
    wrote_then within_none laid (c.sync.ensures.wrote laid.honest)

pub returns-clause-stored : goal.returns-clause-stored
returns-clause-stored g c = search rules
