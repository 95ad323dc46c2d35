use Rattle.gptman.proofs.ReadKept.{edits_keep_places, keeps_what_is_read, takes_in_form}
use Rattle.gptman.proofs.table.laws.what_is_read_is_kept.Goals as goal

pub returns-clause-taken : goal.returns-clause-taken
returns-clause-taken g c = takes_in_form (g.D.Disk.state c.args.disk.now).view

pub returns-clause-kept : goal.returns-clause-kept
returns-clause-kept g c = keeps_what_is_read (g.D.Disk.state c.args.disk.now)

pub returns-clause-edited : goal.returns-clause-edited
returns-clause-edited g c = edits_keep_places
