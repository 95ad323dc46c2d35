use Rattle.gptedit_core.proofs.Meanings.{lawful_result}
use Rattle.gptedit_core.proofs.matching.match_layout.Goals as goal

pub returns-clause-laws : goal.returns-clause-laws
returns-clause-laws c = lawful_result c.args.table.now c.args.layout c.args.replace c.match_requests.result c.match_requests.ensures.layout
