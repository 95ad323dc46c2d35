-- A disk that was only read has not failed.
use Rattle.std.proofs.Common.{◌≡◌, ap, ◌∙◌, refl}
use Rattle.std.specs.Prelude.{Option, None}
use Rattle.gptman.specs.Disk.{DiskState, Reads}
use Rattle.gptman_plan.specs.Ends.{known_state, torn_ranges, zeroed}
use Rattle.gptman_plan.specs.declared.reader.EndsReader.{EndsReader}
use Rattle.gptman_plan.specs.declared.reader.Torn.{Torn}

abbrev pub state_of : EndsReader → DiskState
state_of d = known_state (zeroed d.ends) d.torn d.ends.size d.position d.failures

pub unfailed : (d e : EndsReader) → d.torn ≡ None → Reads (state_of d) (state_of e) → e.failures ≡ 0
unfailed d e whole reads = e.unfailed ((reads.only refl).pending ∙ ap (λ (t : Option Torn). torn_ranges t) whole)
