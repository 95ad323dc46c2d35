-- Why a table with the stated layout may not be written.
use Rattle.std.proofs.Common.{◌≡◌, ◌≢◌, ◌<◌, ◌^◌, ℕ, refl}
use Rattle.gptman.specs.Fault.{Fault, conflict_partition_guid, invalid_partition_boundaries, out_of_memory}
use Rattle.gptman.specs.Layout.{HasLayout}
use Rattle.gptman.specs.TableWrites.{RefusesTable}
use Rattle.gptman.specs.TableWrites.RefusesTable.{table_no_memory, table_no_room, table_not_valid}
use Rattle.gptman.specs.Valid.IsValidity.{bad_boundaries, shared_guid, valid}
use Rattle.gptman.specs.declared.table.GPT.{GPT}
use Rattle.gptman.proofs.Accepted.{layout_fits}
use Rattle.gptedit_core.specs.Planning.{RefusesCheck}
use Rattle.gptedit_core.specs.Planning.RefusesCheck.{boundaries}
use Rattle.gptedit_core.specs.declared.refusal.Refusal.TheVariants.{BadBoundaries}

module _ (g : GPT) (len : ℕ) (small : len < 2 ^ 64) (layout : HasLayout g len) where
  pub bad_bounds : (fault : Fault) → RefusesTable g len fault → fault ≡ invalid_partition_boundaries → RefusesCheck g BadBoundaries
  bad_bounds fault (table_no_memory is) same = absurd (cc)
  bad_bounds fault (table_not_valid (shared_guid other is)) same = absurd (cc)
  bad_bounds fault (table_not_valid (bad_boundaries own bad is)) same = boundaries own bad refl
  bad_bounds fault (table_not_valid (valid fine is)) same = absurd (cc)
  bad_bounds fault (table_no_room fine is) same = let none = layout_fits g len small layout in absurd (cc)

  pub no_memory : (fault : Fault) → RefusesTable g len fault → fault ≢ conflict_partition_guid → fault ≢ invalid_partition_boundaries → fault ≡ out_of_memory
  no_memory fault (table_no_memory is) guid bounds = is
  no_memory fault (table_not_valid (shared_guid other is)) guid bounds = absurd (guid cc)
  no_memory fault (table_not_valid (bad_boundaries own bad is)) guid bounds = absurd (bounds cc)
  no_memory fault (table_not_valid (valid fine is)) guid bounds = absurd (cc)
  no_memory fault (table_no_room fine is) guid bounds = let none = layout_fits g len small layout in absurd (cc)
