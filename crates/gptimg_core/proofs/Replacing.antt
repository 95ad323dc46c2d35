-- A new table that replaces an old one.
use Rattle.std.proofs.Common.{◌≡◌, subst, [], ◌∷◌}
use Rattle.gptman.specs.Crash.{StartsFromOne}
use Rattle.gptman.specs.Disk.{DiskState, Reads, Writes}
use Rattle.gptman.specs.Stop.{StopsHold}
use Rattle.gptman.specs.Table.{Table, table_in}
use Rattle.gptman.specs.TableWrites.{table_ranges}
use Rattle.gptman.specs.declared.table.GPT.{GPT}
use Rattle.gptman_change.proofs.Left.{either, leaves_since, still_held}
use Rattle.gptimg_core.specs.Changes.{ReplacesTable}

-- calls that only read leave the old table
pub read_replaces : (next : GPT) (old mid : DiskState) → Reads old mid → ReplacesTable next old mid
read_replaces next old mid reads was from =
    either was (table_in next) next.sector_size old mid (still_held next was old mid (reads.only from.start.honest) reads.keeps from.kept)

-- a write of the new table after them leaves the old table or the new one
pub write_replaces : (table next : GPT) (old mid new : DiskState) → table ≡ next → Reads old mid → Writes (table_ranges table) mid new
    → ((was : Table) → StartsFromOne mid table was → StopsHold mid new table.sector_size (was ∷ table_in table ∷ [])) → ReplacesTable next old new
write_replaces table next old mid new is reads wrote one_good was from =
    let only = reads.only from.start.honest in
    let wrote_next : Writes (table_ranges next) mid new = subst (λ (g : GPT). Writes (table_ranges g) mid new) is wrote in
    let good : (before : Table) → StartsFromOne mid next before → StopsHold mid new next.sector_size (before ∷ table_in next ∷ []) =
    subst (λ (g : GPT). (before : Table) → StartsFromOne mid g before → StopsHold mid new g.sector_size (before ∷ table_in g ∷ [])) is one_good in
    either was (table_in next) next.sector_size old new
    (leaves_since next was old mid only reads.keeps new (wrote_next only.wrote.honest)
    (λ here before kept. good before (record { start = record { honest = only.wrote.honest; layout = here }; kept = kept })) from.start.layout from.kept)
