use Rattle.std.proofs.Common.{◌≡◌, [], ◌∷◌, ap}
use Rattle.gptman.specs.Disk.{DiskState}
use Rattle.gptman.specs.Table.{table_in}
use Rattle.gptman.specs.declared.codec.header.GPTHeader.{GPTHeader}
use Rattle.gptman.specs.declared.table.GPT.{GPT}
use Rattle.gptman.specs.Table.{grow_to}
use Rattle.gptman_bench.proofs.Growing.{grown_held, grown_stored, still_held}
use Rattle.gptman_bench.proofs.callers.grow.Goals as goal

pub returns-in_err-update_from-clause-safe : goal.returns-in_err-update_from-clause-safe
returns-in_err-update_from-clause-safe g c = λ from form held x left known.
    let a : DiskState = g.D.Disk.state c.args.disk.now in
    let b : DiskState = g.D.Disk.state c.update_from.new.disk in
    let table : GPT = c.args.table.now in
    let new : GPT = grow_to table a.size in
    c.what_is_held_is_read.ensures x table.sector_size (table_in table ∷ table_in new ∷ [])
    (still_held a b table.sector_size (table_in table) (table_in new ∷ []) from.synced (c.update_from.ensures.reads.only from.start.honest) held x left) known

pub returns-clause-stored : goal.returns-clause-stored
returns-clause-stored g c = λ start.
    let a : DiskState = g.D.Disk.state c.args.disk.now in
    let b : DiskState = g.D.Disk.state c.update_from.new.disk in
    let d : DiskState = g.D.Disk.state c.write_into.new.disk in
    let table : GPT = c.args.table.now in
    let mid : GPT = record table { header = c.update_from.new.self } in
    let same : mid ≡ grow_to table a.size = ap (λ (h : GPTHeader). record table { header = h }) c.in_ok-update_from.ensures.value in
    let only = c.update_from.ensures.reads.only start.honest in
    grown_stored a b d table mid same c.update_from.ensures.reads.keeps start.layout c.write_into.result
    (λ here. c.write_into.ensures.stored (record { honest = only.wrote.honest; layout = here }))

pub returns-clause-safe : goal.returns-clause-safe
returns-clause-safe g c = λ from form held x left known.
    let a : DiskState = g.D.Disk.state c.args.disk.now in
    let b : DiskState = g.D.Disk.state c.update_from.new.disk in
    let d : DiskState = g.D.Disk.state c.write_into.new.disk in
    let table : GPT = c.args.table.now in
    let mid : GPT = record table { header = c.update_from.new.self } in
    let same : mid ≡ grow_to table a.size = ap (λ (h : GPTHeader). record table { header = h }) c.in_ok-update_from.ensures.value in
    let only = c.update_from.ensures.reads.only from.start.honest in
    c.what_is_held_is_read.ensures x table.sector_size (table_in table ∷ table_in (grow_to table a.size) ∷ [])
    (grown_held a b d table mid same c.update_from.ensures.reads.keeps from.start.layout _ from.synced only form held c.growing_is_safe.ensures
    (c.write_into.ensures.wrote only.wrote.honest)
    (λ here was kept. c.write_into.ensures.one_good was (record { start = record { honest = only.wrote.honest; layout = here }; kept = kept })) x left)
    known
