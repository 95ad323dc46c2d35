use Rattle.std.proofs.Common.{ℕ, ◌+◌, ◌-◌, max, arith, refl}
use Rattle.std.proofs.lemmas.Option.{MatchOption-at_some}
use Rattle.gptman.specs.Place.{IsFreeIn, IsFirstPlace, HasNoPlace}
use Rattle.gptman.specs.declared.codec.entry.GPTPartitionEntry.{GPTPartitionEntry}
use Rattle.gptman_bench.proofs.callers.add_first.Goals as goal

pub returns-clause-valid : goal.returns-clause-valid
returns-clause-valid c = λ valid own_guid.
    let table = c.args.table.now in
    let n : ℕ = max 1 c.max-size.result in
    let s : ℕ = c.in-Some.start in
    let e : GPTPartitionEntry = record c.args.entry { starting_lba = s; ending_lba = s + (c.max-size.result - 1) } in
    let first = MatchOption-at_some (HasNoPlace (IsFreeIn table) table.align n) (λ s. IsFirstPlace (IsFreeIn table) table.align n s) s c.in-Some.is c.in_ok-start.ensures.value in
    c.placement_keeps_valid.ensures table table.align n s c.args.number e valid (omega arith) first.place c.requires.number
    (record { start = refl; end = omega arith; fresh = own_guid })
