use Rattle.std.proofs.Common.{◌≡◌, ◌+◌, ◌-◌, ◌*◌, ◌/◌, ℕ, List, [], ◌∷◌, ◌∙◌, ap, subst, arith}
use Rattle.gptman.specs.Layout.{copy_ranges_at}
use Rattle.gptman.specs.Reading.{primary, backup}
use Rattle.gptman.specs.Table.{table_in}
use Rattle.gptman.specs.declared.table.GPT.{GPT}
use Rattle.gptman_plan.specs.Asking.{value_ranges}
use Rattle.gptman_plan.specs.Rounds.{IsAmong}
use Rattle.gptman_plan.proofs.Asked.{among_left, among_right}
use Rattle.gptman_plan.proofs.AskedPlans.{some_among}
use Rattle.gptman_plan.proofs.places.lack_of_places.Goals as goal

pub returns-then-is_some-clause-asked : goal.returns-then-is_some-clause-asked
returns-then-is_some-clause-asked c =
    let a = c.args in
    let g : GPT = a.table.now in
    let ss : ℕ = g.sector_size in
    let start : c.in_ok-start.start ≡ 2 * ss = omega (arith, c.in_ok-start.ensures.1) in
    let array : 128 * c.from-array.result ≡ 128 * g.header.number_of_partition_entries = omega (arith, c.from-array.ensures) in
    some_among ((ss, 92) ∷ (c.in_ok-start.start, 128 * c.from-array.result) ∷ []) (value_ranges g a.ends.now.size)
    (λ range is. among_left (copy_ranges_at primary (table_in g) ss a.ends.now.size) (copy_ranges_at backup (table_in g) ss a.ends.now.size) range
    (subst (λ (l : List (ℕ × ℕ)). IsAmong range l) (λ i. (ss, 92) ∷ (start i, array i) ∷ []) is))
    c.lack_of_both-lack.result c.lack_of_both-lack.ensures.asked

pub returns-clause-asked : goal.returns-clause-asked
returns-clause-asked c =
    let a = c.args in
    let g : GPT = a.table.now in
    let ss : ℕ = g.sector_size in
    let header : c.last_sector-header.result ≡ (a.ends.now.size / ss - 1) * ss = c.last_sector-header.ensures in
    let last : c.in_ok-checked_add.field-0 ≡ g.header.last_usable_lba + 1 = c.in_ok-checked_add.ensures.1 in
    let start : c.in_ok-start-2.start ≡ (g.header.last_usable_lba + 1) * ss = c.in_ok-start-2.ensures.1 ∙ ap (λ (n : ℕ). n * ss) last in
    let array : 128 * c.from-array.result ≡ 128 * g.header.number_of_partition_entries = omega (arith, c.from-array.ensures) in
    some_among ((c.last_sector-header.result, 92) ∷ (c.in_ok-start-2.start, 128 * c.from-array.result) ∷ []) (value_ranges g a.ends.now.size)
    (λ range is. among_right (copy_ranges_at primary (table_in g) ss a.ends.now.size) (copy_ranges_at backup (table_in g) ss a.ends.now.size) range
    (subst (λ (l : List (ℕ × ℕ)). IsAmong range l) (λ i. (header i, 92) ∷ (start i, array i) ∷ []) is))
    c.lack_of_both.result c.lack_of_both.ensures.asked
