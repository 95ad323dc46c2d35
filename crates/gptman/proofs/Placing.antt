-- The effect of a new entry on a table, and what its maximum size offers.
use Rattle.std.proofs.Common.{◌≢◌, ℕ, ◌+◌, ◌-◌, ◌<◌, ◌≤◌, List, length, sym, arith, IsTrue}
use Rattle.std.proofs.lemmas.List.Elements.{All-set}
use Rattle.gptman.specs.Entry.{is_used, covers}
use Rattle.gptman.specs.Place.{IsFree, IsFreeIn, IsPlace}
use Rattle.gptman.specs.Placement.{IsNewAt, MaximumIsOffered, PlacementKeepsValid}
use Rattle.gptman.specs.Table.{entries_in}
use Rattle.gptman.specs.Valid.{AreDisjoint, LiesWithin}
use Rattle.gptman.specs.declared.codec.entry.GPTPartitionEntry.{GPTPartitionEntry}
use Rattle.gptman.specs.declared.codec.header.GPTHeader.{GPTHeader}
use Rattle.gptman.proofs.Covered.{covered_if}
use Rattle.gptman.proofs.FreeSectors.{free_settled}
use Rattle.gptman.proofs.Pairs.{all_pairs_set}
use Rattle.gptman.proofs.Places.{max_multiple, max_place, above_max}

-- The sectors of a new entry are free.
new_free : (h : GPTHeader) (es : List GPTPartitionEntry) (align n s : ℕ) (e : GPTPartitionEntry) → IsPlace (IsFree h es) align n s → IsNewAt es e s n
    → (x : ℕ) → IsTrue (covers x e) → IsFree h es x
new_free h es align n s e place new x covered =
    let c = covered_if e x covered in
    let from = c.from in
    let to = c.to in
    let start = new.start in
    let end = new.end in
    place.inside x (omega arith) (omega arith)

pub placement : PlacementKeepsValid
placement g align n s i e valid some place number new =
    let h : GPTHeader = g.header in
    let es : List GPTPartitionEntry = entries_in g in
    let start = new.start in
    let end = new.end in
    let low_number = number.0 in
    let high_number = number.1 in
    let within : i - 1 < length es = omega arith in
    let first = place.inside s (omega arith) (omega arith) in
    let last = place.inside (s + n - 1) (omega arith) (omega arith) in
    let low = first.usable.low in
    let high = last.usable.high in
    record {
      own_guids = all_pairs_set (λ d e. IsTrue (is_used d) → IsTrue (is_used e) → d.unique_partition_guid ≢ e.unique_partition_guid) es (i - 1) e within
          valid.own_guids (λ j d l ne. (λ used _. new.fresh j d l used, λ _ used same. new.fresh j d l used (sym same)));
      boundaries = record {
        ordered = All-set (λ e. e.starting_lba ≤ e.ending_lba) es (i - 1) e (omega arith) valid.boundaries.ordered;
        disjoint = all_pairs_set AreDisjoint es (i - 1) e within valid.boundaries.disjoint
            (λ j d l ne. (
              λ x other mine. (new_free h es align n s e place new x mine).uncovered j d l other,
              λ x mine other. (new_free h es align n s e place new x mine).uncovered j d l other,
            ));
        within = All-set (LiesWithin h) es (i - 1) e (λ _. (omega arith, omega arith)) valid.boundaries.within;
        bounds = valid.boundaries.bounds;
      };
    }

pub offered : MaximumIsOffered
offered g m positive max = record {
  multiple = max_multiple (IsFreeIn g) g.align m max;
  place = λ some none. let place = max_place (IsFreeIn g) g.align m max in none place.0 place.1;
  no_more = above_max (IsFreeIn g) g.align m (free_settled g.header (entries_in g)) positive max;
}
