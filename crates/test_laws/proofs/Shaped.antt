-- The shape of a table with other values.
use Rattle.std.proofs.Common.{◌≡◌, ◌≤◌, ◌<◌, ◌+◌, ◌*◌, ◌⊎◌, inl, inr, refl, ℕ, ◌∙◌, ap, sym, subst, arith}
use Rattle.std.specs.Prelude.{None, Some}
use Rattle.std.proofs.lemmas.Bool.{cases_lt}
use Rattle.std.proofs.lemmas.Nat.{mul-le}
use Rattle.gptman.specs.declared.table.GPT.{GPT}
use Rattle.gptedit_core.specs.Reshaping.{last_sector_of, new_sectors, old_sectors, sectors_of_entries, shape_of}
use Rattle.gptedit_core.specs.Reshaping.{CompleteShapesLeaveRoom, CompleteShapesMoveWithEntries, StatedValuesAreTaken}
use Rattle.gptedit_core.specs.Reshaping.{EntriesTakeFewestSectors, HoldEntries, IsFirstFor, IsLastFor, LeavesRoom, MovesWithEntries, TakesStated}
use Rattle.gptedit_core.specs.declared.reshaping.Shape.{Shape}
use Rattle.gptedit_core.specs.declared.reshaping.StatedShape.{StatedShape}
use Rattle.test_laws.specs.Shaped.{EndBefore}

-- What a layout states.
abbrev pub nothing : StatedShape
nothing = record { entries = None; first_usable = None; last_usable = None }

abbrev pub other_count : ℕ → StatedShape
other_count n = record { entries = Some n; first_usable = None; last_usable = None }

abbrev pub other_bounds : ℕ → ℕ → StatedShape
other_bounds first last = record { entries = None; first_usable = Some first; last_usable = Some last }

module _ (g : GPT) (stated : StatedShape) (shape : Shape) (is : shape ≡ shape_of g stated) where
  pub taken : StatedValuesAreTaken → TakesStated g stated shape
  taken law = subst (TakesStated g stated) (sym is) (law g stated)

  pub room : CompleteShapesLeaveRoom → LeavesRoom g stated shape
  room law = subst (LeavesRoom g stated) (sym is) (law g stated)

  pub moved : CompleteShapesMoveWithEntries → MovesWithEntries g stated shape
  moved law = subst (MovesWithEntries g stated) (sym is) (law g stated)

-- ---- bytes and sectors

-- If the entries end before a sector, so do the sectors of them.
sectors_by : (count ss sectors first : ℕ) → HoldEntries count ss sectors → EndBefore count ss first → (first < 2 + sectors) ⊎ (2 + sectors ≤ first) → 2 + sectors ≤ first
sectors_by count ss sectors first hold bytes (inr enough) = enough
sectors_by count ss sectors first hold bytes (inl few) =
    let most : first * ss ≤ (1 + sectors) * ss = mul-le first ss (1 + sectors) ss (omega arith) (omega arith) in
    let fewest = hold.fewest in
    absurd (grind (arith, most, fewest, bytes))

enough_sectors : (count ss sectors first : ℕ) → HoldEntries count ss sectors → EndBefore count ss first → 2 + sectors ≤ first
enough_sectors count ss sectors first hold bytes = sectors_by count ss sectors first hold bytes (cases_lt first (2 + sectors))

enough_bytes : (count ss sectors first : ℕ) → HoldEntries count ss sectors → 2 + sectors ≤ first → EndBefore count ss first
enough_bytes count ss sectors first hold enough =
    let least : (2 + sectors) * ss ≤ first * ss = mul-le (2 + sectors) ss first ss enough (omega arith) in
    let all = hold.all in
    grind (arith, least, all)

-- The first usable sector leaves room for the bytes of the entries of the shape, as that of the table did for its own.
pub room_in_bytes : EntriesTakeFewestSectors → (g : GPT) (shape : Shape) → 0 < g.sector_size → (2 + old_sectors g ≤ g.header.first_usable_lba → 2 + new_sectors g shape ≤ shape.first_usable)
    → EndBefore g.header.number_of_partition_entries g.sector_size g.header.first_usable_lba → EndBefore shape.entries g.sector_size shape.first_usable
room_in_bytes law g shape some leaves bytes =
    enough_bytes shape.entries g.sector_size (new_sectors g shape) shape.first_usable (law shape.entries g.sector_size some)
    (leaves (enough_sectors g.header.number_of_partition_entries g.sector_size (old_sectors g) g.header.first_usable_lba
    (law g.header.number_of_partition_entries g.sector_size some) bytes))

-- ---- twice as many entries

-- The table gets 256 entries in place of 128, on a disk with 512-byte sectors.
module _ (g : GPT) (shape : Shape) (is : shape ≡ shape_of g (other_count 256)) (sector : g.sector_size ≡ 512) (count : g.header.number_of_partition_entries ≡ 128)
    (takes : StatedValuesAreTaken) (moves : CompleteShapesMoveWithEntries) where
  old_is : old_sectors g ≡ 32
  old_is = ap (λ (ss : ℕ). sectors_of_entries g.header.number_of_partition_entries ss) sector ∙ ap (λ (n : ℕ). sectors_of_entries n 512) count

  new_is : new_sectors g shape ≡ 64
  new_is =
      ap (λ (ss : ℕ). sectors_of_entries shape.entries ss) sector
      ∙ ap (λ (n : ℕ). sectors_of_entries n 512) ((taken g (other_count 256) shape is takes).entries 256 refl)

  pub doubled_first : IsFirstFor 32 64 g.header.first_usable_lba shape.first_usable
  doubled_first =
      subst (λ (n : ℕ). IsFirstFor 32 n g.header.first_usable_lba shape.first_usable) new_is
      (subst (λ (n : ℕ). IsFirstFor n (new_sectors g shape) g.header.first_usable_lba shape.first_usable) old_is ((moved g (other_count 256) shape is moves).first refl))

  pub doubled_last : IsLastFor (last_sector_of g) 32 64 g.header.last_usable_lba shape.last_usable
  doubled_last =
      subst (λ (n : ℕ). IsLastFor (last_sector_of g) 32 n g.header.last_usable_lba shape.last_usable) new_is
      (subst (λ (n : ℕ). IsLastFor (last_sector_of g) n (new_sectors g shape) g.header.last_usable_lba shape.last_usable) old_is
      ((moved g (other_count 256) shape is moves).last refl))
