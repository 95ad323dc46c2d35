-- A proof for the disk with zeros between its ends holds for any disk with these ends.
use Rattle.std.proofs.Common.{◌≡◌, ◌⊎◌, inl, inr, ⊎_elim, ◌<◌, ◌≤◌, ℕ, ◌+◌, ◌-◌, List, length, get_or, take, drop, sym, ◌∙◌, ap, subst, arith, length-drop}
use Rattle.std.proofs.lemmas.List.{get_or-take, get_or-drop, length-take-le}
use Rattle.gptman.specs.Bytes.{part}
use Rattle.gptman.specs.Disk.{Outside, AgreesOutside, overlay}
use Rattle.gptman.specs.Layout.{Holds, copy_ranges_at}
use Rattle.gptman.specs.Ranges.{AgreesInside}
use Rattle.gptman.specs.Reading.{CopyPlace}
use Rattle.gptman.specs.Table.{Table}
use Rattle.gptman.proofs.Held.{holds_local}
use Rattle.gptman_plan.specs.Ends.{HasEnds, AreRangesKnown, disk_bytes}
use Rattle.gptman_plan.specs.Plan.{Act, bytes_after, pending_after, LeftBy}
use Rattle.gptman.proofs.Ranges.{Ranges, agrees_back}
use Rattle.gptman.proofs.Overlays.{length-overlay, overlay_below, overlay_above, overlay_inside}
use Rattle.gptman_plan.proofs.Middle.{AreKnown, middle_of, ends_zero, same_ends, agrees_known, length-view, view_both, known_take, cases_middle, still_middle, clear_pending}

-- disks that agree outside the middle hold the same table at a place whose ranges are known
pub holds_known : (first last size : ℕ) (a b : List ℕ) (ss : ℕ) (side : CopyPlace) (t : Table) → length a ≡ size → AgreesOutside (middle_of first last size) a b
    → AreRangesKnown first last size (copy_ranges_at side t ss size) → Holds a ss side t → Holds b ss side t
holds_known first last size a b ss side t long agrees places holds =
    holds_local a b ss side t holds (subst (λ (n : ℕ). AgreesInside (copy_ranges_at side t ss n) a b) (sym long) (agrees_known first last size (copy_ranges_at side t ss size) a b places agrees))

module _ (first last size : ℕ) (apart : first + last ≤ size) (b c : List ℕ) (long_b : length b ≡ size) (long_c : length c ≡ size) (agrees : AgreesOutside (middle_of first last size) b c)
    (acts : List Act) (known : AreKnown first last size acts) where
  abbrev between : List ℕ
  between = part c first (size - (first + last))

  length-between : length between ≡ size - (first + last)
  length-between = length-take-le (size - (first + last)) (drop first c) (omega (arith, apart, long_c, length-drop first c))

  -- what a crash leaves of one disk, with the middle of the other
  abbrev mirrored : List ℕ → List ℕ
  mirrored x = overlay x first between

  module _ (x : List ℕ) (left : LeftBy b acts x) where
    abbrev made : List Act
    made = take left.after acts

    made_known : AreKnown first last size made
    made_known = known_take first last size apart left.after acts known

    long : length x ≡ size
    long = left.image.long ∙ length-view first last size apart b made long_b made_known

    fits : first + length between ≤ length x
    fits = omega (arith, long, length-between, apart)

    mirrored_outside : (k : ℕ) → Outside (middle_of first last size) k → get_or (mirrored x) k 0 ≡ get_or x k 0
    mirrored_outside k out = ⊎_elim
        (λ below. overlay_below x first between fits k below)
        (λ above. overlay_above x first between fits k (omega (arith, above, length-between)))
        out.0

    mirrored_inside : (k : ℕ) → first ≤ k → k < first + (size - (first + last)) → get_or (mirrored x) k 0 ≡ get_or c k 0
    mirrored_inside k low high =
        overlay_inside x first between fits k low (omega (arith, high, length-between))
        ∙ get_or-take (size - (first + last)) (drop first c) (k - first) 0 (omega (arith, low, high))
        ∙ get_or-drop first c (k - first) 0
        ∙ ap (λ (i : ℕ). get_or c i 0) (omega (arith, low))

    length-mirrored : length (mirrored x) ≡ size
    length-mirrored = length-overlay x first between fits ∙ long

    -- outside the middle it agrees with the list that was left
    mirrored_same : AgreesOutside (middle_of first last size) (mirrored x) x
    mirrored_same = record { long = long ∙ sym length-mirrored; same = λ k out. sym (mirrored_outside k out) }

    image_same : (k : ℕ) → Outside (pending_after made) k → get_or (mirrored x) k 0 ≡ get_or (bytes_after c made) k 0
    image_same k out = ⊎_elim
        (λ known_byte. mirrored_outside k known_byte ∙ left.image.same k out ∙ sym ((view_both first last size apart (middle_of first last size) b c made long_b made_known agrees).same k known_byte))
        (λ mid. mirrored_inside k mid.0 mid.1 ∙ sym (still_middle first last size apart k mid.0 mid.1 c made long_c made_known))
        (cases_middle first last size apart k)

    -- a crash may leave it of the other disk
    left_mirrored : LeftBy c acts (mirrored x)
    left_mirrored = record {
      after = left.after;
      among = left.among;
      image = record {
        long = length-mirrored ∙ sym (length-view first last size apart c made long_c made_known);
        same = image_same;
      };
    }

    outside_then : (ranges : Ranges) → AgreesOutside ranges c (mirrored x) → (k : ℕ) → Outside ranges k → get_or x k 0 ≡ get_or b k 0
    outside_then ranges others k out = ⊎_elim
        (λ known_byte. sym (mirrored_outside k known_byte) ∙ others.same k out ∙ agrees.same k known_byte)
        (λ mid. left.image.same k (clear_pending first last size apart k mid.0 mid.1 made made_known) ∙ still_middle first last size apart k mid.0 mid.1 b made long_b made_known)
        (cases_middle first last size apart k)

    held_there : (ss : ℕ) (side : CopyPlace) (table : Table) → AreRangesKnown first last size (copy_ranges_at side table ss size) → Holds (mirrored x) ss side table → Holds x ss side table
    held_there ss side table places holds = holds_known first last size (mirrored x) x ss side table length-mirrored mirrored_same places holds

  -- if each crash leaves bytes outside ranges unchanged there, it does here
  stops_keep : (ranges : Ranges) → ((y : List ℕ) → LeftBy c acts y → AgreesOutside ranges c y) → (x : List ℕ) → LeftBy b acts x → AgreesOutside ranges b x
  stops_keep ranges stops x left = record { long = long x left ∙ sym long_b; same = outside_then x left ranges (stops (mirrored x) (left_mirrored x left)) }

  -- If each crash leaves a table at a place there, or all bytes outside ranges unchanged, it does here.
  stops_in_order : (ranges : Ranges) (ss : ℕ) (side : CopyPlace) (t : Table) → AreRangesKnown first last size (copy_ranges_at side t ss size)
      → ((y : List ℕ) → LeftBy c acts y → AgreesOutside ranges c y ⊎ Holds y ss side t) → (x : List ℕ) → LeftBy b acts x → AgreesOutside ranges b x ⊎ Holds x ss side t
  stops_in_order ranges ss side t places stops x left = ⊎_elim
      (λ kept. inl (record { long = long x left ∙ sym long_b; same = outside_then x left ranges kept }))
      (λ held. inr (held_there x left ss side t places held))
      (stops (mirrored x) (left_mirrored x left))

  -- a table that this disk holds after the acts is held there too
  after_holds : (ss : ℕ) (side : CopyPlace) (t : Table) → AreRangesKnown first last size (copy_ranges_at side t ss size) → Holds (bytes_after b acts) ss side t → Holds (bytes_after c acts) ss side t
  after_holds ss side t places holds = holds_known first last size (bytes_after b acts) (bytes_after c acts) ss side t
      (length-view first last size apart b acts long_b known)
      (view_both first last size apart (middle_of first last size) b c acts long_b known agrees)
      places holds

module _ (head tail b : List ℕ) (size : ℕ) (apart : length head + length tail ≤ size) (ends : HasEnds b head tail size) where
  of_zeros : HasEnds (disk_bytes head tail size) head tail size
  of_zeros = ends_zero head tail size apart

  from_zeros : AgreesOutside (middle_of (length head) (length tail) size) (disk_bytes head tail size) b
  from_zeros = same_ends (disk_bytes head tail size) b head tail size of_zeros ends

  -- a table that the disk with zeros holds is held by each disk with its ends
  pub holds_any : (ss : ℕ) (side : CopyPlace) (t : Table) → AreRangesKnown (length head) (length tail) size (copy_ranges_at side t ss size) → Holds (disk_bytes head tail size) ss side t → Holds b ss side t
  holds_any ss side t places holds = holds_known (length head) (length tail) size (disk_bytes head tail size) b ss side t of_zeros.long from_zeros places holds

  module _ (acts : List Act) (known : AreKnown (length head) (length tail) size acts) where
    -- also after the same acts
    pub after_any : (ss : ℕ) (side : CopyPlace) (t : Table) → AreRangesKnown (length head) (length tail) size (copy_ranges_at side t ss size)
        → Holds (bytes_after (disk_bytes head tail size) acts) ss side t → Holds (bytes_after b acts) ss side t
    after_any ss side t places holds =
        after_holds (length head) (length tail) size apart (disk_bytes head tail size) b of_zeros.long ends.long from_zeros acts known ss side t places holds

    -- each crash leaves unchanged what it leaves unchanged there
    pub others_any : (ranges : Ranges) → ((y : List ℕ) → LeftBy (disk_bytes head tail size) acts y → AgreesOutside ranges (disk_bytes head tail size) y)
        → (x : List ℕ) → LeftBy b acts x → AgreesOutside ranges b x
    others_any ranges stops x left =
        stops_keep (length head) (length tail) size apart b (disk_bytes head tail size) ends.long of_zeros.long (agrees_back from_zeros) acts known ranges stops x left

    -- or it leaves at a place what it leaves there
    pub order_any : (ranges : Ranges) (ss : ℕ) (side : CopyPlace) (t : Table) → AreRangesKnown (length head) (length tail) size (copy_ranges_at side t ss size)
        → ((y : List ℕ) → LeftBy (disk_bytes head tail size) acts y → AgreesOutside ranges (disk_bytes head tail size) y ⊎ Holds y ss side t)
        → (x : List ℕ) → LeftBy b acts x → AgreesOutside ranges b x ⊎ Holds x ss side t
    order_any ranges ss side t places stops x left =
        stops_in_order (length head) (length tail) size apart b (disk_bytes head tail size) ends.long of_zeros.long (agrees_back from_zeros) acts known ranges ss side t places stops x left
