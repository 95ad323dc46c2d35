-- The stated layout, from its parts.
use Rattle.std.proofs.Common.{◌≡◌, inl, inr, ◌∙◌, refl, ℕ, ◌+◌, ◌-◌, ◌*◌, ◌/◌, [], ◌∷◌, ◌++◌, arith}
use Rattle.std.proofs.lemmas.List.{length-map}
use Rattle.gptman.specs.Layout.{copy_ranges_at, AreInPlace, HasLayout, HasRightMarks, HasRightSectors, HasRightSizes}
use Rattle.gptman.specs.Reading.{CopyPlace, primary, backup}
use Rattle.gptman.specs.Table.{Table, entries_in, table_in, IsHeaderForm, IsInForm}
use Rattle.gptman.specs.declared.codec.header.GPTHeader.{GPTHeader}
use Rattle.gptman.specs.declared.table.GPT.{GPT}

-- The place of a header that is in a form.
record HasForm (h : GPTHeader) : Type 0 where
  side : CopyPlace
  form : IsHeaderForm side h

has_form : (h : GPTHeader) → IsInForm h → HasForm h
has_form h (inl first) = record { side = primary; form = first }
has_form h (inr second) = record { side = backup; form = second }

pub laid_out : (g : GPT) (len : ℕ) → HasRightMarks g.header → HasRightSizes g.header (entries_in g) g.sector_size → IsInForm g.header
    → HasRightSectors (table_in g) g.sector_size len → AreInPlace (table_in g) g.sector_size len → HasLayout g len
laid_out g len marks sizes form sectors place =
    let has = has_form g.header form in
    record {
      table = record {
        sector = sizes.sector;
        signature = marks.signature;
        revision = marks.revision;
        header_size = sizes.header_size;
        entry_size = sizes.entry_size;
        entries = length-map (entries_in g) _ ∙ sizes.entries;
        low_sector = sectors.low;
        high_sector = sectors.high;
        inside = place.inside;
        apart = place.apart;
        fits = place.fits;
      };
      side = has.side;
      form = has.form;
    }

-- The parts that do not concern the header.
pub places_of : (g : GPT) (len : ℕ) → HasLayout g len → HasRightSectors (table_in g) g.sector_size len × AreInPlace (table_in g) g.sector_size len
places_of g len layout =
    let t = layout.table in
    (record { low = t.low_sector; high = t.high_sector }, record { inside = t.inside; apart = t.apart; fits = t.fits })

-- Four ranges by start and length are those of a table at both places.
pub four_at : (t : Table) (ss len a b c d la lb lc ld : ℕ) → a ≡ 1 * ss → la ≡ 92 → b ≡ 2 * ss → lb ≡ 128 * t.count → c ≡ (len / ss - 1) * ss → lc ≡ 92
    → d ≡ (t.last_usable_lba + 1) * ss → ld ≡ 128 * t.count
    → (a, la) ∷ (b, lb) ∷ (c, lc) ∷ (d, ld) ∷ [] ≡ copy_ranges_at primary t ss len ++ copy_ranges_at backup t ss len
four_at t ss len a b c d la lb lc ld ea ela eb elb ec elc ed eld =
    let one : 1 * ss ≡ ss = omega arith in
    let first : a ≡ ss = ea ∙ one in
    rw (first, ela, eb, elb, ec, elc, ed, eld) refl
