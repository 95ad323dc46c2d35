-- The bytes of a header and entries, at their places, are an accepted copy.
use Rattle.std.proofs.Common.{◌≡◌, ◌≤◌, ◌<◌, ◌⊎◌, ◌+◌, ◌-◌, ◌*◌, ◌/◌, ◌^◌, ℕ, Bool, true, false, List, [], ◌∷◌, length, map, get_or, ltb, Result, Err, refl, sym, ap, ◌∙◌, subst, inl, inr, arith}
use Rattle.std.specs.List.{All}
use Rattle.std.specs.Prelude.{encode_utf8_all}
use Rattle.gptman.specs.Name.{text_of}
use Rattle.std.proofs.lemmas.Bool.{ltb-true}
use Rattle.std.proofs.lemmas.List.{get_or-map, length-map}
use Rattle.std.proofs.lemmas.List.Elements.{All-get_or}
use Rattle.gptman_disk.specs.Bytes.{part}
use Rattle.gptman.specs.Coding.{IsHeaderCoding, IsEntryCoding, HasReadName, FitsHeader, FitsEntry, header_bytes, entry_bytes, array_bytes}
use Rattle.gptman.specs.Crc.{crc_of}
use Rattle.gptman_disk.specs.Fault.{Fault, invalid_signature}
use Rattle.gptman.specs.Copy.{Copy, CopyAt, copy_at, header_crc, right_signature, right_revision}
use Rattle.gptman.specs.Reading.{CopyPlace, primary, backup, copy_start, copy_in}
use Rattle.gptman.specs.Table.{Table, TableEntry, IsHeaderForm, table_of}
use Rattle.gptman.specs.Layout.{Holds, IsLaidOut}
use Rattle.gptman.specs.Write.{HasBytes}
use Rattle.gptman.specs.declared.codec.header.GPTHeader.{GPTHeader}
use Rattle.gptman.specs.declared.codec.entry.GPTPartitionEntry.{GPTPartitionEntry}
use Rattle.gptman.proofs.HeaderBytes.{spelled_corresponds as header_coding}
use Rattle.gptman.proofs.EntryBytes.{with_text, spelled_corresponds as entry_coding}
use Rattle.gptman.proofs.ArrayBytes.{array_long, array_part}
use Rattle.gptman_disk.proofs.Overlays.{part-part}
use Rattle.gptman.proofs.CopyThere.{copy_there_is}
use Rattle.gptman.proofs.Sealing.{IsSealed}
use Rattle.gptman.proofs.CopyTests.{entries_start, entries_length}

-- The contents of an entry, as a table has them.
abbrev pub content_of : GPTPartitionEntry → TableEntry
content_of e = record {
  partition_type_guid = e.partition_type_guid;
  unique_partition_guid = e.unique_partition_guid;
  starting_lba = e.starting_lba;
  ending_lba = e.ending_lba;
  attribute_bits = e.attribute_bits;
  units = e.partition_name.units;
}

-- An entry after a read: its text is that of its units.
abbrev pub as_read : GPTPartitionEntry → GPTPartitionEntry
as_read e = with_text e (encode_utf8_all (text_of e.partition_name.units))

read_coding : (e : GPTPartitionEntry) → FitsEntry e → IsEntryCoding (as_read e) (entry_bytes e)
read_coding e fits = entry_coding e (encode_utf8_all (text_of e.partition_name.units)) fits

-- A header that a read does not refuse, with its number of entries.
pub record IsRight (h : GPTHeader) (es : List GPTPartitionEntry) : Type 0 where
  pub signature : h.signature ≡ right_signature
  pub revision : h.revision ≡ right_revision
  pub header_size : h.header_size ≡ 92
  pub entry_size : (h.number_of_partition_entries ≡ 0) ⊎ (h.size_of_partition_entry ≡ 128)
  pub count : length es ≡ h.number_of_partition_entries

-- The written bytes are a copy, with names as their units decode.
pub written_at : (b : List ℕ) (p ss : ℕ) (h : GPTHeader) (es : List GPTPartitionEntry) → FitsHeader h → All FitsEntry es → IsSealed h es → IsRight h es
    → p + 92 ≤ length b → (h.number_of_partition_entries ≡ 0) ⊎ (entries_start h ss + entries_length h ≤ length b)
    → part b p 92 ≡ header_bytes h → part b (entries_start h ss) (entries_length h) ≡ array_bytes es → CopyAt b p ss h (map as_read es)
written_at b p ss h es header_fits fits sums right in_header in_array header array =
    let at : (i : ℕ) (e : GPTPartitionEntry) → i < length (map as_read es) → (get_or (map as_read es) i e ≡ as_read (get_or es i e)) × (part b (entries_start h ss + 128 * i) 128 ≡ entry_bytes (get_or es i e)) =
    λ i e lt.
    let below : i < length es = omega (arith, length-map es as_read) in (
      get_or-map as_read es i e e below,
      sym (part-part b (entries_start h ss) (entries_length h) (128 * i) 128 (omega (arith, right.count)))
          ∙ ap (λ (y : List ℕ). part y (128 * i) 128) array ∙ array_part es i e fits below,
    ) in
    record {
      header = record {
        inside = in_header;
        coding = subst (IsHeaderCoding h) (sym header) (header_coding h header_fits);
        signature = right.signature;
        revision = right.revision;
        header_size = right.header_size;
        checksum = sums.header ∙ ap header_crc (sym header);
      };
      count = length-map es as_read ∙ right.count;
      entry_size = right.entry_size;
      inside = in_array;
      coding = λ i e lt.
          let below : i < length es = omega (arith, length-map es as_read) in
          let both = at i e lt in
          subst (λ (x : List ℕ). IsEntryCoding (get_or (map as_read es) i e) x) (sym both.1)
          (subst (λ (z : GPTPartitionEntry). IsEntryCoding z (entry_bytes (get_or es i e))) (sym both.0) (read_coding (get_or es i e) (All-get_or FitsEntry es i e below fits)));
      names = λ i e lt. subst HasReadName (sym (at i e lt).0) refl;
      checksum = sums.array ∙ ap crc_of (sym array);
    }

read_content : (es : List GPTPartitionEntry) → map content_of (map as_read es) ≡ map content_of es
read_content [] = refl
read_content (e ∷ es) = ap (λ (xs : List TableEntry). content_of e ∷ xs) (read_content es)

-- Its table is that of the entries in memory.
pub read_table : (h : GPTHeader) (es : List GPTPartitionEntry) → table_of h (map as_read es) ≡ table_of h es
read_table h es = ap (λ (xs : List TableEntry). record (table_of h es) { entries = xs }) (read_content es)

-- A header in the layout is written at the start of its place.
pub written_start : (side : CopyPlace) (h : GPTHeader) (es : List GPTPartitionEntry) (ss len : ℕ) → IsHeaderForm side h → IsLaidOut (table_of h es) ss len → h.primary_lba * ss ≡ copy_start side len ss
written_start primary h es ss len form laid = ap (λ (n : ℕ). n * ss) form.0 ∙ (let e : 1 * ss ≡ ss = omega arith in e)
written_start backup h es ss len form laid =
    let sector : h.primary_lba ≡ len / ss - 1 = omega (arith, laid.low_sector, laid.high_sector, form.0) in
    ap (λ (n : ℕ). n * ss) sector

-- The start of the entries of a table in the form of a place.
abbrev pub array_start : CopyPlace → Table → ℕ → ℕ
array_start side t ss = elim side [ primary ↦ 2 * ss | backup ↦ (t.last_usable_lba + 1) * ss ]

-- Its entries are written at their start.
pub written_array : (side : CopyPlace) (h : GPTHeader) (es : List GPTPartitionEntry) (ss : ℕ) → IsHeaderForm side h → h.partition_entry_lba * ss ≡ array_start side (table_of h es) ss
written_array primary h es ss form = ap (λ (n : ℕ). n * ss) form.1
written_array backup h es ss form = ap (λ (n : ℕ). n * ss) form.1

on_disk : (at len : ℕ) → ((let n : ℕ = 92 in n ≡ 0) ⊎ (at + 92 ≤ len)) → at + 92 ≤ len
on_disk at len (inl e) = absurd (omega arith)
on_disk at len (inr h) = h

-- A table's header at a place is on the disk,
pub header_inside : (side : CopyPlace) (t : Table) (ss len : ℕ) → IsLaidOut t ss len → copy_start side len ss + 92 ≤ len
header_inside primary t ss len laid = on_disk ss len laid.inside.0
header_inside backup t ss len laid = on_disk (copy_start backup len ss) len laid.inside.1.1.0

-- and so are its entries.
pub array_inside : (side : CopyPlace) (t : Table) (ss len : ℕ) → IsLaidOut t ss len → (128 * t.count ≡ 0) ⊎ (array_start side t ss + 128 * t.count ≤ len)
array_inside primary t ss len laid = laid.inside.1.0
array_inside backup t ss len laid = laid.inside.1.1.1.0

-- The copy at a place of a disk of at least one sector.
pub copy_in-at : (side : CopyPlace) (b : List ℕ) (ss : ℕ) → ss ≤ length b → (short : Bool) → ltb (length b) ss ≡ short → copy_in side b ss ≡ copy_at b (copy_start side (length b) ss) ss
unfolding copy_in
copy_in-at primary b ss long short is = refl
copy_in-at backup b ss long true is = absurd (omega (arith, ltb-true (length b) ss is))
copy_in-at backup b ss long false is =
    let choose : Bool → Result Copy Fault = λ t. elim t [ true ↦ Err invalid_signature | false ↦ copy_at b (copy_start backup (length b) ss) ss ] in
    ap choose is

-- A table in the layout whose bytes are on the disk is held at its place.
pub written_holds : (b : List ℕ) (ss : ℕ) (side : CopyPlace) (h : GPTHeader) (es : List GPTPartitionEntry) → length b ≤ 2 ^ 64 → IsLaidOut (table_of h es) ss (length b) → IsHeaderForm side h
    → FitsHeader h → All FitsEntry es → IsSealed h es → HasBytes b h es ss → Holds b ss side (table_of h es)
written_holds b ss side h es small laid form header_fits fits sums has =
    let p : ℕ = copy_start side (length b) ss in
    let t : Table = table_of h es in
    let inside = header_inside side t ss (length b) laid in
    let count : length es ≡ h.number_of_partition_entries = sym (length-map es content_of) ∙ laid.entries in
    let right : IsRight h es = record {
      signature = laid.signature;
      revision = laid.revision;
      header_size = laid.header_size;
      entry_size = inr laid.entry_size;
      count = count;
    } in
    let start : entries_start h ss ≡ array_start side t ss = written_array side h es ss form in
    let in_array : (h.number_of_partition_entries ≡ 0) ⊎ (entries_start h ss + entries_length h ≤ length b) =
    elim (array_inside side t ss (length b) laid) as (λ _. (h.number_of_partition_entries ≡ 0) ⊎ (entries_start h ss + entries_length h ≤ length b)) [
      | inl none ↦ inl (omega (arith, none))
      | inr within ↦ inr (omega (arith, within, start))
    ] in
    let long : entries_length h ≡ length (array_bytes es) = omega (arith, array_long es fits, count) in
    let at = written_at b p ss h es header_fits fits sums right inside in_array
    (ap (λ (k : ℕ). part b k 92) (sym (written_start side h es ss (length b) form laid)) ∙ has.header)
    (ap (λ (n : ℕ). part b (entries_start h ss) n) long ∙ has.entries) in
    record {
      copy = record { header = h; entries = map as_read es };
      accepted =
          copy_in-at side b ss (omega (arith, header_inside primary t ss (length b) laid)) (ltb (length b) ss) refl
          ∙ copy_there_is b p ss h (map as_read es) small at;
      form = record { table = read_table h es; form = form };
    }
