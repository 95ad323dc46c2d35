-- A header as bytes.
use Rattle.std.proofs.Common.{◌≡◌, ℕ, List, length, arith, refl, sym, ap, subst, ◌∙◌, map, length-append}
use Rattle.std.specs.List.{range_with_len}
use Rattle.std.proofs.lemmas.List.{take_all}
use Rattle.byteorder.specs.Endian.{little_bytes}
use Rattle.gptman_disk.specs.Bytes.{AreBytes}
use Rattle.gptman.specs.Coding.{FitsHeader, IsHeaderCoding, header_bytes, header_of}
use Rattle.gptman.specs.declared.codec.header.GPTHeader.{GPTHeader}
use Rattle.gptman.proofs.Assembly.{cells, elements, taken_more}
use Rattle.gptman.proofs.Numbers.{le_of, le_back}

-- A header whose byte fields are given by element.
abbrev listed : GPTHeader → (ℕ → ℕ) → (ℕ → ℕ) → (ℕ → ℕ) → (ℕ → ℕ) → GPTHeader
listed h s r z g = record h {
  signature = map s (range_with_len 0 8);
  revision = map r (range_with_len 0 4);
  reserved = map z (range_with_len 0 4);
  disk_guid = map g (range_with_len 0 16);
}

listed_corresponds : (h : GPTHeader) (s r z g : ℕ → ℕ) → FitsHeader h → IsHeaderCoding (listed h s r z g) (header_bytes (listed h s r z g))
unfolding header_bytes
listed_corresponds h s r z g fits = record {
  signature = refl;
  revision = refl;
  header_size = sym (le_of 4 h.header_size fits.header_size);
  crc32_checksum = sym (le_of 4 h.crc32_checksum fits.crc32_checksum);
  reserved = refl;
  primary_lba = sym (le_of 8 h.primary_lba fits.primary_lba);
  backup_lba = sym (le_of 8 h.backup_lba fits.backup_lba);
  first_usable_lba = sym (le_of 8 h.first_usable_lba fits.first_usable_lba);
  last_usable_lba = sym (le_of 8 h.last_usable_lba fits.last_usable_lba);
  disk_guid = refl;
  partition_entry_lba = sym (le_of 8 h.partition_entry_lba fits.partition_entry_lba);
  number_of_partition_entries = sym (le_of 4 h.number_of_partition_entries fits.number_of_partition_entries);
  size_of_partition_entry = sym (le_of 4 h.size_of_partition_entry fits.size_of_partition_entry);
  partition_entry_array_crc32 = sym (le_of 4 h.partition_entry_array_crc32 fits.partition_entry_array_crc32);
}

listed_same : (h : GPTHeader) → FitsHeader h → h ≡ listed h (elements h.signature) (elements h.revision) (elements h.reserved) (elements h.disk_guid)
listed_same h fits =
    let s : List ℕ = map (elements h.signature) (range_with_len 0 8) in
    let r : List ℕ = map (elements h.revision) (range_with_len 0 4) in
    let z : List ℕ = map (elements h.reserved) (range_with_len 0 4) in
    ap (λ (xs : List ℕ). record h { signature = xs }) (cells h.signature 8 fits.signature)
    ∙ ap (λ (xs : List ℕ). record h { signature = s; revision = xs }) (cells h.revision 4 fits.revision)
    ∙ ap (λ (xs : List ℕ). record h { signature = s; revision = r; reserved = xs }) (cells h.reserved 4 fits.reserved)
    ∙ ap (λ (xs : List ℕ). record h { signature = s; revision = r; reserved = z; disk_guid = xs }) (cells h.disk_guid 16 fits.disk_guid)

-- A header corresponds to its bytes (`IsHeaderCoding`).
pub spelled_corresponds : (h : GPTHeader) → FitsHeader h → IsHeaderCoding h (header_bytes h)
spelled_corresponds h fits =
    let P : GPTHeader → Type 0 = λ k. IsHeaderCoding k (header_bytes k) in
    subst P (sym (listed_same h fits)) (listed_corresponds h (elements h.signature) (elements h.revision) (elements h.reserved) (elements h.disk_guid) fits)

-- A header that bytes encode is that one.
pub header_is : (h : GPTHeader) (b : List ℕ) → IsHeaderCoding h b → h ≡ header_of b
header_is h b c = λ i. record {
  signature = c.signature i;
  revision = c.revision i;
  header_size = c.header_size i;
  crc32_checksum = c.crc32_checksum i;
  reserved = c.reserved i;
  primary_lba = c.primary_lba i;
  backup_lba = c.backup_lba i;
  first_usable_lba = c.first_usable_lba i;
  last_usable_lba = c.last_usable_lba i;
  disk_guid = c.disk_guid i;
  partition_entry_lba = c.partition_entry_lba i;
  number_of_partition_entries = c.number_of_partition_entries i;
  size_of_partition_entry = c.size_of_partition_entry i;
  partition_entry_array_crc32 = c.partition_entry_array_crc32 i;
}

-- Bytes encode one header.
pub one_header : (g h : GPTHeader) (b : List ℕ) → IsHeaderCoding g b → IsHeaderCoding h b → g ≡ h
one_header g h b cg ch = header_is g b cg ∙ sym (header_is h b ch)

-- Bytes that correspond to a header are its bytes.
pub spelling_is : (h : GPTHeader) (b : List ℕ) → length b ≡ 92 → AreBytes b → IsHeaderCoding h b → b ≡ header_bytes h
unfolding header_bytes
spelling_is h b len bytes e =
    let t1 = e.signature in
    let t2 = taken_more b 8 4 t1 e.revision in
    let t3 = taken_more b 12 4 t2 (ap (little_bytes 4) e.header_size ∙ le_back 4 b 12 (omega (arith, len)) bytes) in
    let t4 = taken_more b 16 4 t3 (ap (little_bytes 4) e.crc32_checksum ∙ le_back 4 b 16 (omega (arith, len)) bytes) in
    let t5 = taken_more b 20 4 t4 e.reserved in
    let t6 = taken_more b 24 8 t5 (ap (little_bytes 8) e.primary_lba ∙ le_back 8 b 24 (omega (arith, len)) bytes) in
    let t7 = taken_more b 32 8 t6 (ap (little_bytes 8) e.backup_lba ∙ le_back 8 b 32 (omega (arith, len)) bytes) in
    let t8 = taken_more b 40 8 t7 (ap (little_bytes 8) e.first_usable_lba ∙ le_back 8 b 40 (omega (arith, len)) bytes) in
    let t9 = taken_more b 48 8 t8 (ap (little_bytes 8) e.last_usable_lba ∙ le_back 8 b 48 (omega (arith, len)) bytes) in
    let t10 = taken_more b 56 16 t9 e.disk_guid in
    let t11 = taken_more b 72 8 t10 (ap (little_bytes 8) e.partition_entry_lba ∙ le_back 8 b 72 (omega (arith, len)) bytes) in
    let t12 = taken_more b 80 4 t11 (ap (little_bytes 4) e.number_of_partition_entries ∙ le_back 4 b 80 (omega (arith, len)) bytes) in
    let t13 = taken_more b 84 4 t12 (ap (little_bytes 4) e.size_of_partition_entry ∙ le_back 4 b 84 (omega (arith, len)) bytes) in
    let t14 = taken_more b 88 4 t13 (ap (little_bytes 4) e.partition_entry_array_crc32 ∙ le_back 4 b 88 (omega (arith, len)) bytes) in
    sym (take_all 92 b (omega (arith, len))) ∙ sym t14

-- A header has 92 bytes.
pub header_long : (h : GPTHeader) → FitsHeader h → length (header_bytes h) ≡ 92
unfolding header_bytes
header_long h fits = simp length-append (omega (arith, fits.signature, fits.revision, fits.reserved, fits.disk_guid))
