-- Headers and entries as bytes. Numbers are little endian, and each field is at its offset.
use Rattle.std.specs.Prelude.{◌≡◌, ℕ, ◌+◌, ◌*◌, ◌^◌, ◌<◌, List, [], ◌++◌, map, flat_map, slice_range, slice_index, length, replicate, encode_utf8_all}
use Rattle.std.specs.List.{range_with_len}
use Rattle.byteorder.specs.Endian.{little_bytes}
use Rattle.gptman_disk.specs.Bytes.{le}
use Rattle.gptman.specs.Name.{text_of}
use Rattle.gptman.specs.declared.codec.header.GPTHeader.{GPTHeader}
use Rattle.gptman.specs.declared.codec.entry.GPTPartitionEntry.{GPTPartitionEntry}

-- Each field of the header is the number, or the bytes, at its offset.
pub record IsHeaderCoding (h : GPTHeader) (b : List ℕ) : Type 0 where
  pub signature : h.signature ≡ slice_range b 0 8
  pub revision : h.revision ≡ slice_range b 8 12
  pub header_size : h.header_size ≡ le (slice_range b 12 16)
  pub crc32_checksum : h.crc32_checksum ≡ le (slice_range b 16 20)
  pub reserved : h.reserved ≡ slice_range b 20 24
  pub primary_lba : h.primary_lba ≡ le (slice_range b 24 32)
  pub backup_lba : h.backup_lba ≡ le (slice_range b 32 40)
  pub first_usable_lba : h.first_usable_lba ≡ le (slice_range b 40 48)
  pub last_usable_lba : h.last_usable_lba ≡ le (slice_range b 48 56)
  pub disk_guid : h.disk_guid ≡ slice_range b 56 72
  pub partition_entry_lba : h.partition_entry_lba ≡ le (slice_range b 72 80)
  pub number_of_partition_entries : h.number_of_partition_entries ≡ le (slice_range b 80 84)
  pub size_of_partition_entry : h.size_of_partition_entry ≡ le (slice_range b 84 88)
  pub partition_entry_array_crc32 : h.partition_entry_array_crc32 ≡ le (slice_range b 88 92)

-- The 36 units of two bytes from byte 56 on.
unfoldable pub units_at : List ℕ → List ℕ
units_at b = map (λ k. le (slice_range b (56 + 2 * k) (56 + 2 * k + 2))) (range_with_len 0 36)

-- Each field of the entry is the number, or the bytes, at its offset. The text of the name is not encoded.
pub record IsEntryCoding (e : GPTPartitionEntry) (b : List ℕ) : Type 0 where
  pub partition_type_guid : e.partition_type_guid ≡ slice_range b 0 16
  pub unique_partition_guid : e.unique_partition_guid ≡ slice_range b 16 32
  pub starting_lba : e.starting_lba ≡ le (slice_range b 32 40)
  pub ending_lba : e.ending_lba ≡ le (slice_range b 40 48)
  pub attribute_bits : e.attribute_bits ≡ le (slice_range b 48 56)
  pub units : e.partition_name.units ≡ units_at b

-- The text of the name is that of its units, as in an entry that was read.
abbrev pub HasReadName : GPTPartitionEntry → Type 0
HasReadName e = e.partition_name.text ≡ encode_utf8_all (text_of e.partition_name.units)

-- The header that the bytes encode.
abbrev pub header_of : List ℕ → GPTHeader
header_of b = record {
  signature = slice_range b 0 8;
  revision = slice_range b 8 12;
  header_size = le (slice_range b 12 16);
  crc32_checksum = le (slice_range b 16 20);
  reserved = slice_range b 20 24;
  primary_lba = le (slice_range b 24 32);
  backup_lba = le (slice_range b 32 40);
  first_usable_lba = le (slice_range b 40 48);
  last_usable_lba = le (slice_range b 48 56);
  disk_guid = slice_range b 56 72;
  partition_entry_lba = le (slice_range b 72 80);
  number_of_partition_entries = le (slice_range b 80 84);
  size_of_partition_entry = le (slice_range b 84 88);
  partition_entry_array_crc32 = le (slice_range b 88 92);
}

-- The entry that the bytes encode; its name has the text of its units.
unfoldable pub entry_of : List ℕ → GPTPartitionEntry
entry_of b = record {
  partition_type_guid = slice_range b 0 16;
  unique_partition_guid = slice_range b 16 32;
  starting_lba = le (slice_range b 32 40);
  ending_lba = le (slice_range b 40 48);
  attribute_bits = le (slice_range b 48 56);
  partition_name = record { text = encode_utf8_all (text_of (units_at b)); units = units_at b };
}

-- The bytes of a header: its fields in order.
unfoldable pub header_bytes : GPTHeader → List ℕ
header_bytes h =
    h.signature ++ h.revision ++ little_bytes 4 h.header_size ++ little_bytes 4 h.crc32_checksum ++ h.reserved
    ++ little_bytes 8 h.primary_lba ++ little_bytes 8 h.backup_lba ++ little_bytes 8 h.first_usable_lba
    ++ little_bytes 8 h.last_usable_lba ++ h.disk_guid ++ little_bytes 8 h.partition_entry_lba
    ++ little_bytes 4 h.number_of_partition_entries ++ little_bytes 4 h.size_of_partition_entry
    ++ little_bytes 4 h.partition_entry_array_crc32

-- The bytes of an entry: its fields in order, with only the units of the name.
unfoldable pub entry_bytes : GPTPartitionEntry → List ℕ
entry_bytes e =
    e.partition_type_guid ++ e.unique_partition_guid ++ little_bytes 8 e.starting_lba ++ little_bytes 8 e.ending_lba
    ++ little_bytes 8 e.attribute_bits ++ flat_map (little_bytes 2) e.partition_name.units

-- The bytes of all entries, in order.
abbrev pub array_bytes : List GPTPartitionEntry → List ℕ
array_bytes es = flat_map entry_bytes es

-- The unused entry, 128 zero bytes.
abbrev pub empty_entry : GPTPartitionEntry
empty_entry = record {
  partition_type_guid = replicate 16 0;
  unique_partition_guid = replicate 16 0;
  starting_lba = 0;
  ending_lba = 0;
  attribute_bits = 0;
  partition_name = record { text = []; units = replicate 36 0 };
}

-- Each field of the header is a value of its type.
pub record FitsHeader (h : GPTHeader) : Type 0 where
  pub signature : length h.signature ≡ 8
  pub revision : length h.revision ≡ 4
  pub header_size : h.header_size < 2 ^ 32
  pub crc32_checksum : h.crc32_checksum < 2 ^ 32
  pub reserved : length h.reserved ≡ 4
  pub primary_lba : h.primary_lba < 2 ^ 64
  pub backup_lba : h.backup_lba < 2 ^ 64
  pub first_usable_lba : h.first_usable_lba < 2 ^ 64
  pub last_usable_lba : h.last_usable_lba < 2 ^ 64
  pub disk_guid : length h.disk_guid ≡ 16
  pub partition_entry_lba : h.partition_entry_lba < 2 ^ 64
  pub number_of_partition_entries : h.number_of_partition_entries < 2 ^ 32
  pub size_of_partition_entry : h.size_of_partition_entry < 2 ^ 32
  pub partition_entry_array_crc32 : h.partition_entry_array_crc32 < 2 ^ 32

-- Each field of the entry is a value of its type.
pub record FitsEntry (e : GPTPartitionEntry) : Type 0 where
  pub partition_type_guid : length e.partition_type_guid ≡ 16
  pub unique_partition_guid : length e.unique_partition_guid ≡ 16
  pub starting_lba : e.starting_lba < 2 ^ 64
  pub ending_lba : e.ending_lba < 2 ^ 64
  pub attribute_bits : e.attribute_bits < 2 ^ 64
  pub units : length e.partition_name.units ≡ 36
  pub unit : (k : ℕ) → slice_index e.partition_name.units k < 2 ^ 16
