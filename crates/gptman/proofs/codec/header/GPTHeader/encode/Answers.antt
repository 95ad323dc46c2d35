use Rattle.std.proofs.Common.{replicate, arith, refl, sym, subst}
use Rattle.byteorder.specs.Endian.{little_bytes}
use Rattle.gptman.specs.Coding.{FitsHeader, IsHeaderCoding, header_bytes}
use Rattle.gptman.proofs.Assembly.{written_none, written_more, written_all}
use Rattle.gptman.proofs.HeaderBytes.{spelled_corresponds, one_header}
use Rattle.gptman.proofs.codec.header.GPTHeader.encode.Goals as goal

fits_of : (c : goal.After-note_bytes) → FitsHeader c.args.self.now
fits_of c = record {
  signature = omega arith;
  revision = omega arith;
  header_size = c.put_u32.ensures.in_range;
  crc32_checksum = c.put_u32-2.ensures.in_range;
  reserved = omega arith;
  primary_lba = c.put_u64.ensures.in_range;
  backup_lba = c.put_u64-2.ensures.in_range;
  first_usable_lba = c.put_u64-3.ensures.in_range;
  last_usable_lba = c.put_u64-4.ensures.in_range;
  disk_guid = omega arith;
  partition_entry_lba = c.put_u64-5.ensures.in_range;
  number_of_partition_entries = c.put_u32-3.ensures.in_range;
  size_of_partition_entry = c.put_u32-4.ensures.in_range;
  partition_entry_array_crc32 = c.put_u32-5.ensures.in_range;
}

pub returns-clause-spelled : goal.returns-clause-spelled
unfolding header_bytes
returns-clause-spelled c =
    let fits = fits_of c in
    let w1 = written_more (written_none (replicate 92 0)) c.args.self.now.signature 8 fits.signature c.put.ensures in
    let w2 = written_more w1 c.args.self.now.revision 4 fits.revision c.put-2.ensures in
    let w3 = written_more w2 (little_bytes 4 c.args.self.now.header_size) 4 refl c.put_u32.ensures.written in
    let w4 = written_more w3 (little_bytes 4 c.args.self.now.crc32_checksum) 4 refl c.put_u32-2.ensures.written in
    let w5 = written_more w4 c.args.self.now.reserved 4 fits.reserved c.put-3.ensures in
    let w6 = written_more w5 (little_bytes 8 c.args.self.now.primary_lba) 8 refl c.put_u64.ensures.written in
    let w7 = written_more w6 (little_bytes 8 c.args.self.now.backup_lba) 8 refl c.put_u64-2.ensures.written in
    let w8 = written_more w7 (little_bytes 8 c.args.self.now.first_usable_lba) 8 refl c.put_u64-3.ensures.written in
    let w9 = written_more w8 (little_bytes 8 c.args.self.now.last_usable_lba) 8 refl c.put_u64-4.ensures.written in
    let w10 = written_more w9 c.args.self.now.disk_guid 16 fits.disk_guid c.put-4.ensures in
    let w11 = written_more w10 (little_bytes 8 c.args.self.now.partition_entry_lba) 8 refl c.put_u64-5.ensures.written in
    let w12 = written_more w11 (little_bytes 4 c.args.self.now.number_of_partition_entries) 4 refl c.put_u32-3.ensures.written in
    let w13 = written_more w12 (little_bytes 4 c.args.self.now.size_of_partition_entry) 4 refl c.put_u32-4.ensures.written in
    let w14 = written_more w13 (little_bytes 4 c.args.self.now.partition_entry_array_crc32) 4 refl c.put_u32-5.ensures.written in
    written_all w14 refl

pub returns-clause-coding : goal.returns-clause-coding
returns-clause-coding c = subst (IsHeaderCoding c.args.self.now) (sym (returns-clause-spelled c)) (spelled_corresponds c.args.self.now (fits_of c))

pub returns-clause-only : goal.returns-clause-only
returns-clause-only c = λ h e. one_header h c.args.self.now _ e (returns-clause-coding c)

pub returns-clause-fits : goal.returns-clause-fits
returns-clause-fits c = fits_of c
