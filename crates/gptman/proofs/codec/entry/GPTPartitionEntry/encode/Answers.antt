use Rattle.std.proofs.Common.{◌≡◌, ℕ, ◌^◌, ◌<◌, ◌++◌, length, List, replicate, flat_map, slice_index, arith, refl, sym, ap, ◌∙◌, subst}
use Rattle.byteorder.specs.Endian.{little_bytes}
use Rattle.gptman.specs.Coding.{FitsEntry, IsEntryCoding, entry_bytes}
use Rattle.gptman.proofs.Assembly.{written_none, written_more, written_all}
use Rattle.gptman.proofs.EntryBytes.{front_of, spelled_corresponds}
use Rattle.gptman.proofs.codec.entry.GPTPartitionEntry.encode.Goals as goal

fits_of : (c : goal.After-note_bytes) → FitsEntry c.args.self.now
fits_of c =
    let e = c.args.self.now in
    let same : c.units.result.now ≡ e.partition_name.units = c.units.ensures in
    record {
      partition_type_guid = omega arith;
      unique_partition_guid = omega arith;
      starting_lba = c.put_u64.ensures.in_range;
      ending_lba = c.put_u64-2.ensures.in_range;
      attribute_bits = c.put_u64-3.ensures.in_range;
      units = ap length (sym same) ∙ c.bytes_of.ensures.len;
      unit = λ k. subst (λ (us : List ℕ). slice_index us k < 2 ^ 16) same (c.bytes_of.ensures.in_range k);
    }

pub returns-clause-spelled : goal.returns-clause-spelled
unfolding entry_bytes
returns-clause-spelled c =
    let e = c.args.self.now in
    let fits = fits_of c in
    let w1 = written_more (written_none (replicate 128 0)) e.partition_type_guid 16 fits.partition_type_guid c.put.ensures in
    let w2 = written_more w1 e.unique_partition_guid 16 fits.unique_partition_guid c.put-2.ensures in
    let w3 = written_more w2 (little_bytes 8 e.starting_lba) 8 refl c.put_u64.ensures.written in
    let w4 = written_more w3 (little_bytes 8 e.ending_lba) 8 refl c.put_u64-2.ensures.written in
    let w5 = written_more w4 (little_bytes 8 e.attribute_bits) 8 refl c.put_u64-3.ensures.written in
    let w6 = written_more w5 c.bytes_of.result 72 (omega arith) c.put-3.ensures in
    let front : List ℕ = front_of e.partition_type_guid e.unique_partition_guid e.starting_lba e.ending_lba e.attribute_bits in
    written_all w6 refl ∙ ap (λ (bs : List ℕ). front ++ bs) (c.bytes_of.ensures.bytes ∙ ap (flat_map (little_bytes 2)) c.units.ensures)

pub returns-clause-coding : goal.returns-clause-coding
returns-clause-coding c = subst (IsEntryCoding c.args.self.now) (sym (returns-clause-spelled c)) (spelled_corresponds c.args.self.now c.args.self.now.partition_name.text (fits_of c))

pub returns-clause-fits : goal.returns-clause-fits
returns-clause-fits c = fits_of c
