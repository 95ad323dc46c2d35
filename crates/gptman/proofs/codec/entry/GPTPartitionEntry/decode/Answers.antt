use Rattle.std.proofs.Common.{◌∙◌, arith, rules}
use Rattle.gptman.proofs.EntryBytes.{spelling_is}
use Rattle.gptman.proofs.codec.entry.GPTPartitionEntry.decode.Goals as goal

pub returns-clause-coding : goal.returns-clause-coding
returns-clause-coding c = record {
  partition_type_guid = c.part_at.ensures;
  unique_partition_guid = c.part_at-2.ensures;
  starting_lba = c.u64_at.ensures;
  ending_lba = c.u64_at-2.ensures;
  attribute_bits = c.u64_at-3.ensures;
  units = c.in_ok-from_units.ensures.units ∙ c.units_in.ensures;
}

pub returns-clause-spelled : goal.returns-clause-spelled
returns-clause-spelled c = spelling_is _ c.args.bytes.now (omega arith) (λ i. omega (arith, c.fits-bytes i)) (returns-clause-coding c)

pub returns-clause-name : goal.returns-clause-name
returns-clause-name c = search rules
