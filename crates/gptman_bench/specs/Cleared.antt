-- An entry with its attributes cleared.
use Rattle.gptman.specs.declared.codec.entry.GPTPartitionEntry.{GPTPartitionEntry}

abbrev pub cleared : GPTPartitionEntry → GPTPartitionEntry
cleared e = record e { attribute_bits = 0 }
