-- `==` on tables decides `≡`.
use Rattle.std.proofs.Common.{◌≡◌, rules, ap, List, refl}
use Rattle.std.proofs.lemmas.Bool.Decides.{Decides-and, Decides-like, Decides-eqb}
use Rattle.std.proofs.lemmas.Slice.Eq.{slice_eq-Decides, bytes_eq-Decides}
use Rattle.std.specs.Bool.{Decides}
use Rattle.gptman.specs.declared.codec.header.GPTHeader.{GPTHeader}
use Rattle.gptman.specs.declared.codec.entry.GPTPartitionEntry.{GPTPartitionEntry}
use Rattle.gptman.specs.contracts.codec.entry.GPTPartitionEntryPartialEq.TheImpl as entry
use Rattle.gptman.specs.contracts.codec.header.GPTHeaderPartialEq.TheImpl as header
use Rattle.gptman.specs.declared.table.GPT.{GPT}
use Rattle.gptman.specs.contracts.table.GPTPartialEq.TheImpl as table
use lib.Pointwise.{pointwise}

pub entry_decides : (a b : GPTPartitionEntry) → Decides (entry.eq-value.it a b) (a ≡ b)
entry_decides a b = search rules

pub entries_decide : (a b : List GPTPartitionEntry) → Decides (pointwise entry.eq-value.it a b) (a ≡ b)
entries_decide a b = slice_eq-Decides entry_decides a b _ refl

pub header_decides : (a b : GPTHeader) → Decides (header.eq-value.it a b) (a ≡ b)
header_decides a b =
    Decides-like _
    (λ p. λ i. record { signature = p.0 i; revision = p.1.0 i; header_size = p.1.1.0 i; crc32_checksum = p.1.1.1.0 i; reserved = p.1.1.1.1.0 i; primary_lba = p.1.1.1.1.1.0 i; backup_lba = p.1.1.1.1.1.1.0 i; first_usable_lba = p.1.1.1.1.1.1.1.0 i; last_usable_lba = p.1.1.1.1.1.1.1.1.0 i; disk_guid = p.1.1.1.1.1.1.1.1.1.0 i; partition_entry_lba = p.1.1.1.1.1.1.1.1.1.1.0 i; number_of_partition_entries = p.1.1.1.1.1.1.1.1.1.1.1.0 i; size_of_partition_entry = p.1.1.1.1.1.1.1.1.1.1.1.1.0 i; partition_entry_array_crc32 = p.1.1.1.1.1.1.1.1.1.1.1.1.1 i })
    (λ e. (ap (λ (h : GPTHeader). h.signature) e, (ap (λ (h : GPTHeader). h.revision) e, (ap (λ (h : GPTHeader). h.header_size) e, (ap (λ (h : GPTHeader). h.crc32_checksum) e, (ap (λ (h : GPTHeader). h.reserved) e, (ap (λ (h : GPTHeader). h.primary_lba) e, (ap (λ (h : GPTHeader). h.backup_lba) e, (ap (λ (h : GPTHeader). h.first_usable_lba) e, (ap (λ (h : GPTHeader). h.last_usable_lba) e, (ap (λ (h : GPTHeader). h.disk_guid) e, (ap (λ (h : GPTHeader). h.partition_entry_lba) e, (ap (λ (h : GPTHeader). h.number_of_partition_entries) e, (ap (λ (h : GPTHeader). h.size_of_partition_entry) e, ap (λ (h : GPTHeader). h.partition_entry_array_crc32) e))))))))))))))
    (Decides-and _ _ (bytes_eq-Decides a.signature b.signature)
    (Decides-and _ _ (bytes_eq-Decides a.revision b.revision)
    (Decides-and _ _ (Decides-eqb a.header_size b.header_size)
    (Decides-and _ _ (Decides-eqb a.crc32_checksum b.crc32_checksum)
    (Decides-and _ _ (bytes_eq-Decides a.reserved b.reserved)
    (Decides-and _ _ (Decides-eqb a.primary_lba b.primary_lba)
    (Decides-and _ _ (Decides-eqb a.backup_lba b.backup_lba)
    (Decides-and _ _ (Decides-eqb a.first_usable_lba b.first_usable_lba)
    (Decides-and _ _ (Decides-eqb a.last_usable_lba b.last_usable_lba)
    (Decides-and _ _ (bytes_eq-Decides a.disk_guid b.disk_guid)
    (Decides-and _ _ (Decides-eqb a.partition_entry_lba b.partition_entry_lba)
    (Decides-and _ _ (Decides-eqb a.number_of_partition_entries b.number_of_partition_entries)
    (Decides-and _ _ (Decides-eqb a.size_of_partition_entry b.size_of_partition_entry)
    (Decides-eqb a.partition_entry_array_crc32 b.partition_entry_array_crc32))))))))))))))

pub table_decides : (a b : GPT) → Decides (table.eq-value.it a b) (a ≡ b)
table_decides a b =
    Decides-like _
    (λ p. λ i. record { sector_size = p.0 i; header = p.1.0 i; partitions = p.1.1.0 i; align = p.1.1.1 i })
    (λ e. (ap (λ (g : GPT). g.sector_size) e, (ap (λ (g : GPT). g.header) e, (ap (λ (g : GPT). g.partitions) e, ap (λ (g : GPT). g.align) e))))
    (Decides-and _ _ (Decides-eqb a.sector_size b.sector_size)
    (Decides-and _ _ (header_decides a.header b.header)
    (Decides-and _ _ (entries_decide a.partitions b.partitions) (Decides-eqb a.align b.align))))
