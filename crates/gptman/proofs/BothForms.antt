-- Two headers of one table, the first in primary form and the second in backup form.
use Rattle.std.proofs.Common.{◌≡◌, [], min, max, sym, ap, ◌∙◌, arith}
use Rattle.gptman.specs.Reading.{primary, backup}
use Rattle.gptman.specs.Table.{Table, table_of, IsHeaderForm}
use Rattle.gptman.specs.declared.codec.header.GPTHeader.{GPTHeader}
use Rattle.gptman.proofs.OtherHeader.{other_table}
use Rattle.gptman.specs.Copies.{with_sectors_exchanged, AreBothForms}

-- Headers in the two forms are of one table if the second is the first with its sectors exchanged.
pub both_forms : (first second : GPTHeader) → IsHeaderForm primary first → IsHeaderForm backup second → second ≡ with_sectors_exchanged first second
    → AreBothForms first second
both_forms first second at_primary at_backup is = record {
  at_primary = at_primary;
  at_backup = at_backup;
  same = λ es. ap (λ (h : GPTHeader). table_of h es) is ∙ other_table first es;
}

-- The converse.
pub forms_exchanged : (first second : GPTHeader) → AreBothForms first second → second ≡ with_sectors_exchanged first second
forms_exchanged first second are =
    let tables : table_of second [] ≡ table_of first [] = are.same [] in
    let low : min second.primary_lba second.backup_lba ≡ min first.primary_lba first.backup_lba = ap (λ (t : Table). t.low_sector) tables in
    let high : max second.primary_lba second.backup_lba ≡ max first.primary_lba first.backup_lba = ap (λ (t : Table). t.high_sector) tables in
    let own : first.primary_lba ≡ 1 = are.at_primary.0 in
    let other : second.backup_lba ≡ 1 = are.at_backup.0 in
    let sector : second.primary_lba ≡ first.backup_lba = omega (arith, low, high, own, other) in
    λ i. record {
      signature = (tables i).signature;
      revision = (tables i).revision;
      header_size = (tables i).header_size;
      crc32_checksum = second.crc32_checksum;
      reserved = (tables i).reserved;
      primary_lba = sector i;
      backup_lba = (other ∙ sym own) i;
      first_usable_lba = (tables i).first_usable_lba;
      last_usable_lba = (tables i).last_usable_lba;
      disk_guid = (tables i).disk_guid;
      partition_entry_lba = second.partition_entry_lba;
      number_of_partition_entries = (tables i).count;
      size_of_partition_entry = (tables i).entry_size;
      partition_entry_array_crc32 = second.partition_entry_array_crc32;
    }
