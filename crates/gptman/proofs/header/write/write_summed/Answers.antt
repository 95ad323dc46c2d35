use Rattle.std.proofs.Common.{ℕ, ap, ◌∙◌, refl, subst}
use Rattle.gptman.specs.Coding.{header_bytes}
use Rattle.gptman.specs.Copy.{header_crc, with_checksums}
use Rattle.gptman_disk.specs.Disk.{Wrote}
use Rattle.gptman.specs.declared.codec.header.GPTHeader.{GPTHeader}
use Rattle.gptman_disk.proofs.Ranges.{Ranges}
use Rattle.gptman.proofs.WriteRanges.{ranges_still}
use Rattle.gptman.proofs.header.write.write_summed.Goals as goal

-- The header with this checksum of its entries, then with its own.
abbrev summed : GPTHeader → ℕ → GPTHeader
summed h checksum =
    let with_array : GPTHeader = record h { partition_entry_array_crc32 = checksum } in
    record with_array { crc32_checksum = header_crc (header_bytes with_array) }

pub returns-clause-value : goal.returns-clause-value
unfolding with_checksums
returns-clause-value g c = c.update_crc32_checksum.ensures ∙ ap (summed c.args.header.now) c.requires.checksum

pub returns-clause-wrote : goal.returns-clause-wrote
returns-clause-wrote g c = λ honest.
    let with_array : GPTHeader = record c.args.header.now { partition_entry_array_crc32 = c.args.checksum } in
    let same = ranges_still c.args.header.now with_array c.update_crc32_checksum.new.self _ _ c.args.sector_size refl c.update_crc32_checksum.ensures in
    subst (λ (rs : Ranges). Wrote rs (g.D.Disk.state c.args.disk.now) (g.D.Disk.state c.write_copy.new.disk)) same (c.write_copy.ensures.wrote honest)
