-- The lines that are printed.
use Rattle.std.specs.Prelude.{ℕ, Bool, ◌||◌, List, [], ◌++◌, codes, flat_map, map, nat_eq, nat_lt, Result, Ok, Err, if◌then◌else◌}
use Rattle.std.specs.Fmt.{decimal}
use Rattle.std.specs.Int.{to_be_bytes, w64}
use Rattle.std.specs.List.{enumerate_from}
use Rattle.hex.specs.Hex.{encode_lower}
use Rattle.gptman.specs.Answers.{answer_of}
use Rattle.gptman.specs.Copy.{Copy}
use Rattle.gptman.specs.Entry.{is_used}
use Rattle.gptman.specs.Fault.{Fault}
use Rattle.gptman.specs.Table.{entries_in}
use Rattle.gptman.specs.declared.codec.entry.GPTPartitionEntry.{GPTPartitionEntry}
use Rattle.gptman.specs.declared.codec.header.GPTHeader.{GPTHeader}
use Rattle.gptman.specs.declared.table.GPT.{GPT}
use Rattle.gptman.specs.Copy.{copy_of_whole}
use Rattle.gptimg_core.specs.Names.{fault_name}
use Rattle.gptimg_core.specs.declared.commands.Report.{Report}
use Rattle.gptimg_core.specs.declared.commands.Report.TheVariants.{Done, Table, Slots, Added, Copies}

-- the form of the header
abbrev pub form_name : GPTHeader → List ℕ
form_name h = if nat_eq h.primary_lba 1 then codes "primary" else codes "backup"

-- the line of the table
abbrev pub table_line : GPT → List ℕ
table_line g =
    codes "sector " ++ decimal g.sector_size ++ codes " form " ++ form_name g.header ++ codes " disk " ++ encode_lower g.header.disk_guid
    ++ codes " usable " ++ decimal g.header.first_usable_lba ++ codes ".." ++ decimal g.header.last_usable_lba
    ++ codes " entries " ++ decimal g.header.number_of_partition_entries ++ codes " align " ++ decimal g.align ++ codes "\n"

-- a byte of a name as printed: a question mark for a control character, which is one byte in UTF-8
abbrev pub shown_byte : ℕ → ℕ
shown_byte b = if nat_lt b 0x20 || nat_eq b 0x7f then 0x3f else b

abbrev pub shown_text : List ℕ → List ℕ
shown_text text = map shown_byte text

-- the line of an entry, with its number
abbrev pub entry_line : ℕ × GPTPartitionEntry → List ℕ
entry_line p =
    decimal p.0 ++ codes " " ++ encode_lower p.1.partition_type_guid ++ codes " " ++ encode_lower p.1.unique_partition_guid
    ++ codes " " ++ decimal p.1.starting_lba ++ codes ".." ++ decimal p.1.ending_lba
    ++ codes " " ++ encode_lower (to_be_bytes w64 p.1.attribute_bits) ++ codes " " ++ shown_text p.1.partition_name.text ++ codes "\n"

-- a line for each used entry
abbrev pub entry_lines : List (ℕ × GPTPartitionEntry) → List ℕ
entry_lines ps = flat_map (λ p. if is_used p.1 then entry_line p else []) ps

-- the line of the table, and those of its entries
abbrev pub table_lines : GPT → List ℕ
table_lines g = table_line g ++ entry_lines (enumerate_from 1 (entries_in g))

-- the line of a free range, with its start and its length
abbrev pub slot_line : ℕ × ℕ → List ℕ
slot_line slot = decimal slot.0 ++ codes " " ++ decimal slot.1 ++ codes "\n"

abbrev pub slot_lines : List (ℕ × ℕ) → List ℕ
slot_lines slots = flat_map slot_line slots

-- the line of a partition that was added
abbrev pub added_line : ℕ → ℕ → ℕ → List ℕ
added_line number first last = decimal number ++ codes " " ++ decimal first ++ codes ".." ++ decimal last ++ codes "\n"

-- the line of the copy at the place with this name
abbrev pub copy_line : List ℕ → Result Copy Fault → List ℕ
copy_line side (Ok copy) = side ++ codes " ok\n"
copy_line side (Err fault) = side ++ codes " fault " ++ fault_name fault ++ codes "\n"

-- the lines of both copies, and whether they are one table
abbrev pub check_lines : Result Copy Fault → Result Copy Fault → Bool → List ℕ
check_lines first second same =
    copy_line (codes "primary") first ++ copy_line (codes "backup") second ++ (if same then codes "same yes\n" else codes "same no\n")

-- the lines of a report
abbrev pub report_lines : Report → List ℕ
report_lines Done = codes "ok\n"
report_lines (Table table) = table_lines table
report_lines (Slots slots) = slot_lines slots.items
report_lines (Added number first last) = added_line number first last
report_lines (Copies copies) = check_lines (answer_of copy_of_whole copies.primary) (answer_of copy_of_whole copies.backup) copies.are_same
