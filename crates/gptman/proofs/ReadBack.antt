-- The contents of an accepted copy's entries determine them.
use Rattle.std.proofs.Common.{◌≡◌, ◌*◌, ℕ, List, [], ◌∷◌, map, Ok, refl, sym, ap, ◌∙◌, subst}
use Rattle.std.specs.List.{range_with_len}
use Rattle.std.specs.Prelude.{encode_utf8_all}
use Rattle.gptman_disk.specs.Bytes.{part}
use Rattle.gptman.specs.Coding.{header_of, entry_of}
use Rattle.gptman.specs.Copy.{Copy, copy_at, entries_of}
use Rattle.gptman.specs.Name.{text_of}
use Rattle.gptman.specs.Reading.{CopyPlace, primary, backup, copy_in}
use Rattle.gptman.specs.Table.{TableEntry}
use Rattle.gptman.proofs.WrittenCopy.{content_of}
use Rattle.gptman.specs.declared.codec.entry.GPTPartitionEntry.{GPTPartitionEntry}
use Rattle.gptman.proofs.CopyParts.{entries_part}
use Rattle.gptman.proofs.Fallback.{backup_long, backup_room}
use Rattle.gptman.proofs.Held.{accepted_is}

-- An entry that was read: its text is that of its units.
abbrev entry_in : TableEntry → GPTPartitionEntry
entry_in e = record {
  partition_type_guid = e.partition_type_guid;
  unique_partition_guid = e.unique_partition_guid;
  starting_lba = e.starting_lba;
  ending_lba = e.ending_lba;
  attribute_bits = e.attribute_bits;
  partition_name = record { text = encode_utf8_all (text_of e.units); units = e.units };
}

-- The entries with these contents after a read.
abbrev back : List GPTPartitionEntry → List GPTPartitionEntry
back es = map entry_in (map content_of es)

entries_back : (f : ℕ → List ℕ) (is : List ℕ) → back (map (λ i. entry_of (f i)) is) ≡ map (λ i. entry_of (f i)) is
unfolding entry_of
entries_back f [] = refl
entries_back f (i ∷ is) = ap (λ (es : List GPTPartitionEntry). entry_of (f i) ∷ es) (entries_back f is)

back_at : (b : List ℕ) (p ss : ℕ) (copy : Copy) → copy_at b p ss ≡ Ok copy → back copy.entries ≡ copy.entries
unfolding entries_of
back_at b p ss copy ok =
    subst (λ (c : Copy). back c.entries ≡ c.entries) (accepted_is b p ss copy ok)
    (entries_back (λ i. part (entries_part b p ss) (128 * i) 128) (range_with_len 0 (header_of (part b p 92)).number_of_partition_entries))

back_in : (side : CopyPlace) (b : List ℕ) (ss : ℕ) (copy : Copy) → copy_in side b ss ≡ Ok copy → back copy.entries ≡ copy.entries
unfolding copy_in
back_in primary b ss copy ok = back_at b ss ss copy ok
back_in backup b ss copy ok = back_at b _ ss copy (sym (backup_long b ss (backup_room b ss copy ok)) ∙ ok)

-- So the entries of two accepted copies are equal if their contents are.
pub same_entries : (first second : CopyPlace) (b c : List ℕ) (ss : ℕ) (x y : Copy) → copy_in first b ss ≡ Ok x → copy_in second c ss ≡ Ok y
    → map content_of x.entries ≡ map content_of y.entries → x.entries ≡ y.entries
same_entries first second b c ss x y at_first at_second same =
    sym (back_in first b ss x at_first) ∙ ap (λ (ts : List TableEntry). map entry_in ts) same ∙ back_in second c ss y at_second
