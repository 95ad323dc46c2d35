-- The bytes of entries, in order.
use Rattle.std.proofs.Common.{◌≡◌, ◌<◌, ◌+◌, ◌*◌, ◌++◌, ℕ, zero, suc, List, [], ◌∷◌, length, get_or, take, drop, flat_map, refl, sym, ap, ◌∙◌, arith, length-append}
use Rattle.std.specs.List.{All, AllByRecursion}
use Rattle.std.proofs.lemmas.List.{take_at, drop_at, drop-drop}
use Rattle.std.proofs.lemmas.List.Elements.{recursion_from_All}
use Rattle.byteorder.specs.Endian.{little_bytes}
use Rattle.gptman_disk.specs.Bytes.{part}
use Rattle.gptman.specs.Coding.{FitsEntry, entry_bytes, array_bytes}
use Rattle.gptman.specs.declared.codec.entry.GPTPartitionEntry.{GPTPartitionEntry}

units_long : (us : List ℕ) → length (flat_map (little_bytes 2) us) ≡ 2 * length us
units_long [] = refl
units_long (u ∷ us) = let rest = units_long us in omega (arith, rest)

-- An entry has 128 bytes.
pub entry_long : (e : GPTPartitionEntry) → FitsEntry e → length (entry_bytes e) ≡ 128
unfolding entry_bytes
entry_long e fits = simp length-append (omega (arith, fits.partition_type_guid, fits.unique_partition_guid, units_long e.partition_name.units, fits.units))

each_long : (es : List GPTPartitionEntry) → AllByRecursion FitsEntry es → length (array_bytes es) ≡ 128 * length es
each_long [] all = refl
each_long (e ∷ es) all =
    let first = entry_long e all.0 in
    let rest = each_long es all.1 in
    omega (arith, length-append (entry_bytes e) (array_bytes es), first, rest)

-- n entries have 128 * n bytes.
pub array_long : (es : List GPTPartitionEntry) → All FitsEntry es → length (array_bytes es) ≡ 128 * length es
array_long es all = each_long es (recursion_from_All FitsEntry es all)

each_part : (es : List GPTPartitionEntry) (i : ℕ) (d : GPTPartitionEntry) → AllByRecursion FitsEntry es → i < length es → part (array_bytes es) (128 * i) 128 ≡ entry_bytes (get_or es i d)
each_part [] i d all h = absurd (omega arith)
each_part (e ∷ es) zero d all h = take_at (entry_bytes e) (array_bytes es) 128 (entry_long e all.0)
each_part (e ∷ es) (suc i) d all h =
    let more : 128 * suc i ≡ 128 + 128 * i = omega arith in
    ap (λ (k : ℕ). take 128 (drop k (entry_bytes e ++ array_bytes es))) more
    ∙ ap (take 128) (sym (drop-drop (128 * i) 128 (entry_bytes e ++ array_bytes es)) ∙ ap (drop (128 * i)) (drop_at (entry_bytes e) (array_bytes es) 128 (entry_long e all.0)))
    ∙ each_part es i d all.1 (omega arith)

-- The bytes of entry i.
pub array_part : (es : List GPTPartitionEntry) (i : ℕ) (d : GPTPartitionEntry) → All FitsEntry es → i < length es → part (array_bytes es) (128 * i) 128 ≡ entry_bytes (get_or es i d)
array_part es i d all h = each_part es i d (recursion_from_All FitsEntry es all) h
