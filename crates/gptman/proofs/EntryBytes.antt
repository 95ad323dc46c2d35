-- An entry as bytes.
use Rattle.std.proofs.Common.{take-add, ◌≡◌, ℕ, zero, suc, ◌+◌, ◌-◌, ◌*◌, ◌^◌, ◌<◌, ◌≤◌, List, [], ◌∷◌, ◌++◌, length, get_or, take, drop, flat_map, arith, refl, sym, ap, subst, ◌∙◌, map}
use Rattle.std.specs.List.{range_with_len}
use Rattle.std.specs.Prelude.{slice_range, slice_index, encode_utf8_all}
use Rattle.gptman.specs.Name.{text_of}
use Rattle.byteorder.specs.Endian.{little_bytes}
use Rattle.std.proofs.lemmas.List.{drop_at, drop-drop, append_assoc, append-nil, length-append, length-take-le, take_all, take_at, take_more}
use Rattle.std.proofs.lemmas.List.Concat.{flat_map-append}
use mathlib.Core.Path.{ap₂}
use Rattle.std.proofs.lemmas.List.FromFn.{fill_by_all, map-range_with_len_more}
use Rattle.gptman_disk.specs.Bytes.{le, AreBytes}
use Rattle.gptman.specs.Coding.{FitsEntry, HasReadName, entry_of, IsEntryCoding, units_at, entry_bytes}
use Rattle.gptman.specs.declared.codec.entry.GPTPartitionEntry.{GPTPartitionEntry}
use Rattle.gptman.proofs.Assembly.{cells, elements, taken_more}
use Rattle.gptman.proofs.Numbers.{le_of, le_back}

-- The bytes of unit k.
unit_bytes : (us : List ℕ) (k : ℕ) → k < length us → take 2 (drop (2 * k) (flat_map (little_bytes 2) us)) ≡ little_bytes 2 (get_or us k 0)
unit_bytes [] k h = absurd (omega arith)
unit_bytes (u ∷ us) zero h = refl
unit_bytes (u ∷ us) (suc k) h =
    let e : 2 * suc k ≡ suc (suc (2 * k)) = omega arith in
    rw e (unit_bytes us k (omega arith))

-- The same, after 56 bytes.
unit_at : (front us : List ℕ) (k : ℕ) → length front ≡ 56 → k < length us
    → slice_range (front ++ flat_map (little_bytes 2) us) (56 + 2 * k) (56 + 2 * k + 2) ≡ little_bytes 2 (get_or us k 0)
unit_at front us k len h =
    let size : 56 + 2 * k + 2 - (56 + 2 * k) ≡ 2 = omega arith in
    let past : drop (56 + 2 * k) (front ++ flat_map (little_bytes 2) us) ≡ drop (2 * k) (flat_map (little_bytes 2) us) =
    sym (drop-drop (2 * k) 56 (front ++ flat_map (little_bytes 2) us)) ∙ ap (drop (2 * k)) (drop_at front (flat_map (little_bytes 2) us) 56 len) in
    ap (λ (n : ℕ). take n (drop (56 + 2 * k) (front ++ flat_map (little_bytes 2) us))) size ∙ ap (take 2) past ∙ unit_bytes us k h

-- The units after these bytes are decoded again.
units_back : (front us : List ℕ) → length front ≡ 56 → length us ≡ 36 → ((k : ℕ) → slice_index us k < 2 ^ 16)
    → us ≡ units_at (front ++ flat_map (little_bytes 2) us)
unfolding units_at
units_back front us len size fits =
    let b : List ℕ = front ++ flat_map (little_bytes 2) us in
    fill_by_all (λ (k : ℕ). le (slice_range b (56 + 2 * k) (56 + 2 * k + 2))) us 36 0 size
    (λ k h. sym (ap le (unit_at front us k len (omega (arith, size))) ∙ le_of 2 (get_or us k 0) (fits k)))

-- The fields before the name.
abbrev pub front_of : List ℕ → List ℕ → ℕ → ℕ → ℕ → List ℕ
front_of t q s d a = t ++ q ++ little_bytes 8 s ++ little_bytes 8 d ++ little_bytes 8 a

record FrontAt (t q : List ℕ) (s d a : ℕ) (b : List ℕ) : Type 0 where
  pub first : t ≡ slice_range b 0 16
  pub second : q ≡ slice_range b 16 32
  pub third : s ≡ le (slice_range b 32 40)
  pub fourth : d ≡ le (slice_range b 40 48)
  pub fifth : a ≡ le (slice_range b 48 56)
  pub long : length (front_of t q s d a) ≡ 56

front_listed : (t q : ℕ → ℕ) (s d a : ℕ) (rest : List ℕ) → s < 2 ^ 64 → d < 2 ^ 64 → a < 2 ^ 64
    → FrontAt (map t (range_with_len 0 16)) (map q (range_with_len 0 16)) s d a
    (front_of (map t (range_with_len 0 16)) (map q (range_with_len 0 16)) s d a ++ rest)
front_listed t q s d a rest fs fd fa = record {
  first = refl;
  second = refl;
  third = sym (le_of 8 s fs);
  fourth = sym (le_of 8 d fd);
  fifth = sym (le_of 8 a fa);
  long = refl;
}

front_at : (t q : List ℕ) (s d a : ℕ) (rest : List ℕ) → length t ≡ 16 → length q ≡ 16 → s < 2 ^ 64 → d < 2 ^ 64 → a < 2 ^ 64
    → FrontAt t q s d a (front_of t q s d a ++ rest)
front_at t q s d a rest lt lq fs fd fa =
    let P : List ℕ → Type 0 = λ xs. FrontAt xs q s d a (front_of xs q s d a ++ rest) in
    let Q : List ℕ → Type 0 = λ xs. FrontAt (map (elements t) (range_with_len 0 16)) xs s d a (front_of (map (elements t) (range_with_len 0 16)) xs s d a ++ rest) in
    subst P (sym (cells t 16 lt)) (subst Q (sym (cells q 16 lq)) (front_listed (elements t) (elements q) s d a rest fs fd fa))

-- The entry with this text of its name in memory.
abbrev pub with_text : GPTPartitionEntry → List ℕ → GPTPartitionEntry
with_text e text = record e { partition_name = record e.partition_name { text = text } }

-- An entry corresponds to its bytes (`IsEntryCoding`), whatever text its name has in memory.
pub spelled_corresponds : (e : GPTPartitionEntry) (text : List ℕ) → FitsEntry e → IsEntryCoding (with_text e text) (entry_bytes e)
unfolding entry_bytes
spelled_corresponds e text fits =
    let front = front_at e.partition_type_guid e.unique_partition_guid e.starting_lba e.ending_lba e.attribute_bits
    (flat_map (little_bytes 2) e.partition_name.units) fits.partition_type_guid fits.unique_partition_guid fits.starting_lba fits.ending_lba fits.attribute_bits in
    record {
      partition_type_guid = front.first;
      unique_partition_guid = front.second;
      starting_lba = front.third;
      ending_lba = front.fourth;
      attribute_bits = front.fifth;
      units = units_back _ e.partition_name.units front.long fits.units fits.unit;
    }

-- The first n units are the first 2 * n bytes from byte 56 on.
units_taken : (b : List ℕ) (n : ℕ) → 56 + 2 * n ≤ length b → AreBytes b
    → flat_map (little_bytes 2) (map (λ k. le (slice_range b (56 + 2 * k) (56 + 2 * k + 2))) (range_with_len 0 n)) ≡ take (2 * n) (drop 56 b)
units_taken b zero h bytes = refl
units_taken b (suc n) h bytes =
    let f : ℕ → ℕ = λ k. le (slice_range b (56 + 2 * k) (56 + 2 * k + 2)) in
    let more : suc n ≡ n + 1 = omega arith in
    let size : 2 * suc n ≡ 2 * n + 2 = omega arith in
    let cut : 56 + 2 * n + 2 - (56 + 2 * n) ≡ 2 = omega arith in
    let last : little_bytes 2 (f n) ≡ take 2 (drop (2 * n) (drop 56 b)) =
    le_back 2 b (56 + 2 * n) (omega arith) bytes
    ∙ ap (λ (k : ℕ). take k (drop (56 + 2 * n) b)) cut ∙ ap (take 2) (sym (drop-drop (2 * n) 56 b)) in
    ap (λ (k : ℕ). flat_map (little_bytes 2) (map f (range_with_len 0 k))) more
    ∙ ap (flat_map (little_bytes 2)) (map-range_with_len_more f 0 n n (omega arith))
    ∙ flat_map-append (little_bytes 2) (map f (range_with_len 0 n)) (f n ∷ [])
    ∙ ap₂ (λ (x y : List ℕ). x ++ y) (units_taken b n (omega arith) bytes) (append-nil (little_bytes 2 (f n)) ∙ last)
    ∙ sym (take-add (2 * n) 2 (drop 56 b)) ∙ ap (λ (k : ℕ). take k (drop 56 b)) (sym size)

-- Bytes that correspond to an entry are its bytes.
pub spelling_is : (e : GPTPartitionEntry) (b : List ℕ) → length b ≡ 128 → AreBytes b → IsEntryCoding e b → b ≡ entry_bytes e
unfolding entry_bytes units_at
spelling_is e b len bytes c =
    let t1 = c.partition_type_guid in
    let t2 = taken_more b 16 16 t1 c.unique_partition_guid in
    let t3 = taken_more b 32 8 t2 (ap (little_bytes 8) c.starting_lba ∙ le_back 8 b 32 (omega (arith, len)) bytes) in
    let t4 = taken_more b 40 8 t3 (ap (little_bytes 8) c.ending_lba ∙ le_back 8 b 40 (omega (arith, len)) bytes) in
    let t5 = taken_more b 48 8 t4 (ap (little_bytes 8) c.attribute_bits ∙ le_back 8 b 48 (omega (arith, len)) bytes) in
    let t6 = taken_more b 56 72 t5 (ap (flat_map (little_bytes 2)) c.units ∙ units_taken b 36 (omega (arith, len)) bytes) in
    sym (take_all 128 b (omega (arith, len))) ∙ sym t6

-- The bytes of one more unit, after those of the previous units.
pub units_written : (old new us : List ℕ) (k : ℕ) → take (2 * k) old ≡ flat_map (little_bytes 2) (take k us) → 2 * k + 2 ≤ length old → k < length us
    → new ≡ take (2 * k) old ++ (little_bytes 2 (get_or us k 0) ++ drop (2 * k + 2) old) → take (2 * (k + 1)) new ≡ flat_map (little_bytes 2) (take (k + 1) us)
units_written old new us k before room lt put =
    let front : List ℕ = take (2 * k) old ++ little_bytes 2 (get_or us k 0) in
    let long : length front ≡ 2 * (k + 1) = omega (arith, length-append (take (2 * k) old) (little_bytes 2 (get_or us k 0)), length-take-le (2 * k) old (omega arith)) in
    ap (take (2 * (k + 1))) (put ∙ sym (append_assoc (take (2 * k) old) (little_bytes 2 (get_or us k 0)) (drop (2 * k + 2) old)))
    ∙ take_at front (drop (2 * k + 2) old) (2 * (k + 1)) long
    ∙ ap (λ (xs : List ℕ). xs ++ little_bytes 2 (get_or us k 0)) before
    ∙ sym (ap (flat_map (little_bytes 2)) (take_more us k 0 lt) ∙ flat_map-append (little_bytes 2) (take k us) (get_or us k 0 ∷ [])
    ∙ ap (λ (xs : List ℕ). flat_map (little_bytes 2) (take k us) ++ xs) (append-nil (little_bytes 2 (get_or us k 0))))

-- An entry that was read is the one that its bytes encode.
pub entry_is : (e : GPTPartitionEntry) (x : List ℕ) → IsEntryCoding e x → HasReadName e → e ≡ entry_of x
unfolding entry_of
entry_is e x c name = λ i. record {
  partition_type_guid = c.partition_type_guid i;
  unique_partition_guid = c.unique_partition_guid i;
  starting_lba = c.starting_lba i;
  ending_lba = c.ending_lba i;
  attribute_bits = c.attribute_bits i;
  partition_name = record { text = (name ∙ ap text_bytes c.units) i; units = c.units i };
}
  where
    text_bytes : List ℕ → List ℕ
    text_bytes us = encode_utf8_all (text_of us)
