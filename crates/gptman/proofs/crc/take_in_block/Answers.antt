use Rattle.std.proofs.Common.{◌≡◌, ℕ, List, [], ◌∷◌, length, get_or, bit_xor, refl, sym, subst, ap, ◌∙◌, arith}
use Rattle.byteorder.specs.Endian.{little_bytes}
use Rattle.gptman_disk.specs.Bytes.{AreBytes}
use Rattle.gptman.specs.Register.{steps, with_message}
use Rattle.gptman.proofs.Numbers.{little_number_is}
use Rattle.gptman.proofs.ByBlock.{with_words, block_by_words, eight_parts}
use Rattle.gptman.proofs.crc.take_in_block.Goals as goal

-- The words of the first four bytes, in the order of the code, combined with those of the last four.
abbrev added : ℕ → List ℕ → ℕ
added behind s =
    bit_xor (bit_xor (bit_xor (bit_xor behind
    (steps 64 (get_or s 0 0))) (steps 56 (get_or s 1 0))) (steps 48 (get_or s 2 0))) (steps 40 (get_or s 3 0))

pub returns : goal.returns
returns c =
    let m : List ℕ = c.args.block.now in
    let long : length m ≡ 8 = c.told-block in
    let parts = eight_parts m long in
    let first : List ℕ = get_or m 0 0 ∷ get_or m 1 0 ∷ get_or m 2 0 ∷ get_or m 3 0 ∷ [] in
    let rest : List ℕ = get_or m 5 0 ∷ get_or m 6 0 ∷ get_or m 7 0 ∷ [] in
    let behind : ℕ = with_words 0 (steps 32 (get_or m 4 0)) rest in
    let bytes = subst AreBytes (sym parts) (λ i. omega (arith, c.fits-block i)) in
    let read = c.read_u32.ensures ∙ little_number_is 4 first refl in
    rw (c.word.ensures, c.word-2.ensures, c.word-3.ensures, c.word-4.ensures, c.word-5.ensures, c.word-6.ensures, c.word-7.ensures, c.word-8.ensures)
    (ap (added behind) c.to_le_bytes.ensures
    ∙ ap (λ (n : ℕ). with_words 4 behind (little_bytes 4 (bit_xor n c.args.register))) read
    ∙ block_by_words c.args.register (get_or m 0 0) (get_or m 1 0) (get_or m 2 0) (get_or m 3 0) (get_or m 4 0) (get_or m 5 0) (get_or m 6 0) (get_or m 7 0) (omega arith) bytes
    ∙ ap (with_message c.args.register) parts)
