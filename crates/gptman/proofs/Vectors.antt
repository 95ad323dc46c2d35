-- The definition for messages whose checksums are known.
use Rattle.std.proofs.Common.{◌≡◌, [], ◌∷◌, codes, refl}
use Rattle.gptman.specs.Crc.{divide, crc_of}

of_nothing : crc_of [] ≡ 0
unfolding divide crc_of
of_nothing = refl

of_a_zero : crc_of (0 ∷ []) ≡ 0xd202ef8d
unfolding divide crc_of
of_a_zero = refl

of_four_zeros : crc_of (0 ∷ 0 ∷ 0 ∷ 0 ∷ []) ≡ 0x2144df1c
unfolding divide crc_of
of_four_zeros = refl

of_four_ones : crc_of (255 ∷ 255 ∷ 255 ∷ 255 ∷ []) ≡ 0xffffffff
unfolding divide crc_of
of_four_ones = refl

of_digits : crc_of (codes "123456789") ≡ 0xcbf43926
unfolding divide crc_of
of_digits = refl
