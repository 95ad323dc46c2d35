-- The reflected register of 32 bits in which the code does the division.
use Rattle.std.specs.Prelude.{◌≡◌, ◌-◌, ◌^◌, ℕ, zero, suc, ◌/◌, ◌%◌, nat_eq, List, bit_xor, fold, if◌then◌else◌}
use Rattle.gptman_disk.specs.Bytes.{AreBytes}
use Rattle.gptman.specs.declared.crc.Checksum.{Checksum}

-- The register one bit later: shifted right, and if a 1 was shifted out, combined with the reflected polynomial by XOR.
unfoldable pub step : ℕ → ℕ
step r = bit_xor (r / 2) (if nat_eq (r % 2) 1 then 0xEDB88320 else 0)

-- The register n bits later.
unfoldable pub steps : ℕ → ℕ → ℕ
steps zero r = r
steps (suc n) r = steps n (step r)

-- The register after a byte.
unfoldable pub with_byte : ℕ → ℕ → ℕ
with_byte r b = steps 8 (bit_xor r b)

-- The register after a message.
abbrev pub with_message : ℕ → List ℕ → ℕ
with_message r m = fold with_byte r m

-- The checksum has processed the message.
pub record HasTaken (s : Checksum) (m : List ℕ) : Type 0 where
  pub register : s.register ≡ with_message (2 ^ 32 - 1) m
  pub bytes : AreBytes m
