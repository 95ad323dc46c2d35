-- Products that fit.
use Rattle.std.proofs.Common.{◌<◌, ◌*◌, ◌+◌, ◌^◌, ℕ, arith}

-- the sector after a 64-bit one, times a sector size, fits in 128 bits
pub product_fits : (a b : ℕ) → a < 2 ^ 64 → b < 2 ^ 64 → (a + 1) * b < 2 ^ 128
product_fits a b small fits = grind arith
