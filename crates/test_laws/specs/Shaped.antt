-- Room for entries in bytes.
use Rattle.std.specs.Prelude.{◌≤◌, ◌+◌, ◌*◌, ℕ}

-- The primary entries begin in sector 2, and end before this sector.
abbrev pub EndBefore : ℕ → ℕ → ℕ → Type 0
EndBefore count ss sector = count * 128 + 2 * ss ≤ sector * ss
