-- A disk that is never honest: only its length, position and count of failures are specified.
use Rattle.std.specs.Prelude.{ℕ, false, [], IsTrue}
use Rattle.gptman_disk.specs.Disk.{DiskState}

abbrev pub file_state : ℕ → ℕ → ℕ → DiskState
file_state size position failures = record {
  size = size;
  position = position;
  view = [];
  pending = [];
  failures = failures;
  clock = 0;
  left_since = λ t b. Unit {0};
  is_honest = false;
}

-- it is not honest
pub never_honest : IsTrue false → ⊥
never_honest h = cc
