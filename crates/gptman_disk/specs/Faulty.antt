-- A disk with one failing call.
use Rattle.std.specs.Prelude.{ℕ, ◌+◌}
use Rattle.gptman_disk.specs.Disk.{DiskState, IsSound}

-- the state of the disk: that of the disk below, plus this number of own failures
abbrev pub faulty_state : DiskState → ℕ → DiskState
faulty_state below failures = record below { failures = below.failures + failures }

-- the laws of an honest disk hold for it
pub faulty_sound : (below : DiskState) (failures : ℕ) → IsSound below → IsSound (faulty_state below failures)
faulty_sound below failures sound = record { size = sound.size; counts_now = sound.counts_now; only_now = sound.only_now; earlier = sound.earlier }
