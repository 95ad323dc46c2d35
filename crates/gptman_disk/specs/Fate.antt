-- What a crash leaves, given a record of writes and syncs.
use Rattle.std.specs.Prelude.{◌≡◌, ◌≤◌, ◌⊎◌, ℕ, Result, Ok, Err, Bool, true, false, List, [], ◌∷◌, ◌++◌, Option, length, replicate, if◌then◌else◌}
use Rattle.std.specs.List.{list_any}
use Rattle.std.specs.IoError.{error_kind}
use Rattle.std.specs.declared.io.Error.{Error}
use Rattle.std.specs.declared.io.ErrorKind.TheVariants.{OutOfMemory}
use Rattle.gptman_disk.specs.Disk.{overlay, AgreesOutside, DiskState}
use Rattle.gptman_disk.specs.Memory.{memory_state, view_of}
use Rattle.gptman_disk.specs.declared.disk.memory.Event.{Event}
use Rattle.gptman_disk.specs.declared.disk.memory.Event.TheVariants.{Write, Sync}
use Rattle.gptman_disk.specs.declared.disk.memory.Written.{Written}
use Rattle.gptman_disk.specs.declared.disk.memory.Fate.{Fate}
use Rattle.gptman_disk.specs.declared.disk.memory.Fate.TheVariants.{Old, New, Garbage}
use Rattle.gptman_disk.specs.declared.disk.memory.MemoryDisk.{MemoryDisk}

-- the bytes after a pending write with this fate
abbrev pub fate_step : Fate → List ℕ → ℕ → List ℕ → List ℕ
fate_step Old before at bytes = before
fate_step New before at bytes = overlay before at bytes
fate_step (Garbage byte) before at bytes = overlay before at (replicate (length bytes) byte)

abbrev pub is_sync : Event → Bool
is_sync (Write written) = false
is_sync Sync = true

-- the events up to the last sync; none if there is no sync
abbrev pub until_sync : List Event → List Event
until_sync [] = []
until_sync (event ∷ events) = if list_any is_sync (event ∷ events) then event ∷ until_sync events else []

-- the writes since the last sync; all if there is no sync
abbrev pub since_sync : List Event → List Written
since_sync [] = []
since_sync (Sync ∷ events) = since_sync events
since_sync (Write written ∷ events) = if list_any is_sync events then since_sync events else written ∷ since_sync events

-- the bytes after these writes, each with its fate; a write without a fate has Old
abbrev pub with_fates : List Fate → List Written → List ℕ → List ℕ
with_fates fates [] bytes = bytes
with_fates [] (written ∷ writes) bytes = with_fates [] writes (fate_step Old bytes written.at written.bytes.items)
with_fates (fate ∷ fates) (written ∷ writes) bytes = with_fates fates writes (fate_step fate bytes written.at written.bytes.items)

-- The record of a disk in memory: its bytes at the start, and its writes and syncs since.
pub record History : Type 0 where
  pub start : List ℕ
  pub events : List Event

abbrev pub history_of : MemoryDisk → History
history_of disk = record { start = disk.start.items; events = disk.events.items }

-- the state of the disk, as contracts see it
abbrev pub state_of : MemoryDisk → DiskState
state_of disk = memory_state disk.start.items disk.bytes.items disk.events.items disk.position disk.failures

-- the bytes that a crash with these fates leaves: those of the last sync, or of the start, after the writes since then
abbrev pub bytes_left : List Fate → History → List ℕ
bytes_left fates history = with_fates fates (since_sync history.events) (view_of history.start (until_sync history.events))

-- the number of calls that the disk still serves; without a fuse it serves all
abbrev pub calls_left : MemoryDisk → Option ℕ
calls_left disk = disk.fuse

-- One write was added to the record: its place, its bytes, and whether the device carried it out.
pub record HasWrite (at : ℕ) (bytes : List ℕ) (done : Bool) (old new : History) : Type 0 where
  pub written : Written
  pub place : written.at ≡ at
  pub bytes_are : written.bytes.items ≡ bytes
  pub done_is : written.done ≡ done
  pub start : new.start ≡ old.start
  pub events : new.events ≡ old.events ++ Write written ∷ []

-- one sync was added to the record
abbrev pub HasSync : History → History → Type 0
HasSync old new = new ≡ record { start = old.start; events = old.events ++ Sync ∷ [] }

-- the record could not be allocated and is unchanged, and the kind of the error says so
abbrev pub HasNoMemory : Error → History → History → Type 0
HasNoMemory e old new = (error_kind e ≡ OutOfMemory) × (new ≡ old)

-- `left_since` omits no crash. Since any moment before a call that writes in these ranges, it holds for any bytes in
-- the ranges and in the pending ones, with the bytes that a read returned elsewhere. Since any moment up to now, it
-- holds for what the record leaves with any fates.
pub record CountsStops (ranges : List (ℕ × ℕ)) (history : History) (old new : DiskState) : Type 0 where
  pub within : (t : ℕ) (b : List ℕ) → t ≤ old.clock → AgreesOutside (ranges ++ old.pending) old.view b → new.left_since t b
  pub after : (t : ℕ) (fates : List Fate) → t ≤ new.clock → new.left_since t (bytes_left fates history)

-- the same for a write in one range; if its record could not be allocated, nothing was written
abbrev pub CountsStopsOfWrite : {T : Type 0} → Result T Error → ℕ × ℕ → History → History → DiskState → DiskState → Type 0
CountsStopsOfWrite (Ok v) range before after old new = CountsStops (range ∷ []) after old new
CountsStopsOfWrite (Err e) range before after old new = CountsStops (range ∷ []) after old new ⊎ (HasNoMemory e before after × CountsStops [] after old new)
