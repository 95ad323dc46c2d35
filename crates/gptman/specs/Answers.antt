-- Results of calls.
use Rattle.std.specs.Prelude.{◌≡◌, ◌⊎◌, ◌||◌, ℕ, Bool, true, false, Option, Some, None, Result, Ok, Err, IsTrue, IfErr, OnErr}
use Rattle.gptman_disk.specs.Disk.{DiskState, HasFailedAsOften, HasFailedOnceAtMost, IsHonest, LeavesPending, PassesEnd, Rose, Untouched}
use Rattle.gptman_disk.specs.Fault.{Fault, io, invalid_signature, invalid_revision, invalid_header_size, invalid_checksum, invalid_array_checksum, overflow, out_of_memory, invalid_entry_size, fault_of}
use Rattle.gptman_disk.specs.declared.error.Error.{Error}

-- The result: its value as f sees it, or the kind of its error.
abbrev pub answer_of : {T A : Type 0} → (T → A) → Result T Error → Result A Fault
answer_of f (Ok x) = Ok (f x)
answer_of f (Err e) = Err (fault_of e)

-- The error, if there is one.
abbrev pub refusal_of : {T : Type 0} → Result T Error → Option Fault
refusal_of (Ok x) = None
refusal_of (Err e) = Some (fault_of e)

-- The call returns this error.
abbrev pub Refuses : {T : Type 0} → Result T Error → Fault → Type 0
Refuses (Ok x) fault = ⊥
Refuses (Err e) fault = fault_of e ≡ fault

-- An error, if returned, is one of these.
abbrev pub RefusesOnly : {T : Type 0} → (Fault → Bool) → Result T Error → Type 0
RefusesOnly p (Ok x) = Unit {0}
RefusesOnly p (Err e) = IsTrue (p (fault_of e))

-- The disk failed, and the call returns `Io`.
abbrev pub Fails : {T : Type 0} → Result T Error → DiskState → DiskState → Type 0
Fails result old new = Refuses result io × Rose old new

-- The call returns this error, or `Ok` if there is none; or the disk failed, and it returns `Io`.
abbrev pub Settles : {T : Type 0} → Option Fault → Result T Error → DiskState → DiskState → Type 0
Settles fault result old new = (refusal_of result ≡ fault) ⊎ Fails result old new

-- The disk failed, and the error is `Io`.
abbrev pub IsFailure : Fault → DiskState → DiskState → Type 0
IsFailure fault old new = (fault ≡ io) × Rose old new

-- `Io` is returned only if the disk failed.
abbrev pub HasCause : {T : Type 0} → Result T Error → DiskState → DiskState → Type 0
HasCause result old new = Refuses result io → Rose old new

-- The disk did not fail, or failed once and `Io` is returned.
abbrev pub CountsFailure : {T : Type 0} → Result T Error → DiskState → DiskState → Type 0
CountsFailure result old new = HasFailedAsOften old new ⊎ (Refuses result io × HasFailedOnceAtMost old new)

-- `Io` is returned if the disk failed, and only then; it failed once at most.
abbrev pub ReportsFailure : {T : Type 0} → Result T Error → DiskState → DiskState → Type 0
ReportsFailure result old new = CountsFailure result old new × HasCause result old new

-- `Io` is returned if the disk failed, and else only if the next n bytes pass its end; it failed once at most.
abbrev pub ReportsFailureOrEnd : {T : Type 0} → ℕ → Result T Error → DiskState → DiskState → Type 0
ReportsFailureOrEnd n result old new = CountsFailure result old new × (Refuses result io → Rose old new ⊎ PassesEnd old n)

-- On an honest disk the result, as f sees it, is this one; or the disk failed, and it is `Io`.
abbrev pub Answers : {T A : Type 0} → (T → A) → Result A Fault → Result T Error → DiskState → DiskState → Type 0
Answers f answer result old new = IsHonest old → Fails result old new ⊎ (answer_of f result ≡ answer)

-- On an honest disk the result, as f sees it, is this one, or `OutOfMemory`; or the disk failed, and it is `Io`.
abbrev pub AnswersInMemory : {T A : Type 0} → (T → A) → Result A Fault → Result T Error → DiskState → DiskState → Type 0
AnswersInMemory f answer result old new = IsHonest old → Fails result old new ⊎ (Refuses result out_of_memory ⊎ (answer_of f result ≡ answer))

-- On an honest disk, a call that returns an error other than `Io` wrote nothing.
abbrev pub RefusesUntouched : {T : Type 0} → Result T Error → DiskState → DiskState → Type 0
RefusesUntouched result old new = IsHonest old → IfErr result (λ e. (fault_of e ≡ io) ⊎ Untouched old new)

-- On an honest disk, a call that returns an error wrote nothing, or left this range unsynced.
abbrev pub FailsPending : {T E : Type 0} → ℕ × ℕ → Result T E → DiskState → DiskState → Type 0
FailsPending range result old new = IsHonest old → OnErr result (LeavesPending range old new)

-- The errors of reading a header.
abbrev pub is_header_fault : Fault → Bool
is_header_fault io = true
is_header_fault invalid_signature = true
is_header_fault invalid_revision = true
is_header_fault invalid_header_size = true
is_header_fault (invalid_checksum stored computed) = true
is_header_fault _ = false

-- The errors of reading the entries.
abbrev pub is_array_fault : Fault → Bool
is_array_fault io = true
is_array_fault overflow = true
is_array_fault out_of_memory = true
is_array_fault (invalid_entry_size size) = true
is_array_fault (invalid_array_checksum stored computed) = true
is_array_fault _ = false

-- The errors of reading a copy.
abbrev pub is_copy_fault : Fault → Bool
is_copy_fault fault = is_header_fault fault || is_array_fault fault

-- The faults of a copy: the errors of reading it, except allocation failure.
abbrev pub is_damage : Fault → Bool
is_damage out_of_memory = false
is_damage fault = is_copy_fault fault
