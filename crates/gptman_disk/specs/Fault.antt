-- The kinds of error, with their numbers, without the inner `io::Error`.
use Rattle.std.specs.Prelude.{ℕ, Bool, true, false, List, [], ◌∷◌, Option, Some, None, if◌then◌else◌, codes}
use Rattle.gptman_disk.specs.declared.error.Error.{Error, Io, InvalidSignature, InvalidRevision, InvalidHeaderSize, InvalidChecksum, InvalidPartitionEntryArrayChecksum, ReadError', NoSpaceLeft, ConflictPartitionGUID, InvalidPartitionBoundaries, InvalidPartitionNumber, UnusedPartition, PartitionNotFound, Overflow, OutOfMemory, InvalidPartitionEntrySize}

pub data Fault : Type 0 where
  io : Fault
  invalid_signature : Fault
  invalid_revision : Fault
  invalid_header_size : Fault
  invalid_checksum : ℕ → ℕ → Fault
  invalid_array_checksum : ℕ → ℕ → Fault
  read_error : Fault → Fault → Fault
  no_space_left : Fault
  conflict_partition_guid : Fault
  invalid_partition_boundaries : Fault
  invalid_partition_number : ℕ → Fault
  unused_partition : Fault
  partition_not_found : Fault
  overflow : Fault
  out_of_memory : Fault
  invalid_entry_size : ℕ → Fault

-- the kind of an error
abbrev pub fault_of : Error → Fault
fault_of (Io e) = io
fault_of InvalidSignature = invalid_signature
fault_of InvalidRevision = invalid_revision
fault_of InvalidHeaderSize = invalid_header_size
fault_of (InvalidChecksum stored computed) = invalid_checksum stored computed
fault_of (InvalidPartitionEntryArrayChecksum stored computed) = invalid_array_checksum stored computed
fault_of (ReadError' p first q second) = read_error (fault_of first) (fault_of second)
fault_of NoSpaceLeft = no_space_left
fault_of ConflictPartitionGUID = conflict_partition_guid
fault_of InvalidPartitionBoundaries = invalid_partition_boundaries
fault_of (InvalidPartitionNumber number) = invalid_partition_number number
fault_of UnusedPartition = unused_partition
fault_of PartitionNotFound = partition_not_found
fault_of Overflow = overflow
fault_of OutOfMemory = out_of_memory
fault_of (InvalidPartitionEntrySize size) = invalid_entry_size size

-- of tests in order, the fault of the first that fails
abbrev pub first_failing : List (Bool × Fault) → Option Fault
first_failing [] = None
first_failing (test ∷ tests) = if test.0 then first_failing tests else Some test.1

abbrev pub is_signature_fault : Fault → Bool
is_signature_fault invalid_signature = true
is_signature_fault _ = false

-- the name of the variant, without its numbers
abbrev pub variant_name : Fault → List ℕ
variant_name io = codes "Io"
variant_name invalid_signature = codes "InvalidSignature"
variant_name invalid_revision = codes "InvalidRevision"
variant_name invalid_header_size = codes "InvalidHeaderSize"
variant_name (invalid_checksum stored computed) = codes "InvalidChecksum"
variant_name (invalid_array_checksum stored computed) = codes "InvalidPartitionEntryArrayChecksum"
variant_name (read_error first second) = codes "ReadError"
variant_name no_space_left = codes "NoSpaceLeft"
variant_name conflict_partition_guid = codes "ConflictPartitionGUID"
variant_name invalid_partition_boundaries = codes "InvalidPartitionBoundaries"
variant_name (invalid_partition_number number) = codes "InvalidPartitionNumber"
variant_name unused_partition = codes "UnusedPartition"
variant_name partition_not_found = codes "PartitionNotFound"
variant_name overflow = codes "Overflow"
variant_name out_of_memory = codes "OutOfMemory"
variant_name (invalid_entry_size size) = codes "InvalidPartitionEntrySize"

-- the number for callers in C
abbrev pub fault_number : Fault → ℕ
fault_number io = 1
fault_number invalid_signature = 2
fault_number invalid_revision = 3
fault_number invalid_header_size = 4
fault_number (invalid_checksum stored computed) = 5
fault_number (invalid_array_checksum stored computed) = 6
fault_number (read_error first second) = 7
fault_number no_space_left = 8
fault_number conflict_partition_guid = 9
fault_number invalid_partition_boundaries = 10
fault_number (invalid_partition_number number) = 11
fault_number unused_partition = 12
fault_number partition_not_found = 13
fault_number overflow = 14
fault_number out_of_memory = 15
fault_number (invalid_entry_size size) = 16
