-- The names of the numbers that calls return.
use Rattle.std.specs.Prelude.{ℕ, List, codes, if◌then◌else◌, nat_eq}
use Rattle.gptman.specs.Fault.{variant_name, io, invalid_signature, invalid_revision, invalid_header_size, invalid_checksum, invalid_array_checksum, read_error, no_space_left, conflict_partition_guid, invalid_partition_boundaries, invalid_partition_number, unused_partition, partition_not_found, overflow, out_of_memory, invalid_entry_size}

-- the name of a number: that of the error with this number, of an answer of the calls themselves, or of the helpers
abbrev pub answer_name : ℕ → List ℕ
answer_name n =
    if nat_eq n 0 then codes "Ok"
    else (if nat_eq n 1 then variant_name io
    else (if nat_eq n 2 then variant_name invalid_signature
    else (if nat_eq n 3 then variant_name invalid_revision
    else (if nat_eq n 4 then variant_name invalid_header_size
    else (if nat_eq n 5 then variant_name (invalid_checksum 0 0)
    else (if nat_eq n 6 then variant_name (invalid_array_checksum 0 0)
    else (if nat_eq n 7 then variant_name (read_error io io)
    else (if nat_eq n 8 then variant_name no_space_left
    else (if nat_eq n 9 then variant_name conflict_partition_guid
    else (if nat_eq n 10 then variant_name invalid_partition_boundaries
    else (if nat_eq n 11 then variant_name (invalid_partition_number 0)
    else (if nat_eq n 12 then variant_name unused_partition
    else (if nat_eq n 13 then variant_name partition_not_found
    else (if nat_eq n 14 then variant_name overflow
    else (if nat_eq n 15 then variant_name out_of_memory
    else (if nat_eq n 16 then variant_name (invalid_entry_size 0)
    else (if nat_eq n 100 then codes "OtherLength"
    else (if nat_eq n 101 then codes "OtherLayout"
    else (if nat_eq n 102 then codes "DosDisk"
    else (if nat_eq n 103 then codes "LacksBytes"
    else (if nat_eq n 104 then codes "LacksRoom"
    else (if nat_eq n 105 then codes "BadArgument"
    else (if nat_eq n 150 then codes "AsksAgain"
    else codes "Unknown")))))))))))))))))))))))
