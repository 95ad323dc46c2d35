-- The read of a disk whose primary copy has a fault.
use Rattle.std.proofs.Common.{◌≡◌, ◌≢◌, ◌⊎◌, ⊎_elim, inl, inr, ◌≤◌, ◌<◌, ℕ, ◌-◌, ◌*◌, ◌/◌, ◌&&◌, Bool, true, false, List, length, ltb, Result, Ok, Err, arith, refl, subst, sym, ap, ◌∙◌}
use Rattle.std.specs.Prelude.{IfErr, IfOk, IsErr, IsTrue, if◌then◌else◌}
use Rattle.std.proofs.lemmas.Bool.{and_from}
use Rattle.std.proofs.lemmas.Result.{IfOk-weaker}
use Rattle.gptman.specs.Answers.{answer_of, is_copy_fault, is_damage, IsFailure, Refuses}
use Rattle.gptman.specs.TableReads.{copy_of, is_reading_fault, CountsReading, FallsBack, IsCopyFault, IsReadingFault, MayBeRead, read, no_memory, no_seek, no_backup}
use Rattle.gptman.specs.Copy.{Copy, copy_at}
use Rattle.gptman_disk.specs.Disk.{DiskState, HasFailedAsOften, Keeps, Rose}
use Rattle.gptman_disk.specs.Fault.{Fault, fault_of, is_signature_fault, io, invalid_signature, invalid_revision, invalid_header_size, invalid_checksum, invalid_array_checksum, read_error, no_space_left, conflict_partition_guid, invalid_partition_boundaries, invalid_partition_number, unused_partition, partition_not_found, overflow, out_of_memory, invalid_entry_size}
use Rattle.gptman.specs.Reading.{primary, backup, both, copy_in, fallback, found_sector_size, reading_of}
use Rattle.gptman_disk.specs.declared.error.Error.{Error}
use Rattle.gptman.specs.declared.table.GPT.{GPT}
use Rattle.gptman.proofs.CopyParts.{header_refused}
use Rattle.gptman.proofs.CopyTests.{header_short}
use Rattle.gptman.proofs.Runs.{rose_before, rose_since}

-- The backup copy, or the error for both faults.
abbrev pub second_copy : Fault → Result Copy Fault → Result Copy Fault
second_copy first r = elim r [ Ok copy ↦ Ok copy | Err second ↦ Err (both first second) ]

-- A fault of a copy other than allocation failure is damage.
pub damage_from : (f : Fault) → is_copy_fault f ≡ true → f ≢ out_of_memory → is_damage f ≡ true
damage_from io h known = h
damage_from invalid_signature h known = h
damage_from invalid_revision h known = h
damage_from invalid_header_size h known = h
damage_from (invalid_checksum s c) h known = h
damage_from (invalid_array_checksum s c) h known = h
damage_from (read_error f s) h known = h
damage_from no_space_left h known = h
damage_from conflict_partition_guid h known = h
damage_from invalid_partition_boundaries h known = h
damage_from (invalid_partition_number n) h known = h
damage_from unused_partition h known = h
damage_from partition_not_found h known = h
damage_from overflow h known = h
damage_from out_of_memory h known = absurd (known refl)
damage_from (invalid_entry_size n) h known = h

-- A fault of the signature is that fault.
pub signature_fault : (f : Fault) → is_signature_fault f ≡ true → f ≡ invalid_signature
signature_fault invalid_signature is = refl
signature_fault _ is = absurd (cc)

kinds_by : (first second : Fault) (t : Bool) → is_damage first ≡ true → is_damage second ≡ true → is_signature_fault first && is_signature_fault second ≡ t
    → (both first second ≢ io) × IsTrue (is_reading_fault (both first second))
kinds_by first second true d e is = rw is ((λ same. cc), refl)
kinds_by first second false d e is = rw is ((λ same. cc), and_from (is_damage first) (is_damage second) d e)

-- The error for two faults is one of a read, and not `Io`.
pub both_kinds : (first second : Fault) → is_damage first ≡ true → is_damage second ≡ true → (both first second ≢ io) × IsTrue (is_reading_fault (both first second))
both_kinds first second d e = kinds_by first second (is_signature_fault first && is_signature_fault second) d e refl

by_io : (first : Fault) (t : Bool) → is_signature_fault first ≡ t → both first io ≡ read_error first io
by_io first true is = rw is refl
by_io first false is = rw is refl

pub both_io : (first : Fault) → both first io ≡ read_error first io
both_io first = by_io first (is_signature_fault first) refl

pub refused_answer : {T : Type 0} (f : T → Copy) (r : Result T Error) (fault : Fault) → Refuses r fault → answer_of f r ≡ Err fault
refused_answer f (Ok x) fault refused = absurd refused
refused_answer f (Err e) fault refused = ap Err refused

pub answer_refused : {T : Type 0} (f : T → Copy) (r : Result T Error) (fault : Fault) → answer_of f r ≡ Err fault → Refuses r fault
answer_refused f (Ok x) fault is = absurd (cc)
answer_refused f (Err e) fault is = cc

-- An accepted primary copy is returned.
pub taken_first : (b : List ℕ) (ss : ℕ) (copy : Copy) → copy_in primary b ss ≡ Ok copy → reading_of b ss ≡ Ok copy
unfolding reading_of
taken_first b ss copy is =
    let choose : Result Copy Fault → Result Copy Fault = λ r. elim r [ Ok c ↦ Ok c | Err first ↦ fallback b ss first ] in
    ap choose is

-- Otherwise the fallback is.
pub refused_first : (b : List ℕ) (ss : ℕ) (fault : Fault) → copy_in primary b ss ≡ Err fault → reading_of b ss ≡ fallback b ss fault
unfolding reading_of
refused_first b ss fault is =
    let choose : Result Copy Fault → Result Copy Fault = λ r. elim r [ Ok c ↦ Ok c | Err first ↦ fallback b ss first ] in
    ap choose is

pub fallback_short : (b : List ℕ) (ss : ℕ) (first : Fault) → length b < ss → fallback b ss first ≡ Err invalid_signature
fallback_short b ss first short =
    let t : ltb (length b) ss ≡ true = grind arith in
    let choose : Bool → Result Copy Fault = λ small. elim small [ true ↦ Err invalid_signature | false ↦ second_copy first (copy_in backup b ss) ] in
    ap choose t

pub fallback_long : (b : List ℕ) (ss : ℕ) (first : Fault) → ss ≤ length b → fallback b ss first ≡ second_copy first (copy_in backup b ss)
fallback_long b ss first long =
    let t : ltb (length b) ss ≡ false = grind arith in
    let choose : Bool → Result Copy Fault = λ small. elim small [ true ↦ Err invalid_signature | false ↦ second_copy first (copy_in backup b ss) ] in
    ap choose t

-- A disk shorter than a sector has no backup place.
pub backup_short : (b : List ℕ) (ss : ℕ) → length b < ss → copy_in backup b ss ≡ Err invalid_signature
unfolding copy_in
backup_short b ss short =
    let t : ltb (length b) ss ≡ true = grind arith in
    let choose : Bool → Result Copy Fault = λ small. elim small [ true ↦ Err invalid_signature | false ↦ copy_at b ((length b / ss - 1) * ss) ss ] in
    ap choose t

room_by : (b : List ℕ) (ss : ℕ) (copy : Copy) (short : Bool) → ltb (length b) ss ≡ short → copy_in backup b ss ≡ Ok copy → ss ≤ length b
room_by b ss copy true is at =
    let e : ◌≡◌ {A = Result Copy Fault} (Err invalid_signature) (Ok copy) = sym (backup_short b ss (grind arith)) ∙ at in
    absurd (cc)
room_by b ss copy false is at = grind arith

-- So a disk with a backup copy is not shorter.
pub backup_room : (b : List ℕ) (ss : ℕ) (copy : Copy) → copy_in backup b ss ≡ Ok copy → ss ≤ length b
backup_room b ss copy at = room_by b ss copy (ltb (length b) ss) refl at

pub backup_long : (b : List ℕ) (ss : ℕ) → ss ≤ length b → copy_in backup b ss ≡ copy_at b ((length b / ss - 1) * ss) ss
unfolding copy_in
backup_long b ss long =
    let t : ltb (length b) ss ≡ false = grind arith in
    let choose : Bool → Result Copy Fault = λ small. elim small [ true ↦ Err invalid_signature | false ↦ copy_at b ((length b / ss - 1) * ss) ss ] in
    ap choose t

primary_at : (b : List ℕ) (ss : ℕ) → copy_in primary b ss ≡ copy_at b ss ss
unfolding copy_in
primary_at b ss = refl

-- A disk shorter than a sector has no signature.
reading_short : (b : List ℕ) (ss : ℕ) → length b < ss → reading_of b ss ≡ Err invalid_signature
reading_short b ss short =
    let far : copy_at b ss ss ≡ Err io = header_refused b ss ss io (header_short b ss (omega (arith, short))) in
    refused_first b ss io (primary_at b ss ∙ far) ∙ fallback_short b ss io short

-- The error of the fallback, if the disk failed at the primary place.
fallback_err : (b : List ℕ) (ss : ℕ) (fault : Fault) → Err fault ≡ fallback b ss io → IsReadingFault b ss fault
fallback_err b ss fault is = by_length (ltb (length b) ss) refl
  where
    second_err : (r : Result Copy Fault) → copy_in backup b ss ≡ r → Err fault ≡ second_copy io r → IsReadingFault b ss fault
    second_err (Ok copy) at same = absurd (cc)
    second_err (Err second) at same =
        let said : fault ≡ read_error io second = cc in
        inr (inr (inr (record { first = io; second = second; is = said; at_primary = inl refl; at_backup = inr at })))

    by_length : (t : Bool) → ltb (length b) ss ≡ t → IsReadingFault b ss fault
    by_length true small =
        let short : length b < ss = grind arith in
        inr (inr (inl (reading_short b ss short ∙ sym (is ∙ fallback_short b ss io short))))
    by_length false large = second_err (copy_in backup b ss) refl (is ∙ fallback_long b ss io (grind arith))

-- The error of the whole read.
reading_refused : (r : Result GPT Error) (b : List ℕ) (ss : ℕ) (first : Fault) (old new : DiskState) → IsCopyFault primary b ss first → FallsBack r copy_of b ss first old new
    → IfErr r (λ e. IsReadingFault b ss (fault_of e))
reading_refused (Ok g) b ss first old new at back = tt
reading_refused (Err e) b ss first old new (inl failed) (read is) = fallback_err b ss (fault_of e) (is ∙ ap (fallback b ss) failed)
reading_refused (Err e) b ss first old new (inr at) (read is) = inr (inr (inl (refused_first b ss first at ∙ sym is)))
reading_refused (Err e) b ss first old new at (no_memory out) = inr (inl out)
reading_refused (Err e) b ss first old new at (no_seek failed rose) = inl failed
reading_refused (Err e) b ss first old new at (no_backup said rose) = inr (inr (inr (record { first = first; second = io; is = said; at_primary = at; at_backup = inl refl })))

abbrev size_by : Result Copy Fault → ℕ
size_by r = elim r [ Ok copy ↦ 512 | Err fault ↦ if is_signature_fault fault then 4096 else 512 ]

-- The sector size that is found.
pub found_ok : (b : List ℕ) (copy : Copy) → reading_of b 512 ≡ Ok copy → found_sector_size b ≡ 512
unfolding found_sector_size
found_ok b copy is = ap size_by is

pub found_first : (b : List ℕ) (fault : Fault) → reading_of b 512 ≡ Err fault → is_signature_fault fault ≡ false → found_sector_size b ≡ 512
unfolding found_sector_size
found_first b fault is other = ap size_by is ∙ rw other refl

pub found_second : (b : List ℕ) (fault : Fault) → reading_of b 512 ≡ Err fault → is_signature_fault fault ≡ true → found_sector_size b ≡ 4096
unfolding found_sector_size
found_second b fault is none = ap size_by is ∙ rw none refl

copy_second : (first : Fault) (copy : Copy) (r : Result Copy Fault) → Ok copy ≡ second_copy first r → r ≡ Ok copy
copy_second first copy (Ok other) is = sym is
copy_second first copy (Err second) is = absurd (cc)

taken_by : (b : List ℕ) (ss : ℕ) (first : Fault) (copy : Copy) (short : Bool) → ltb (length b) ss ≡ short → Ok copy ≡ fallback b ss first → copy_in backup b ss ≡ Ok copy
taken_by b ss first copy true small is =
    let none : ◌≡◌ {A = Result Copy Fault} (Ok copy) (Err invalid_signature) = is ∙ fallback_short b ss first (grind arith) in
    absurd (cc)
taken_by b ss first copy false large is = copy_second first copy (copy_in backup b ss) (is ∙ fallback_long b ss first (grind arith))

-- A copy that the fallback returns is the backup copy.
taken_backup : (r : Result GPT Error) (b : List ℕ) (ss : ℕ) (first : Fault) (old new : DiskState) → FallsBack r copy_of b ss first old new
    → IfOk r (λ g. copy_in backup b ss ≡ Ok (copy_of g))
taken_backup (Err e) b ss first old new back = tt
taken_backup (Ok g) b ss first old new (read is) = taken_by b ss first (copy_of g) (ltb (length b) ss) refl is
taken_backup (Ok g) b ss first old new (no_memory out) = absurd out
taken_backup (Ok g) b ss first old new (no_seek failed rose) = absurd failed
taken_backup (Ok g) b ss first old new (no_backup said rose) = absurd said

-- The primary copy was not returned, and this is the result of the fallback.
pub record FellBack (r : Result GPT Error) (ss : ℕ) (first : Fault) (old mid new : DiskState) : Type 0 where
  pub before : Keeps old mid
  pub after : Keeps mid new
  pub at_primary : IsFailure first old mid ⊎ (copy_in primary old.view ss ≡ Err first)
  pub back : FallsBack r copy_of old.view ss first mid new

-- From the results of both reads.
pub fell_back : (r : Result GPT Error) (ss : ℕ) (first : Fault) (old mid new : DiskState) → Keeps old mid → Keeps mid new → mid.view ≡ old.view → first ≢ out_of_memory
    → IsFailure first old mid ⊎ ((first ≡ out_of_memory) ⊎ (Err first ≡ copy_in primary old.view ss)) → FallsBack r copy_of mid.view ss first mid new
    → FellBack r ss first old mid new
fell_back r ss first old mid new before after same known answer back = record {
  before = before;
  after = after;
  at_primary = ⊎_elim inl (⊎_elim (λ out. absurd (known out)) (λ is. inr (sym is))) answer;
  back = subst (λ (b : List ℕ). FallsBack r copy_of b ss first mid new) same back;
}

-- The whole read then has this result, unless the disk failed.
answer_by : (r : Result GPT Error) (ss : ℕ) (first : Fault) (old mid new : DiskState) → Keeps old mid → Keeps mid new
    → IsFailure first old mid ⊎ (copy_in primary old.view ss ≡ Err first) → FallsBack r copy_of old.view ss first mid new
    → Rose old new ⊎ (Refuses r out_of_memory ⊎ (answer_of copy_of r ≡ reading_of old.view ss))
answer_by r ss first old mid new before after (inl failed) back = inl (rose_before old mid new failed.1 after)
answer_by r ss first old mid new before after (inr at) (read is) = inr (inr (is ∙ sym (refused_first old.view ss first at)))
answer_by r ss first old mid new before after (inr at) (no_memory out) = inr (inl out)
answer_by r ss first old mid new before after (inr at) (no_seek failed rose) = inl (rose_since old mid new before rose)
answer_by r ss first old mid new before after (inr at) (no_backup said rose) = inl (rose_since old mid new before rose)

pub answer_after : {r : Result GPT Error} {ss : ℕ} {first : Fault} {old mid new : DiskState} → FellBack r ss first old mid new
    → Rose old new ⊎ (Refuses r out_of_memory ⊎ (answer_of copy_of r ≡ reading_of old.view ss))
answer_after {r} {ss} {first} {old} {mid} {new} f = answer_by r ss first old mid new f.before f.after f.at_primary f.back

-- It fails with this error,
pub refused_after : {r : Result GPT Error} {ss : ℕ} {first : Fault} {old mid new : DiskState} → FellBack r ss first old mid new
    → IfErr r (λ e. IsReadingFault old.view ss (fault_of e))
refused_after {r} {ss} {first} {old} {mid} {new} f = reading_refused r old.view ss first mid new (⊎_elim (λ failed. inl failed.0) inr f.at_primary) f.back

-- and returns the backup copy.
pub accepted_after : {r : Result GPT Error} {ss : ℕ} {first : Fault} {old mid new : DiskState} → FellBack r ss first old mid new
    → IfOk r (λ g. MayBeRead old new ss (copy_of g))
accepted_after {r} {ss} {first} {old} {mid} {new} f =
    let why : IsErr (copy_in primary old.view ss) ⊎ Rose old new =
    ⊎_elim (λ failed. inr (rose_before old mid new failed.1 f.after)) (λ at. inl (subst (λ (r : Result Copy Fault). IsErr r) (sym at) refl)) f.at_primary in
    IfOk-weaker r _ _ (λ table is. inr (is, why)) (taken_backup r old.view ss first mid new f.back)

primary_by : (b : List ℕ) (ss : ℕ) (copy : Copy) (short : Bool) → ltb (length b) ss ≡ short → copy_in primary b ss ≡ Ok copy → ss ≤ length b
primary_by b ss copy true small at =
    let far : copy_at b ss ss ≡ Err io = header_refused b ss ss io (header_short b ss (grind arith)) in
    let none : ◌≡◌ {A = Result Copy Fault} (Err io) (Ok copy) = sym (primary_at b ss ∙ far) ∙ at in
    absurd (cc)
primary_by b ss copy false large at = grind arith

-- A disk with a primary copy is not shorter than a sector,
primary_room : (b : List ℕ) (ss : ℕ) (copy : Copy) → copy_in primary b ss ≡ Ok copy → ss ≤ length b
primary_room b ss copy at = primary_by b ss copy (ltb (length b) ss) refl at

-- nor is one from which a copy was read.
pub read_room : (old new : DiskState) (ss : ℕ) (copy : Copy) → MayBeRead old new ss copy → ss ≤ length old.view
read_room old new ss copy (inl first) = primary_room old.view ss copy first
read_room old new ss copy (inr second) = backup_room old.view ss copy second.0

-- A read with sectors of 4096 bytes after one with 512 returns a copy that may be read.
pub second_read : (r : Result GPT Error) (old mid new : DiskState) → mid.view ≡ old.view → Keeps old mid
    → IfOk r (λ g. g.sector_size ≡ 4096) → IfOk r (λ g. MayBeRead mid new 4096 (copy_of g)) → IfOk r (λ g. MayBeRead old new g.sector_size (copy_of g))
second_read (Err e) old mid new same keeps size taken = tt
second_read (Ok g) old mid new same keeps size (inl first) = rw size (inl (ap (λ b. copy_in primary b 4096) (sym same) ∙ first))
second_read (Ok g) old mid new same keeps size (inr second) =
    let here : copy_in backup old.view 4096 ≡ Ok (copy_of g) = ap (λ b. copy_in backup b 4096) (sym same) ∙ second.0 in
    rw size (inr (here, ⊎_elim (λ bad. inl (subst (λ b. IsErr (copy_in primary b 4096)) same bad)) (λ rose. inr (rose_since old mid new keeps rose)) second.1))

-- The disk failed in it as in a single read: on a disk of at least 4096 bytes, the first read met no failure.
pub second_counts : (r : Result GPT Error) (old mid new : DiskState) → mid.view ≡ old.view → length old.view ≡ old.size
    → HasFailedAsOften old mid ⊎ (old.size < 512)
    → IfOk r (λ g. g.sector_size ≡ 4096) → IfOk r (λ g. MayBeRead mid new 4096 (copy_of g)) → IfOk r (CountsReading mid new) → IfOk r (CountsReading old new)
second_counts (Err e) old mid new same long first size taken counts = tt
second_counts (Ok g) old mid new same long (inr short) size taken counts =
    let room : 4096 ≤ length mid.view = read_room mid new 4096 (copy_of g) taken in
    absurd (omega (arith, room, ap length same, long, short))
second_counts (Ok g) old mid new same long (inl none) size taken (inl still) = inl (still ∙ none)
second_counts (Ok g) old mid new same long (inl none) size taken (inr once) =
    inr (omega (arith, once.0, none), ap (λ b. copy_in backup b g.sector_size) (sym same) ∙ once.1)
