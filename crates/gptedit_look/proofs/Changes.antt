-- The change of an MBR.
use Rattle.std.proofs.Common.{◌≡◌, true, false, Bool, ◌≤◌, ◌∙◌, ℕ, List, max, sym, subst, Result, Ok, Err}
use Rattle.std.specs.Prelude.{OnOk}
use Rattle.std.proofs.lemmas.Bool.{false≢true}
use Rattle.gptman.specs.Mbr.{mbr_bytes, IsMbrStored}
use Rattle.gptman.specs.Disk.{overlay, DiskState, Reads}
use Rattle.gptman.proofs.Readers.{both_read}
use Rattle.gptedit_look.specs.Mended.{change_of, first_bytes, sectors_of, IsChange, IsDone, IsPlan, IsSet}
use Rattle.gptedit_look.specs.Protective.{HasSpan}
use Rattle.gptedit_look.specs.declared.mending.Plan.{Plan}
use Rattle.gptedit_look.specs.declared.mending.Plan.TheVariants.{Leave, Mend, Make}

-- two facts after Ok
pub on_ok_both : {T E P Q R : Type 0} → (r : Result T E) → OnOk r P → OnOk r Q → (P → Q → R) → OnOk r R
on_ok_both (Ok x) p q f = f p q
on_ok_both (Err e) p q f = tt

-- a dry run
pub change_dry : (may is_dry : Bool) (ss : ℕ) (plan : Plan) (old new : DiskState) → 512 ≤ old.size → is_dry ≡ true
    → IsPlan may (sectors_of old ss) (first_bytes old) plan → Reads old new → IsChange may is_dry ss (change_of plan) old new
change_dry may is_dry ss Leave old new room dry planned reads = reads
change_dry may is_dry ss (Mend misfit) old new room dry planned reads = (
  misfit.entry,
  record {
    need = record { room = room; marked = planned.0; wrong = planned.1 };
    set = λ no. absurd (false≢true (sym no ∙ dry));
  },
)
change_dry may is_dry ss Make old new room dry planned reads = record { vacant = planned.0; may = planned.1; made = λ no. absurd (false≢true (sym no ∙ dry)) }

-- reads before the entry was set
set_since : (i s t n m : ℕ) (old mid new : DiskState) → mid.view ≡ old.view → s ≡ t → n ≡ m → IsSet i s n mid new → IsSet i t m old new
set_since i s t n m old mid new view start length set = record {
  bytes = subst (λ (x : ℕ). HasSpan i t x old.view new.view) length
      (subst (λ (x : ℕ). HasSpan i x n old.view new.view) start (subst (λ (b : List ℕ). HasSpan i s n b new.view) view set.bytes));
  synced = set.synced;
}

stored_since : (ss : ℕ) (old mid new : DiskState) → mid.view ≡ old.view → mid.size ≡ old.size → IsMbrStored false ss mid new → IsMbrStored false ss old new
stored_since ss old mid new view size stored = record {
  view = stored.view ∙ (λ i. overlay (view i) 446 (mbr_bytes false ss (size i)));
  synced = stored.synced;
}

-- the plan is carried out
pub change_done : (may is_dry : Bool) (ss : ℕ) (plan : Plan) (old mid new : DiskState) → 512 ≤ old.size → Reads old mid → mid.view ≡ old.view
    → IsPlan may (sectors_of old ss) (first_bytes old) plan → IsDone plan (max ss 1) mid new → IsChange may is_dry ss (change_of plan) old new
change_done may is_dry ss Leave old mid new room reads view planned done = both_read reads done
change_done may is_dry ss (Mend misfit) old mid new room reads view planned done = (
  misfit.entry,
  record {
    need = record { room = room; marked = planned.0; wrong = planned.1 };
    set = λ no. set_since misfit.entry misfit.start _ misfit.length _ old mid new view planned.2 planned.3 done;
  },
)
change_done may is_dry ss Make old mid new room reads view planned done =
    record { vacant = planned.0; may = planned.1; made = λ no. stored_since (max ss 1) old mid new view reads.keeps.size done }

-- a plan for the bytes that were read holds for the disk
pub plan_at : (may : Bool) (ss n : ℕ) (b : List ℕ) (plan : Plan) (disk : DiskState) → b ≡ first_bytes disk → n ≡ sectors_of disk ss
    → IsPlan may n b plan → IsPlan may (sectors_of disk ss) (first_bytes disk) plan
plan_at may ss n b plan disk bytes sectors planned =
    subst (λ (x : List ℕ). IsPlan may (sectors_of disk ss) x plan) bytes (subst (λ (m : ℕ). IsPlan may m b plan) sectors planned)
