-- A disk that holds a listed table in at least one place, and from which no foreign copy is read, is read as a listed
-- table.
use Rattle.std.proofs.Common.{◌≡◌, ℕ, Bool, true, false, List, length, ltb, Result, Ok, Err, refl, sym, ap, ◌∙◌, subst, inl, inr, arith}
use Rattle.std.specs.List.{Contains}
use Rattle.gptman_disk.specs.Fault.{Fault}
use Rattle.gptman.specs.Copy.{Copy}
use Rattle.gptman.specs.Layout.{Holds}
use Rattle.gptman.specs.Reading.{CopyPlace, primary, backup, copy_in, fallback, reading_of, taken_from}
use Rattle.gptman.specs.Stop.{HoldsOneOf, HoldsWhatIsRead, ReadsForeign, ReadsOneOf}
use Rattle.gptman.specs.Table.{Table, IsForm}
use Rattle.gptman.proofs.Fallback.{backup_room, fallback_long, fallback_short, refused_first, taken_first}
use Rattle.gptman.proofs.SameTable.{one_of_decided}
use Rattle.gptman.proofs.Fallback.{second_copy}

abbrev from : Result Copy Fault → CopyPlace
from r = elim r [ Ok copy ↦ primary | Err fault ↦ backup ]

pub from_first : (b : List ℕ) (ss : ℕ) (copy : Copy) → copy_in primary b ss ≡ Ok copy → taken_from b ss ≡ primary
unfolding taken_from
from_first b ss copy is = ap from is

pub from_second : (b : List ℕ) (ss : ℕ) (fault : Fault) → copy_in primary b ss ≡ Err fault → taken_from b ss ≡ backup
unfolding taken_from
from_second b ss fault is = ap from is

-- If the primary copy has a fault, the backup copy is returned.
pub taken_second : (b : List ℕ) (ss : ℕ) (fault : Fault) (copy : Copy) → copy_in primary b ss ≡ Err fault → copy_in backup b ss ≡ Ok copy → reading_of b ss ≡ Ok copy
taken_second b ss fault copy refused at =
    refused_first b ss fault refused ∙ fallback_long b ss fault (backup_room b ss copy at) ∙ ap (second_copy fault) at

reads_cases : (b : List ℕ) (ss : ℕ) (tables : List Table) (r : Result Copy Fault) → copy_in primary b ss ≡ r → (side : CopyPlace) (t : Table) → Contains tables t → Holds b ss side t
    → ¬ ReadsForeign b ss tables → ReadsOneOf b ss tables
reads_cases b ss tables (Ok copy) is side t listed holds known =
    let taken = taken_first b ss copy is in
    elim (one_of_decided (taken_from b ss) copy tables) as (λ _. ReadsOneOf b ss tables) [
      | inl found ↦ record { copy = copy; taken = taken; table = found.table; listed = found.listed; form = found.form }
      | inr none ↦ absurd (known (record { copy = copy; taken = taken; foreign = none }))
    ]
reads_cases b ss tables (Err fault) is primary t listed holds known = let e = sym is ∙ holds.accepted in absurd (cc)
reads_cases b ss tables (Err fault) is backup t listed holds known = record {
  copy = holds.copy;
  taken = taken_second b ss fault holds.copy is holds.accepted;
  table = t;
  listed = listed;
  form = subst (λ (p : CopyPlace). IsForm p t holds.copy) (sym (from_second b ss fault is)) holds.form;
}

pub reads_one_of : (b : List ℕ) (ss : ℕ) (tables : List Table) → HoldsOneOf b ss tables → ¬ ReadsForeign b ss tables → ReadsOneOf b ss tables
reads_one_of b ss tables holds known = reads_cases b ss tables (copy_in primary b ss) refl holds.side holds.table holds.listed holds.holds known

-- ---- the copy that a read returns

-- The fallback returns only the backup copy.
second_given : (b : List ℕ) (ss : ℕ) (fault : Fault) (copy : Copy) (r : Result Copy Fault) → copy_in backup b ss ≡ r → second_copy fault r ≡ Ok copy → copy_in backup b ss ≡ Ok copy
second_given b ss fault copy (Ok second) is ok = is ∙ ok
second_given b ss fault copy (Err second) is ok = absurd (cc)

given_by_fallback : (b : List ℕ) (ss : ℕ) (fault : Fault) (copy : Copy) (small : Bool) → ltb (length b) ss ≡ small → fallback b ss fault ≡ Ok copy → copy_in backup b ss ≡ Ok copy
given_by_fallback b ss fault copy true is ok = let e = sym (fallback_short b ss fault (grind arith)) ∙ ok in absurd (cc)
given_by_fallback b ss fault copy false is ok = second_given b ss fault copy (copy_in backup b ss) refl (sym (fallback_long b ss fault (grind arith)) ∙ ok)

pub taken_cases : (b : List ℕ) (ss : ℕ) (copy : Copy) (r : Result Copy Fault) → copy_in primary b ss ≡ r → reading_of b ss ≡ Ok copy → copy_in (taken_from b ss) b ss ≡ Ok copy
taken_cases b ss copy (Ok first) is ok = ap (λ (p : CopyPlace). copy_in p b ss) (from_first b ss first is) ∙ is ∙ sym (taken_first b ss first is) ∙ ok
taken_cases b ss copy (Err fault) is ok =
    ap (λ (p : CopyPlace). copy_in p b ss) (from_second b ss fault is)
    ∙ given_by_fallback b ss fault copy (ltb (length b) ss) refl (sym (refused_first b ss fault is) ∙ ok)

-- A copy that a read returns is accepted at its place. In the form of that place it is held there.
pub holds_what_is_read : HoldsWhatIsRead
holds_what_is_read b ss copy ok form = record {
  copy = copy;
  accepted = taken_cases b ss copy (copy_in primary b ss) refl ok;
  form = record { table = refl; form = form };
}
