-- If all good copies are of one table, a plan that keeps its places leaves that table or the planned one.
use Rattle.std.proofs.Common.{◌≡◌, inl, inr, refl, sym, ◌∙◌, subst, ℕ, List, [], ◌∷◌, Ok, Option}
use Rattle.gptman.specs.Crash.{IsReadInForm, KeepsWhatIsRead, StartsFromOne}
use Rattle.gptman.specs.Disk.{AgreesOutside, DiskState, Keeps, LeavesOnly, OnlyRead, Wrote}
use Rattle.gptman.specs.Layout.{HasLayout, IsLaidOut}
use Rattle.gptman.specs.Reading.{CopyPlace, primary, backup, copy_in}
use Rattle.gptman.specs.Stop.{HoldsOneOf, StopsHold}
use Rattle.gptman.specs.Table.{Table, table_in, IsHeaderForm}
use Rattle.gptman.specs.TableReads.{copy_of, MayBeRead}
use Rattle.gptman.specs.declared.table.GPT.{GPT}
use Rattle.gptman.proofs.Held.{holds_local}
use Rattle.gptman.proofs.ReadingLaw.{reads_one_of}
use Rattle.gptman.proofs.Ranges.{Ranges, contains_first}
use Rattle.gptman.proofs.Runs.{leaves_then}
use Rattle.gptman_change.specs.Changes.{begun, nothing_written, IsSafe, StartsGood, StartsGoodFor}
use Rattle.gptman_change.specs.Planning.{AlwaysKeepsPlaces, KeepsPlaces, Makes}
use Rattle.gptman_change.specs.Reads.{size_for, IsReadFrom}
use Rattle.gptman_change.proofs.Left.{either}

-- If each accepted copy is this table, the value that was read is it, in the form of its place.
record IsOfTable (view : List ℕ) (ss : ℕ) (g : GPT) (was : Table) : Type 0 where
  same : table_in g ≡ was
  side : CopyPlace
  accepted : copy_in side view ss ≡ Ok (copy_of g)
  form : IsHeaderForm side g.header

of_place : (disk : DiskState) (ss : ℕ) (g : GPT) (was : Table) (place : CopyPlace) → StartsGood disk ss was → copy_in place disk.view ss ≡ Ok (copy_of g) → IsOfTable disk.view ss g was
of_place disk ss g was place good accepted =
    let form = good.only place (copy_of g) accepted in
    record { same = form.table; side = place; accepted = accepted; form = form.form }

of_table : (old mid : DiskState) (ss : ℕ) (g : GPT) (was : Table) → StartsGood old ss was → MayBeRead old mid ss (copy_of g) → IsOfTable old.view ss g was
of_table old mid ss g was good (inl first) = of_place old ss g was primary good first
of_table old mid ss g was good (inr second) = of_place old ss g was backup good second.0

-- On a disk of this length such a value has the stated layout.
laid_out : (view : List ℕ) (ss len : ℕ) (table : GPT) (was : Table) → IsLaidOut was ss len → table.sector_size ≡ ss → IsOfTable view ss table was → HasLayout table len
laid_out view ss len table was layout sector of = record {
  table = subst (λ (t : Table). IsLaidOut t table.sector_size len) (sym of.same) (subst (λ (n : ℕ). IsLaidOut was n len) (sym sector) layout);
  side = of.side;
  form = of.form;
}

-- A value read from a good copy is its table, and a plan that keeps its places keeps the stated layout.
pub from_good : (table next : GPT) (was : Table) (old mid : DiskState) → MayBeRead old mid table.sector_size (copy_of table) → StartsGood old table.sector_size was
    → KeepsPlaces table next → (table_in table ≡ was) × HasLayout next old.size
from_good table next was old mid accepted good stays =
    let of = of_table old mid table.sector_size table was good accepted in
    (of.same, stays.layout old.size (laid_out old.view table.sector_size old.size table was good.layout refl of))

-- During the read, a crash leaves the old table.
still_holds : (old mid : DiskState) (ss : ℕ) (was : Table) (more : List Table) → StartsGood old ss was → OnlyRead old mid → LeavesOnly old mid (λ b. HoldsOneOf b ss (was ∷ more))
still_holds old mid ss was more good only b left =
    let agrees : AgreesOutside [] old.view b = subst (λ (ranges : Ranges). AgreesOutside ranges old.view b) good.synced (only.wrote.crash b left) in
    record {
      side = good.side;
      table = was;
      listed = contains_first was more;
      holds = holds_local old.view b ss good.side was good.held (record { long = agrees.long; same = λ k inside. agrees.same k tt });
    }

pub unwritten_safe : {A : Type 0} (planned : Makes A) (ss : ℕ) (was : Table) (old mid : DiskState) → StartsGood old ss was → OnlyRead old mid → IsSafe planned ss was old mid
unwritten_safe planned ss was old mid good only =
    nothing_written (λ b left known. reads_one_of b ss (was ∷ []) (still_holds old mid ss was [] good only b left) known)

-- The write begins on a disk that has a good copy of the old table.
starts : (old mid : DiskState) (ss : ℕ) (table next : GPT) (was : Table) → KeepsWhatIsRead mid → KeepsPlaces table next → StartsGood old ss was → OnlyRead old mid → Keeps old mid
    → table.sector_size ≡ ss → IsOfTable old.view ss table was → StartsFromOne mid next was
starts old mid ss table next was law places good only keeps sector of =
    let read : IsReadInForm mid.view table = record {
      side = of.side;
      accepted = subst (λ (n : ℕ). copy_in of.side mid.view n ≡ Ok (copy_of table)) (sym sector)
          (subst (λ (view : List ℕ). copy_in of.side view ss ≡ Ok (copy_of table)) (sym only.view) of.accepted);
      form = of.form;
    } in
    let layout : HasLayout table mid.size = laid_out old.view ss mid.size table was (subst (λ (len : ℕ). IsLaidOut was ss len) (sym keeps.size) good.layout) sector of in
    subst (λ (t : Table). StartsFromOne mid next t) of.same (law table next only.wrote.honest (only.pending ∙ good.synced) read places.places (places.layout mid.size layout))

-- A write of the planned table leaves the old table or the planned one.
pub written_safe : {A : Type 0} (planned : Makes A) (size : Option ℕ) (was : Table) (table next : GPT) (answer : A) (old mid new : DiskState) (ranges : Ranges) → StartsGoodFor old size was
    → OnlyRead old mid → Keeps old mid → IsReadFrom size old mid table → planned table next answer → AlwaysKeepsPlaces planned → Wrote ranges mid new → KeepsWhatIsRead mid
    → (StartsFromOne mid next was → StopsHold mid new next.sector_size (was ∷ table_in next ∷ []))
    → IsSafe planned (size_for old.view size) was old new
written_safe planned size was table next answer old mid new ranges good only keeps read made places wrote law safe =
    let ss : ℕ = size_for old.view size in
    let stays = places table next answer made in
    let of = of_table old mid ss table was good (subst (λ (n : ℕ). MayBeRead old mid n (copy_of table)) read.sector read.accepted) in
    let start = starts old mid ss table next was law stays good only keeps read.sector of in
    let here : next.sector_size ≡ ss = stays.places.sector ∙ read.sector in
    begun table next answer of.same made
    (either was (table_in next) ss old new
    (leaves_then (λ b. HoldsOneOf b ss (was ∷ table_in next ∷ [])) only.wrote.time wrote.time
    (still_holds old mid ss was (table_in next ∷ []) good only)
    (subst (λ (n : ℕ). StopsHold mid new n (was ∷ table_in next ∷ [])) here (safe start))))
