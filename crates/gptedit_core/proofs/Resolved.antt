-- Requests are resolved one by one.
use Rattle.std.proofs.Common.{◌≡◌, ℕ, List, [], ◌∷◌, refl, subst, IsTrue}
use Rattle.std.specs.Prelude.{Result, Ok, Err, if◌then◌else◌}
use Rattle.gptman.specs.Entry.{is_unused}
use Rattle.gptman.specs.declared.codec.entry.GPTPartitionEntry.{GPTPartitionEntry}
use Rattle.gptman.specs.declared.table.GPT.{GPT}
use Rattle.gptedit_core.specs.Resolving.{and_then, entry_asked, number_asked, partition_at, place_asked, resolved, resolved_all, unless, use_fault, used_at}
use Rattle.gptedit_core.specs.declared.place.Place.{Place}
use Rattle.gptedit_core.specs.declared.refusal.Refusal.TheVariants.{NoType}
use Rattle.gptedit_core.specs.declared.asked.Asked.{Asked}
use Rattle.gptedit_core.specs.declared.asked.Mode.{Mode}
use Rattle.gptedit_core.specs.declared.refusal.Refusal.{Refusal}
use Rattle.gptedit_core.specs.declared.resolve.ResolvedPartition.{ResolvedPartition}
use Rattle.gptedit_core.proofs.Steps.{and_then_ok, else_ok}

-- No partition has an unused entry.
abbrev pub AreUsed : List ResolvedPartition → Type 0
AreUsed [] = Unit {0}
AreUsed (p ∷ ps) = (¬ IsTrue (is_unused p.entry)) × AreUsed ps

-- A resolved partition has a type.
pub resolved_used : (g : GPT) (mode : Mode) (a : Asked) (random : List ℕ) (p : ResolvedPartition) → resolved g mode a random ≡ Ok p → ¬ IsTrue (is_unused p.entry)
resolved_used g mode a random p is =
    let number = and_then_ok (number_asked g a) (partition_at g mode a random) p is in
    let i : ℕ = number.0 in
    let used = used_at g i in
    let e : GPTPartitionEntry = entry_asked a used random in
    let last : Place → Result ResolvedPartition Refusal = λ place. if is_unused e then Err (NoType i) else Ok (record { number = i; entry = e; place = place }) in
    let use_of = and_then_ok (unless (use_fault mode i used) i) (λ (j : ℕ). and_then (place_asked mode a i used g.sector_size) last) p number.2 in
    let place = and_then_ok (place_asked mode a i used g.sector_size) last p use_of.2 in
    let end = else_ok (is_unused e) (NoType i) (record { number = i; entry = e; place = place.0 }) p place.2 in
    subst (λ (q : ResolvedPartition). ¬ IsTrue (is_unused q.entry)) end.1 end.0

pub used_all : (g : GPT) (mode : Mode) (asked : List Asked) (randoms : List (List ℕ)) (ps : List ResolvedPartition) → resolved_all g mode asked randoms ≡ Ok ps → AreUsed ps
used_all g mode [] randoms ps is = let same : [] ≡ ps = cc in subst AreUsed same tt
used_all g mode (a ∷ asked) [] ps is = let same : [] ≡ ps = cc in subst AreUsed same tt
used_all g mode (a ∷ asked) (random ∷ randoms) ps is =
    let first = and_then_ok (resolved g mode a random) _ ps is in
    let rest = and_then_ok (resolved_all g mode asked randoms) _ ps first.2 in
    let same : first.0 ∷ rest.0 ≡ ps = cc in
    subst AreUsed same (resolved_used g mode a random first.0 first.1, used_all g mode asked randoms rest.0 rest.1)

-- ---- a list with one more element

-- One more request is resolved.
pub resolved_more : (g : GPT) (mode : Mode) (a : Asked) (random : List ℕ) (asked : List Asked) (randoms : List (List ℕ)) (p : ResolvedPartition) (ps : List ResolvedPartition)
    → resolved g mode a random ≡ Ok p → resolved_all g mode asked randoms ≡ Ok ps → resolved_all g mode (a ∷ asked) (random ∷ randoms) ≡ Ok (p ∷ ps)
resolved_more g mode a random asked randoms p ps first rest = rw (first, rest) refl
