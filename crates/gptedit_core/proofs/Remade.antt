-- A crash during the write of a new table over an old one leaves one of the two.
use Rattle.std.proofs.Common.{◌≡◌, ◌≢◌, ◌⊎◌, ◌↔◌, IsTrue, inl, inr, refl, sym, ap, ◌∙◌, subst, ℕ, ◌+◌, ◌-◌, ◌*◌, ◌/◌, ◌≤◌, Bool, true, false, List, [], Ok, Option, min, max, arith}
use Rattle.std.proofs.Math.Nat.{one-mul}
use Rattle.gptman.specs.Copy.{IsCoherent}
use Rattle.gptman.specs.Crash.{other_place, IsKeptFor, IsReadInForm}
use Rattle.gptman.specs.Disk.{DiskState}
use Rattle.gptman.specs.Layout.{HasLayout, Holds, copy_ranges_at}
use Rattle.gptman.specs.Ranges.{AreClear}
use Rattle.gptman.specs.Reading.{CopyPlace, primary, backup, copy_in}
use Rattle.gptman.specs.Table.{Table, entries_in, table_in, IsHeaderForm}
use Rattle.gptman.specs.TableReads.{copy_of, MayBeRead}
use Rattle.gptman.specs.declared.table.GPT.{GPT}
use Rattle.gptman_change.specs.Changes.{begun, unwritten, written, IsSafe, LeavesChange, StartsGood, StartsGoodFor, StopsLeaveEither}
use Rattle.gptman_change.specs.Reads.{size_for}
use Rattle.gptman_change.proofs.Safe.{unwritten_safe}
use Rattle.gptedit_core.specs.Making.{put_at, copy_place_of, HasOrder, IsRemade, IsSafeOrder, IsWrittenAnew, SafeOrdersKeepACopy}
use Rattle.gptedit_core.specs.Reshaping.{IsWrittenReshaped}
use Rattle.gptedit_core.specs.declared.making.Creation.{Creation}
use Rattle.gptedit_core.specs.declared.plan.Outcome.{Outcome}
use Rattle.gptedit_core.specs.declared.reshaping.ReshapedRequest.{ReshapedRequest}
use Rattle.gptedit_core.proofs.Bounded.{new_coherent, new_sector}
use Rattle.gptedit_core.proofs.Ordered.{side_first, side_second}

-- ---- the place of a header

last_is : (p b last : ℕ) → p ≡ 1 → b ≡ 1 → min p b ≡ min 1 last → max p b ≡ max 1 last → last ≡ 1
last_is p b last first second low high = omega (arith, first, second, low, high)

-- Two headers in one sector overlap.
never_apart : (a b : ℕ) → b ≡ a → ◌≡◌ {A = ℕ} 92 0 ⊎ (◌≡◌ {A = ℕ} 92 0 ⊎ ((a + 92 ≤ b) ⊎ (b + 92 ≤ a))) → ⊥
never_apart a b same (inl none) = omega (arith, none)
never_apart a b same (inr (inl none)) = omega (arith, none)
never_apart a b same (inr (inr (inl low))) = omega (arith, low, same)
never_apart a b same (inr (inr (inr high))) = omega (arith, high, same)

-- A header is not that of both places.
not_both : (g : GPT) (len : ℕ) → HasLayout g len → g.header.backup_lba ≡ 1 → g.header.primary_lba ≢ 1
not_both g len layout second first =
    let t = layout.table in
    let last : len / g.sector_size - 1 ≡ 1 = last_is g.header.primary_lba g.header.backup_lba (len / g.sector_size - 1) first second t.low_sector t.high_sector in
    let same : (len / g.sector_size - 1) * g.sector_size ≡ g.sector_size = ap (λ (n : ℕ). n * g.sector_size) last ∙ one-mul g.sector_size in
    never_apart g.sector_size ((len / g.sector_size - 1) * g.sector_size) same t.apart.0.1.0

-- In the stated layout the form of a header is that of its place.
form_there : (side : CopyPlace) (g : GPT) (len : ℕ) → HasLayout g len → IsHeaderForm side g.header → copy_place_of g.header ≡ side
form_there primary g len layout form = side_first g.header form.0
form_there backup g len layout form = side_second g.header (not_both g len layout form.0)

pub form_at : (g : GPT) (len : ℕ) → HasLayout g len → IsHeaderForm (copy_place_of g.header) g.header
form_at g len layout = subst (λ (side : CopyPlace). IsHeaderForm side g.header) (sym (form_there layout.side g len layout layout.form)) layout.form

-- ---- consequences of a safe order

module _ (disk : DiskState) (g next : GPT) (synced : disk.pending ≡ []) (read : IsReadInForm disk.view g) (order : IsSafeOrder g next disk.size) where
  there : copy_place_of g.header ≡ read.side
  there = form_there read.side g disk.size order.layout read.form

  next_form : IsHeaderForm (copy_place_of g.header) next.header
  next_form = subst (λ (side : CopyPlace). IsHeaderForm side next.header) order.place.side (form_at next disk.size order.next_layout)

  held : Holds disk.view g.sector_size read.side (table_in g)
  held = record { copy = copy_of g; accepted = read.accepted; form = record { table = refl; form = read.form } }

  kept : IsKeptFor disk next (table_in g)
  kept = record {
    synced = synced;
    side = copy_place_of g.header;
    form = next_form;
    held = subst (λ (n : ℕ). Holds disk.view n (copy_place_of g.header) (table_in g)) (sym order.place.sector)
        (subst (λ (side : CopyPlace). Holds disk.view g.sector_size side (table_in g)) (sym there) held);
    clear = subst (λ (n : ℕ). AreClear (copy_ranges_at (copy_place_of g.header) (table_in g) n disk.size) (copy_ranges_at (other_place (copy_place_of g.header)) (table_in next) next.sector_size disk.size))
        (sym order.place.sector) order.clear;
  }

pub kept_in_order : (disk : DiskState) → SafeOrdersKeepACopy disk
kept_in_order disk g next synced read order = kept disk g next synced read order

-- ---- the disk after a crash

-- A value that is read is this table in the form of its place, if each accepted copy is this table.
record IsOfTable (view : List ℕ) (g : GPT) (was : Table) : Type 0 where
  same : table_in g ≡ was
  read : IsReadInForm view g

of_place : (disk : DiskState) (ss : ℕ) (g : GPT) (was : Table) (place : CopyPlace) → StartsGood disk ss was → g.sector_size ≡ ss → copy_in place disk.view g.sector_size ≡ Ok (copy_of g)
    → IsOfTable disk.view g was
of_place disk ss g was place good sector accepted =
    let form = good.only place (copy_of g) (subst (λ (n : ℕ). copy_in place disk.view n ≡ Ok (copy_of g)) sector accepted) in
    record { same = form.table; read = record { side = place; accepted = accepted; form = form.form } }

of_table : (old mid : DiskState) (ss : ℕ) (g : GPT) (was : Table) → StartsGood old ss was → g.sector_size ≡ ss → MayBeRead old mid g.sector_size (copy_of g) → IsOfTable old.view g was
of_table old mid ss g was good sector (inl first) = of_place old ss g was primary good sector first
of_table old mid ss g was good sector (inr second) = of_place old ss g was backup good sector second.0

pub in_order : (g next : GPT) (len : ℕ) (may_lose : Bool) → may_lose ≡ false → HasOrder may_lose g next len → IsSafeOrder g next len
in_order g next len may_lose keeps (inl lose) = absurd (cc)
in_order g next len may_lose keeps (inr order) = order

pub order_else : (g next : GPT) (len : ℕ) (may_lose b : Bool) → may_lose ≡ false → IsTrue b ↔ IsSafeOrder g next len → IsTrue b ↔ HasOrder may_lose g next len
order_else g next len may_lose b keeps is = (λ yes. inr (is.0 yes), λ order. is.1 (in_order g next len may_lose keeps order))

pub refuted : {P : Type 0} (b : Bool) → b ≡ false → IsTrue b ↔ P → P → ⊥
refuted b lacks is p = let holds : b ≡ true = is.1 p in absurd (cc)

-- A crash leaves the old or the new table if each write is in a safe order.
safe_ordered : (W : GPT → GPT → Outcome → Type 0) (size : Option ℕ) (was : Table) (old new : DiskState) → ((g next : GPT) (answer : Outcome) → W g next answer → IsSafeOrder g next old.size)
    → StartsGoodFor old size was → LeavesChange W size old new → IsSafe W (size_for old.view size) was old new
safe_ordered W size was old new ordered good (unwritten only) = unwritten_safe W (size_for old.view size) was old new good only
safe_ordered W size was old new ordered good (written table next answer read made wrote leaves) =
    let ss : ℕ = size_for old.view size in
    let order = ordered table next answer made in
    let of = of_table old new ss table was good read.sector read.accepted in
    let one = subst (IsKeptFor old next) of.same (kept_in_order old table next good.synced of.read order) in
    begun table next answer of.same made
    (subst (λ (n : ℕ). StopsLeaveEither was (table_in next) n old new) (order.place.sector ∙ read.sector) (leaves was order.next_layout one))

-- So it is unless the write may lose both.
pub safe_anew : (creation : Creation) (size : Option ℕ) (was : Table) (old new : DiskState) → creation.may_lose ≡ false → StartsGoodFor old size was
    → LeavesChange (IsWrittenAnew creation old.size) size old new → IsSafe (IsWrittenAnew creation old.size) (size_for old.view size) was old new
safe_anew creation size was old new keeps =
    safe_ordered (IsWrittenAnew creation old.size) size was old new (λ g next answer made. in_order g next old.size creation.may_lose keeps made.planned.order)

pub safe_reshaped : (reshaped : ReshapedRequest) (size : Option ℕ) (was : Table) (old new : DiskState) → reshaped.may_lose ≡ false → StartsGoodFor old size was
    → LeavesChange (IsWrittenReshaped reshaped old.size) size old new → IsSafe (IsWrittenReshaped reshaped old.size) (size_for old.view size) was old new
safe_reshaped reshaped size was old new keeps =
    safe_ordered (IsWrittenReshaped reshaped old.size) size was old new (λ g next answer made. in_order g next old.size reshaped.may_lose keeps made.planned.order)

-- ---- the new table in the form of the old one

put_sector : (side : CopyPlace) (g : GPT) → (put_at side g).sector_size ≡ g.sector_size
put_sector primary g = refl
put_sector backup g = refl

put_coherent : (side : CopyPlace) (g : GPT) → IsCoherent g.header (entries_in g) → IsCoherent (put_at side g).header (entries_in (put_at side g))
put_coherent primary g is = is
put_coherent backup g is = record { header_size = is.header_size; count = is.count; entry_size = is.entry_size }

pub remade_sector : (creation : Creation) (len : ℕ) (g next : GPT) → IsRemade creation len g next → next.sector_size ≡ g.sector_size
remade_sector creation len g next is =
    ap (λ (m : GPT). m.sector_size) is.next_is ∙ put_sector (copy_place_of g.header) is.made ∙ new_sector creation g.sector_size len is.made is.is_new

pub remade_coherent : (creation : Creation) (len : ℕ) (g next : GPT) → IsRemade creation len g next → IsCoherent next.header (entries_in next)
remade_coherent creation len g next is =
    subst (λ (m : GPT). IsCoherent m.header (entries_in m)) (sym is.next_is) (put_coherent (copy_place_of g.header) is.made (new_coherent creation g.sector_size len is.made is.is_new))
