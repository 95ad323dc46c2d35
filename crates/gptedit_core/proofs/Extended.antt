-- Partitions that get the rest are lengthened after all were put.
use Prim.Native.Nat.{◌∣◌}
use Rattle.std.proofs.Common.{◌≡◌, ◌≢◌, ◌≤◌, ◌<◌, ◌⊎◌, inl, inr, ℕ, ◌+◌, ◌-◌, ◌&&◌, List, [], ◌∷◌, refl, sym, ap, ◌∙◌, subst, arith, suc, IsTrue, Bool, true, false, length, drop}
use Rattle.std.specs.Prelude.{Option, Some, None, get_or, nat_eq, nat_le, slice_get, if◌then◌else◌}
use Rattle.std.proofs.lemmas.Bool.{cases_lt, eqb-false, eqb-true, le-leb, leb-true}
use Rattle.std.proofs.lemmas.List.{drop_more, get_or_default, length-set, set-get_or}
use Rattle.std.proofs.lemmas.Option.{slice_get_within, slice_get-get_or}
use Rattle.gptman.specs.Coding.{empty_entry}
use Rattle.gptman.specs.Entry.{covers, is_used}
use Rattle.gptman.specs.Number.{entry_at, entry_of_number, with_entry, IsNumber}
use Rattle.gptman.specs.Place.{IsFreeIn}
use Rattle.gptman.specs.Table.{entries_in}
use Rattle.gptman.specs.declared.codec.entry.GPTPartitionEntry.{GPTPartitionEntry}
use Rattle.gptman.specs.declared.table.GPT.{GPT}
use Rattle.gptedit_core.specs.Applying.{asks_rest, rest_numbers, AreExtended, IsExtended, IsExtendedFrom}
use Rattle.gptedit_core.specs.Named.{IsAmong, IsLengthened}
use Rattle.gptedit_core.specs.Placing.{AreFreeBehind, IsBlocked, IsFurthestEnd}
use Rattle.gptedit_core.specs.declared.asked.Asked.{Asked}
use Rattle.gptedit_core.specs.declared.resolve.ResolvedPartition.{ResolvedPartition}
use Rattle.gptedit_core.proofs.Applied.{other_entry, this_entry}

-- ---- entries by number

pub found_by : (g : GPT) (i : ℕ) (e : GPTPartitionEntry) (b : Bool) → nat_le 1 i ≡ b
    → ◌≡◌ {A = Option GPTPartitionEntry} (if b then slice_get (entries_in g) (i - 1) else None) (Some e) → IsNumber g i × (entry_at g i ≡ e)
found_by g i e false low is = absurd (cc)
found_by g i e true low is =
    let below = slice_get_within (entries_in g) (i - 1) e is in
    let found = sym (slice_get-get_or (entries_in g) (i - 1) empty_entry below) ∙ is in
    let same : entry_at g i ≡ e = cc in
    let above = leb-true 1 i low in
    ((above, omega (arith, above, below)), same)

pub number_found : (g : GPT) (i : ℕ) → IsNumber g i → entry_of_number g i ≡ Some (entry_at g i)
number_found g i number =
    subst (λ (b : Bool). ◌≡◌ {A = Option GPTPartitionEntry} (if b then slice_get (entries_in g) (i - 1) else None) (Some (entry_at g i))) (sym (le-leb 1 i number.0))
    (slice_get-get_or (entries_in g) (i - 1) empty_entry (omega (arith, number.0, number.1)))

at_index : (g : GPT) (k : ℕ) → entry_at g (suc k) ≡ get_or (entries_in g) k empty_entry
at_index g k = let index : suc k - 1 ≡ k = omega arith in ap (λ (m : ℕ). get_or (entries_in g) m empty_entry) index

-- ---- an entry whose end alone differs

pub record OnlyEnd (e f : GPTPartitionEntry) : Type 0 where
  pub kept : e.ending_lba ≤ f.ending_lba
  pub same : f ≡ record e { ending_lba = f.ending_lba }

end_same : (e : GPTPartitionEntry) → OnlyEnd e e
end_same e = record { kept = omega arith; same = refl }

end_at : (e f : GPTPartitionEntry) (end : ℕ) → e.ending_lba ≤ end → f ≡ record e { ending_lba = end } → OnlyEnd e f
end_at e f end kept is =
    let at : f.ending_lba ≡ end = ap (λ (x : GPTPartitionEntry). x.ending_lba) is in
    record { kept = omega (arith, kept, at); same = is ∙ ap (λ (n : ℕ). record e { ending_lba = n }) (sym at) }

end_more : (e f h : GPTPartitionEntry) → OnlyEnd e f → OnlyEnd f h → OnlyEnd e h
end_more e f h first next =
    let one = first.kept in
    let two = next.kept in
    record { kept = omega (arith, one, two); same = next.same ∙ ap (λ (x : GPTPartitionEntry). record x { ending_lba = h.ending_lba }) first.same }

pub both_true : (a b : Bool) → (a && b) ≡ true → (a ≡ true) × (b ≡ true)
both_true true b is = (refl, is)
both_true false b is = absurd (cc)

covers_more : (x : ℕ) (e f : GPTPartitionEntry) → OnlyEnd e f → IsTrue (covers x e) → IsTrue (covers x f)
covers_more x e f more covered =
    let parts = both_true (is_used e && nat_le e.starting_lba x) (nat_le x e.ending_lba) covered in
    let below = leb-true x e.ending_lba parts.1 in
    let kept = more.kept in
    let whole : (is_used e && nat_le e.starting_lba x && nat_le x f.ending_lba) ≡ true = rw (parts.0, le-leb x f.ending_lba (omega (arith, below, kept))) refl in
    subst (λ (y : GPTPartitionEntry). IsTrue (covers x y)) (sym more.same) whole

-- A sector that is free was free before entries were lengthened.
pub free_less : (g next : GPT) → next.header.first_usable_lba ≡ g.header.first_usable_lba → next.header.last_usable_lba ≡ g.header.last_usable_lba
    → length (entries_in next) ≡ length (entries_in g) → ((j : ℕ) → 1 ≤ j → OnlyEnd (entry_at g j) (entry_at next j)) → (x : ℕ) → IsFreeIn next x → IsFreeIn g x
free_less g next low high long ends x free = record {
  usable = record {
    positive = free.usable.positive;
    low = subst (λ (n : ℕ). n ≤ x) low free.usable.low;
    high = subst (λ (n : ℕ). x ≤ n) high free.usable.high;
  };
  uncovered = λ k d below. λ covered.
      let here : IsTrue (covers x (entry_at g (suc k))) =
      subst (λ (e : GPTPartitionEntry). IsTrue (covers x e)) (get_or_default (entries_in g) k d empty_entry below ∙ sym (at_index g k)) covered in
      let there : IsTrue (covers x (entry_at next (suc k))) = covers_more x (entry_at g (suc k)) (entry_at next (suc k)) (ends (suc k) (omega arith)) here in
      free.uncovered k empty_entry (omega (arith, below, long)) (subst (λ (e : GPTPartitionEntry). IsTrue (covers x e)) (at_index next k) there);
}

-- So are those of tables with the same entries and bounds.
pub free_as : (g next : GPT) → next.header.first_usable_lba ≡ g.header.first_usable_lba → next.header.last_usable_lba ≡ g.header.last_usable_lba
    → entries_in next ≡ entries_in g → (x : ℕ) → IsFreeIn next x → IsFreeIn g x
free_as g next low high same =
    free_less g next low high (ap (λ (es : List GPTPartitionEntry). length es) same) (λ j above.
    subst (λ (e : GPTPartitionEntry). OnlyEnd (entry_at g j) e) (sym (ap (λ (es : List GPTPartitionEntry). get_or es (j - 1) empty_entry) same)) (end_same (entry_at g j)))

-- A sector behind an entry that is free without it is free.
not_covered : (x : ℕ) (e : GPTPartitionEntry) → e.ending_lba < x → ¬ IsTrue (covers x e)
not_covered x e behind = λ covered.
    let below : x ≤ e.ending_lba = leb-true x e.ending_lba (both_true (is_used e && nat_le e.starting_lba x) (nat_le x e.ending_lba) covered).1 in
    omega (arith, behind, below)

uncovered_by : (g : GPT) (i x k : ℕ) (b : Bool) → nat_eq i (suc k) ≡ b → 1 ≤ i → (entry_at g i).ending_lba < x → IsFreeIn (with_entry g i empty_entry) x → k < length (entries_in g)
    → ¬ IsTrue (covers x (entry_at g (suc k)))
uncovered_by g i x k true is low behind free below = λ covered.
    let at : IsTrue (covers x (entry_at g i)) = subst (λ (n : ℕ). IsTrue (covers x (entry_at g n))) (sym (eqb-true i (suc k) is)) covered in
    not_covered x (entry_at g i) behind at
uncovered_by g i x k false other low behind free below = λ covered.
    let without : entry_at (with_entry g i empty_entry) (suc k) ≡ entry_at g (suc k) = other_entry g i (suc k) empty_entry low (omega arith) (eqb-false i (suc k) other) in
    let long : length (entries_in (with_entry g i empty_entry)) ≡ length (entries_in g) = length-set (entries_in g) (i - 1) empty_entry in
    free.uncovered k empty_entry (omega (arith, below, long))
    (subst (λ (e : GPTPartitionEntry). IsTrue (covers x e)) (sym without ∙ at_index (with_entry g i empty_entry) k) covered)

pub free_behind : (g : GPT) (i x : ℕ) → 1 ≤ i → (entry_at g i).ending_lba < x → IsFreeIn (with_entry g i empty_entry) x → IsFreeIn g x
free_behind g i x low behind free = record {
  usable = record { positive = free.usable.positive; low = free.usable.low; high = free.usable.high };
  uncovered = λ k d below. λ covered.
      uncovered_by g i x k (nat_eq i (suc k)) refl low behind free below
      (subst (λ (e : GPTPartitionEntry). IsTrue (covers x e)) (get_or_default (entries_in g) k d empty_entry below ∙ sym (at_index g k)) covered);
}

-- ---- one entry is lengthened

-- The number is one of the table, and its entry is lengthened;
abbrev Extends : ℕ → GPT → GPT → Type 0
Extends i g next = IsNumber g i × IsExtendedFrom (Some (entry_at g i)) i g next

-- or the table is unchanged.
abbrev MayExtend : ℕ → GPT → GPT → Type 0
MayExtend i g next = ((next ≡ g) × (¬ IsNumber g i)) ⊎ Extends i g next

extends_by : (g next : GPT) (i : ℕ) (found : Option GPTPartitionEntry) → entry_of_number g i ≡ found → IsExtendedFrom found i g next → MayExtend i g next
extends_by g next i None found is = inl (is, λ number. let has = sym found ∙ number_found g i number in absurd (cc))
extends_by g next i (Some e) found is =
    let at = found_by g i e (nat_le 1 i) refl found in
    inr (at.0, subst (λ (x : GPTPartitionEntry). IsExtendedFrom (Some x) i g next) (sym at.1) is)

may_extend : (i : ℕ) (g next : GPT) → IsExtended i g next → MayExtend i g next
may_extend i g next is = extends_by g next i (entry_of_number g i) refl is

module _ (i : ℕ) (g next : GPT) (is : Extends i g next) where
  this_end : entry_at next i ≡ record (entry_at g i) { ending_lba = is.1.0 }
  this_end =
      let e : GPTPartitionEntry = record (entry_at g i) { ending_lba = is.1.0 } in
      subst (λ (m : GPT). entry_at m i ≡ e) (sym is.1.2) (this_entry g i e is.0)

  this_other : (j : ℕ) → 1 ≤ j → i ≢ j → entry_at next j ≡ entry_at g j
  this_other j low other =
      let e : GPTPartitionEntry = record (entry_at g i) { ending_lba = is.1.0 } in
      subst (λ (m : GPT). entry_at m j ≡ entry_at g j) (sym is.1.2) (other_entry g i j e is.0.0 low other)

  this_long : length (entries_in next) ≡ length (entries_in g)
  this_long = ap (λ (m : GPT). length (entries_in m)) is.1.2 ∙ length-set (entries_in g) (i - 1) (record (entry_at g i) { ending_lba = is.1.0 })

  end_by : (j : ℕ) (b : Bool) → nat_eq i j ≡ b → 1 ≤ j → OnlyEnd (entry_at g j) (entry_at next j)
  end_by j true same low =
      subst (λ (n : ℕ). OnlyEnd (entry_at g n) (entry_at next n)) (eqb-true i j same) (end_at (entry_at g i) (entry_at next i) is.1.0 is.1.1.kept this_end)
  end_by j false other low =
      subst (λ (e : GPTPartitionEntry). OnlyEnd (entry_at g j) e) (sym (this_other j low (eqb-false i j other))) (end_same (entry_at g j))

  this_free : (x : ℕ) → IsFreeIn next x → IsFreeIn g x
  this_free =
      free_less g next (ap (λ (m : GPT). m.header.first_usable_lba) is.1.2) (ap (λ (m : GPT). m.header.last_usable_lba) is.1.2) this_long
      (λ j low. end_by j (nat_eq i j) refl low)

one_end : (i : ℕ) (g next : GPT) (j : ℕ) → MayExtend i g next → 1 ≤ j → OnlyEnd (entry_at g j) (entry_at next j)
one_end i g next j (inl none) low = subst (λ (m : GPT). OnlyEnd (entry_at g j) (entry_at m j)) (sym none.0) (end_same (entry_at g j))
one_end i g next j (inr is) low = end_by i g next is j (nat_eq i j) refl low

one_other : (i : ℕ) (g next : GPT) (j : ℕ) → MayExtend i g next → 1 ≤ j → i ≢ j → entry_at next j ≡ entry_at g j
one_other i g next j (inl none) low other = ap (λ (m : GPT). entry_at m j) none.0
one_other i g next j (inr is) low other = this_other i g next is j low other

one_free : (i : ℕ) (g next : GPT) → MayExtend i g next → (x : ℕ) → IsFreeIn next x → IsFreeIn g x
one_free i g next (inl none) x free = subst (λ (m : GPT). IsFreeIn m x) none.0 free
one_free i g next (inr is) x free = this_free i g next is x free

one_same : {X : Type 0} (f : GPT → X) (stays : (g : GPT) (i : ℕ) (e : GPTPartitionEntry) → f (with_entry g i e) ≡ f g) (i : ℕ) (g next : GPT) → MayExtend i g next → f next ≡ f g
one_same f stays i g next (inl none) = ap f none.0
one_same f stays i g next (inr is) = ap f is.1.2 ∙ stays g i (record (entry_at g i) { ending_lba = is.1.0 })

-- ---- all are lengthened

pub extended_same : {X : Type 0} (f : GPT → X) (stays : (g : GPT) (i : ℕ) (e : GPTPartitionEntry) → f (with_entry g i e) ≡ f g) (is : List ℕ) (g last : GPT)
    → AreExtended is g last → f last ≡ f g
extended_same f stays [] g last is = ap f is
extended_same f stays (i ∷ is) g last all = extended_same f stays is all.0 last all.2 ∙ one_same f stays i g all.0 (may_extend i g all.0 all.1)

pub extended_ends : (is : List ℕ) (g last : GPT) → AreExtended is g last → (j : ℕ) → 1 ≤ j → OnlyEnd (entry_at g j) (entry_at last j)
extended_ends [] g last is j low = subst (λ (m : GPT). OnlyEnd (entry_at g j) (entry_at m j)) (sym is) (end_same (entry_at g j))
extended_ends (i ∷ is) g last all j low =
    end_more (entry_at g j) (entry_at all.0 j) (entry_at last j) (one_end i g all.0 j (may_extend i g all.0 all.1) low) (extended_ends is all.0 last all.2 j low)

pub extended_other : (is : List ℕ) (g last : GPT) → AreExtended is g last → (j : ℕ) → 1 ≤ j → (¬ IsAmong j is) → entry_at last j ≡ entry_at g j
extended_other [] g last is j low other = ap (λ (m : GPT). entry_at m j) is
extended_other (i ∷ is) g last all j low other =
    extended_other is all.0 last all.2 j low (λ among. other (inr among))
    ∙ one_other i g all.0 j (may_extend i g all.0 all.1) low (λ same. other (inl same))

pub extended_free : (is : List ℕ) (g last : GPT) → AreExtended is g last → (x : ℕ) → IsFreeIn last x → IsFreeIn g x
extended_free [] g last is x free = subst (λ (m : GPT). IsFreeIn m x) is free
extended_free (i ∷ is) g last all x free = one_free i g all.0 (may_extend i g all.0 all.1) x (extended_free is all.0 last all.2 x free)

-- ---- the furthest end

-- The entry cannot end later before a multiple of align.
abbrev pub IsSettled : (ℕ → Type 0) → ℕ → GPTPartitionEntry → Type 0
IsSettled free align e = e.starting_lba ≤ e.ending_lba → (t : ℕ) → align ∣ t + 1 → e.ending_lba < t → IsBlocked free e.ending_lba t

abbrev pub IsSettledAt : ℕ → GPT → Type 0
IsSettledAt i g = IsNumber g i → IsSettled (IsFreeIn g) g.align (entry_at g i)

abbrev pub AllSettled : List ℕ → GPT → Type 0
AllSettled [] g = Unit {0}
AllSettled (i ∷ is) g = IsSettledAt i g × AllSettled is g

pub settled_less : (free left : ℕ → Type 0) (align : ℕ) (e : GPTPartitionEntry) → ((x : ℕ) → left x → free x) → IsSettled free align e → IsSettled left align e
settled_less free left align e less settled = λ ordered t multiple above.
    let blocked = settled ordered t multiple above in
    (blocked.0, blocked.1, blocked.2, λ still. blocked.3 (less blocked.0 still))

past : (free left : ℕ → Type 0) (last end t : ℕ) → ((x : ℕ) → left x → free x) → AreFreeBehind free last end → IsBlocked free last t → IsBlocked left end t
past free left last end t less reached (x, above, within, taken) =
    elim (cases_lt end x) [
      | inl behind ↦ (x, behind, within, λ still. taken (less x still))
      | inr inside ↦ absurd (taken (reached x above inside))
    ]

module _ (free left : ℕ → Type 0) (align : ℕ) (e : GPTPartitionEntry) (end : ℕ) (less : (x : ℕ) → left x → free x) (is : IsFurthestEnd free align e.starting_lba e.ending_lba end) where
  settles_by : (end ≡ e.ending_lba) ⊎ ((e.starting_lba ≤ e.ending_lba) × (align ∣ end + 1) × AreFreeBehind free e.ending_lba end)
      → e.starting_lba ≤ end → (t : ℕ) → align ∣ t + 1 → end < t → IsBlocked left end t
  settles_by (inl same) ordered t multiple above =
      past free left e.ending_lba end t less (λ x over within. absurd (omega (arith, same, over, within))) (is.furthest (omega (arith, same, ordered)) t multiple above)
  settles_by (inr to) ordered t multiple above =
      past free left e.ending_lba end t less to.2 (is.furthest to.0 t multiple above)

  settles : IsSettled left align (record e { ending_lba = end })
  settles = λ ordered t multiple above. settles_by is.reached ordered t multiple above

  -- An entry that is settled is not lengthened.
  stays_by : IsSettled free align e → (end ≡ e.ending_lba) ⊎ ((e.starting_lba ≤ e.ending_lba) × (align ∣ end + 1) × AreFreeBehind free e.ending_lba end) → end ≡ e.ending_lba
  stays_by settled (inl same) = same
  stays_by settled (inr to) =
      elim (cases_lt e.ending_lba end) [
        | inl longer ↦
            let blocked = settled to.0 end to.1 longer in
            absurd (blocked.3 (to.2 blocked.0 blocked.1 blocked.2))
        | inr not_longer ↦ let kept = is.kept in omega (arith, kept, not_longer)
      ]

  stays_there : IsSettled free align e → end ≡ e.ending_lba
  stays_there settled = stays_by settled is.reached

settled_one : (i : ℕ) (g next : GPT) → MayExtend i g next → IsSettledAt i next
settled_one i g next (inl none) number = absurd (none.1 (subst (λ (m : GPT). IsNumber m i) none.0 number))
settled_one i g next (inr is) number =
    let align : g.align ≡ next.align = sym (ap (λ (m : GPT). m.align) is.1.2) in
    let settled : IsSettled (IsFreeIn next) g.align (record (entry_at g i) { ending_lba = is.1.0 }) =
    settles (IsFreeIn g) (IsFreeIn next) g.align (entry_at g i) is.1.0 (this_free i g next is) is.1.1 in
    subst (λ (n : ℕ). IsSettled (IsFreeIn next) n (entry_at next i)) align
    (subst (λ (e : GPTPartitionEntry). IsSettled (IsFreeIn next) g.align e) (sym (this_end i g next is)) settled)

settled_still_by : (i : ℕ) (g next : GPT) (j : ℕ) (b : Bool) → nat_eq i j ≡ b → MayExtend i g next → IsSettledAt j g → IsSettledAt j next
settled_still_by i g next j b which (inl none) settled = subst (λ (m : GPT). IsSettledAt j m) (sym none.0) settled
settled_still_by i g next j true same (inr is) settled = subst (λ (n : ℕ). IsSettledAt n next) (eqb-true i j same) (settled_one i g next (inr is))
settled_still_by i g next j false other (inr is) settled = λ number.
    let long = this_long i g next is in
    let here : IsNumber g j = (number.0, omega (arith, number.1, long)) in
    let align : g.align ≡ next.align = sym (ap (λ (m : GPT). m.align) is.1.2) in
    let less : IsSettled (IsFreeIn next) g.align (entry_at g j) = settled_less (IsFreeIn g) (IsFreeIn next) g.align (entry_at g j) (this_free i g next is) (settled here) in
    subst (λ (n : ℕ). IsSettled (IsFreeIn next) n (entry_at next j)) align
    (subst (λ (e : GPTPartitionEntry). IsSettled (IsFreeIn next) g.align e) (sym (this_other i g next is j number.0 (eqb-false i j other))) less)

settled_still : (is : List ℕ) (g last : GPT) (j : ℕ) → AreExtended is g last → IsSettledAt j g → IsSettledAt j last
settled_still [] g last j all settled = subst (λ (m : GPT). IsSettledAt j m) (sym all) settled
settled_still (i ∷ is) g last j all settled =
    settled_still is all.0 last j all.2 (settled_still_by i g all.0 j (nat_eq i j) refl (may_extend i g all.0 all.1) settled)

-- After all were lengthened, none of them can end later.
pub all_settled : (is : List ℕ) (g last : GPT) → AreExtended is g last → AllSettled is last
all_settled [] g last all = tt
all_settled (i ∷ is) g last all =
    (settled_still is all.0 last i all.2 (settled_one i g all.0 (may_extend i g all.0 all.1)), all_settled is all.0 last all.2)

pub settled_among : (is : List ℕ) (g : GPT) (j : ℕ) → AllSettled is g → IsAmong j is → IsSettledAt j g
settled_among [] g j all among = absurd among
settled_among (i ∷ is) g j all (inl same) = subst (λ (n : ℕ). IsSettledAt n g) same all.0
settled_among (i ∷ is) g j all (inr among) = settled_among is g j all.1 among

-- The same holds in a table with the same entries, bounds and alignment.
pub settled_as : (is : List ℕ) (g h : GPT) → entries_in h ≡ entries_in g → h.header.first_usable_lba ≡ g.header.first_usable_lba
    → h.header.last_usable_lba ≡ g.header.last_usable_lba → g.align ≡ h.align → AllSettled is g → AllSettled is h
settled_as [] g h same low high align all = tt
settled_as (i ∷ is) g h same low high align all = (
  λ number.
      let long : length (entries_in h) ≡ length (entries_in g) = ap (λ (es : List GPTPartitionEntry). length es) same in
      let at : entry_at g i ≡ entry_at h i = ap (λ (es : List GPTPartitionEntry). get_or es (i - 1) empty_entry) (sym same) in
      let settled : IsSettled (IsFreeIn h) g.align (entry_at g i) =
      settled_less (IsFreeIn g) (IsFreeIn h) g.align (entry_at g i) (free_as g h low high same) (all.0 (number.0, omega (arith, number.1, long))) in
      subst (λ (n : ℕ). IsSettled (IsFreeIn h) n (entry_at h i)) align (subst (λ (e : GPTPartitionEntry). IsSettled (IsFreeIn h) g.align e) at settled),
  settled_as is g h same low high align all.1,
)

-- If none can end later, lengthening them changes nothing.
idle_one : (i : ℕ) (g next : GPT) → MayExtend i g next → IsSettledAt i g → next ≡ g
idle_one i g next (inl none) settled = none.0
idle_one i g next (inr is) settled =
    let e : GPTPartitionEntry = entry_at g i in
    let same : is.1.0 ≡ e.ending_lba = stays_there (IsFreeIn g) (IsFreeIn g) g.align e is.1.0 (λ x free. free) is.1.1 (settled is.0) in
    is.1.2
    ∙ (ap (λ (n : ℕ). with_entry g i (record e { ending_lba = n })) same
    ∙ (λ k. record g { partitions = set-get_or (entries_in g) (i - 1) empty_entry k }))

pub idle : (is : List ℕ) (g last : GPT) → AllSettled is g → AreExtended is g last → last ≡ g
idle [] g last settled all = all
idle (i ∷ is) g last settled all =
    let same : all.0 ≡ g = idle_one i g all.0 (may_extend i g all.0 all.1) settled.0 in
    idle is g last settled.1 (subst (λ (m : GPT). AreExtended is m last) same all.2)

-- ---- how far

-- The end is the same, or is before a multiple of align and after free sectors.
abbrev Reaches : (ℕ → Type 0) → ℕ → ℕ → ℕ → ℕ → Type 0
Reaches free align first last end = (end ≡ last) ⊎ ((first ≤ last) × (align ∣ end + 1) × AreFreeBehind free last end)

free_to : (free : ℕ → Type 0) (align first last mid : ℕ) → Reaches free align first last mid → AreFreeBehind free last mid
free_to free align first last mid (inl same) = λ x above within. absurd (omega (arith, same, above, within))
free_to free align first last mid (inr to) = to.2

ordered_to : (free : ℕ → Type 0) (align first last mid : ℕ) → Reaches free align first last mid → first ≤ mid → first ≤ last
ordered_to free align first last mid (inl same) ordered = omega (arith, same, ordered)
ordered_to free align first last mid (inr to) ordered = to.0

reaches_more : (free left : ℕ → Type 0) (align first last mid end : ℕ) → ((x : ℕ) → left x → free x) → Reaches free align first last mid → Reaches left align first mid end
    → Reaches free align first last end
reaches_more free left align first last mid end less one (inl same) = subst (Reaches free align first last) (sym same) one
reaches_more free left align first last mid end less one (inr to) = inr (
  ordered_to free align first last mid one to.0,
  to.1,
  λ x above within. elim (cases_lt mid x) [
    | inl behind ↦ less x (to.2 x behind within)
    | inr inside ↦ free_to free align first last mid one x above inside
  ],
)

-- How far entry j reaches in another table.
abbrev ReachesIn : GPT → GPT → ℕ → Type 0
ReachesIn g next j = Reaches (IsFreeIn g) g.align (entry_at g j).starting_lba (entry_at g j).ending_lba (entry_at next j).ending_lba

reaches_one : (i : ℕ) (g next : GPT) (j : ℕ) (b : Bool) → nat_eq i j ≡ b → MayExtend i g next → 1 ≤ j → ReachesIn g next j
reaches_one i g next j b which (inl none) low = inl (ap (λ (m : GPT). (entry_at m j).ending_lba) none.0)
reaches_one i g next j false other (inr is) low = inl (ap (λ (e : GPTPartitionEntry). e.ending_lba) (this_other i g next is j low (eqb-false i j other)))
reaches_one i g next j true same (inr is) low =
    let end : (entry_at next i).ending_lba ≡ is.1.0 = ap (λ (e : GPTPartitionEntry). e.ending_lba) (this_end i g next is) in
    subst (λ (n : ℕ). ReachesIn g next n) (eqb-true i j same)
    (subst (Reaches (IsFreeIn g) g.align (entry_at g i).starting_lba (entry_at g i).ending_lba) (sym end) is.1.1.reached)

pub reaches_all : (is : List ℕ) (g last : GPT) → AreExtended is g last → (j : ℕ) → 1 ≤ j → ReachesIn g last j
reaches_all [] g last all j low = inl (ap (λ (m : GPT). (entry_at m j).ending_lba) all)
reaches_all (i ∷ is) g last all j low =
    let may = may_extend i g all.0 all.1 in
    let align : all.0.align ≡ g.align = one_same (λ (m : GPT). m.align) (λ m k e. refl) i g all.0 may in
    let start : (entry_at all.0 j).starting_lba ≡ (entry_at g j).starting_lba = ap (λ (e : GPTPartitionEntry). e.starting_lba) (one_end i g all.0 j may low).same in
    let rest : Reaches (IsFreeIn all.0) g.align (entry_at g j).starting_lba (entry_at all.0 j).ending_lba (entry_at last j).ending_lba =
    subst (λ (n : ℕ). Reaches (IsFreeIn all.0) g.align n (entry_at all.0 j).ending_lba (entry_at last j).ending_lba) start
    (subst (λ (n : ℕ). Reaches (IsFreeIn all.0) n (entry_at all.0 j).starting_lba (entry_at all.0 j).ending_lba (entry_at last j).ending_lba) align (reaches_all is all.0 last all.2 j low)) in
    reaches_more (IsFreeIn g) (IsFreeIn all.0) g.align (entry_at g j).starting_lba (entry_at g j).ending_lba (entry_at all.0 j).ending_lba (entry_at last j).ending_lba
    (one_free i g all.0 may) (reaches_one i g all.0 j (nat_eq i j) refl may low) rest

-- An entry that gets the rest is lengthened as far as possible.
module _ (is : List ℕ) (g last next : GPT) (all : AreExtended is g last) (same : entries_in next ≡ entries_in last) (low : next.header.first_usable_lba ≡ last.header.first_usable_lba)
    (high : next.header.last_usable_lba ≡ last.header.last_usable_lba) (i : ℕ) (number : IsNumber next i) (among : IsAmong i is) where
  here : entry_at last i ≡ entry_at next i
  here = ap (λ (es : List GPTPartitionEntry). get_or es (i - 1) empty_entry) (sym same)

  only : OnlyEnd (entry_at g i) (entry_at next i)
  only = subst (λ (e : GPTPartitionEntry). OnlyEnd (entry_at g i) e) here (extended_ends is g last all i number.0)

  settled : IsSettled (IsFreeIn next) g.align (entry_at next i)
  settled =
      let long : length (entries_in next) ≡ length (entries_in last) = ap (λ (es : List GPTPartitionEntry). length es) same in
      let at : IsNumber last i = (number.0, omega (arith, number.1, long)) in
      let align : last.align ≡ g.align = extended_same (λ (m : GPT). m.align) (λ m k e. refl) is g last all in
      let there : IsSettled (IsFreeIn last) last.align (entry_at last i) = settled_among is last i (all_settled is g last all) among at in
      settled_less (IsFreeIn last) (IsFreeIn next) g.align (entry_at next i) (free_as last next low high same)
      (subst (λ (e : GPTPartitionEntry). IsSettled (IsFreeIn last) g.align e) here (subst (λ (n : ℕ). IsSettled (IsFreeIn last) n (entry_at last i)) align there))

  pub is_lengthened : IsLengthened g.align (entry_at g i) (entry_at next i) (IsFreeIn g) (IsFreeIn (with_entry next i empty_entry))
  is_lengthened =
      let start : (entry_at next i).starting_lba ≡ (entry_at g i).starting_lba = ap (λ (e : GPTPartitionEntry). e.starting_lba) only.same in
      let kept = only.kept in
      record {
        start = start;
        end = kept;
        reached = subst (λ (e : GPTPartitionEntry). Reaches (IsFreeIn g) g.align (entry_at g i).starting_lba (entry_at g i).ending_lba e.ending_lba) here
            (reaches_all is g last all i number.0);
        furthest = λ ordered t multiple above.
            let blocked = settled (omega (arith, start, kept, ordered)) t multiple above in (
              blocked.0,
              omega (arith, kept, blocked.1),
              blocked.2,
              λ free. blocked.3 (free_behind next i blocked.0 number.0 blocked.1 free),
            );
      }

-- ---- the requests, one by one

rest_by : (b : Bool) (n : ℕ) (numbers : List ℕ) (g mid last : GPT) → b ≡ true → IsExtended n g mid → AreExtended numbers mid last → AreExtended (if b then n ∷ numbers else numbers) g last
rest_by true n numbers g mid last is one all = (mid, one, all)
rest_by false n numbers g mid last is one all = absurd (cc)

none_by : (b : Bool) (n : ℕ) (numbers : List ℕ) (g last : GPT) → b ≡ false → AreExtended numbers g last → AreExtended (if b then n ∷ numbers else numbers) g last
none_by true n numbers g last is all = absurd (cc)
none_by false n numbers g last is all = all

module _ (asked : List Asked) (ps : List ResolvedPartition) (i : ℕ) (a : Asked) (p : ResolvedPartition) (below : i < length asked) (within : i < length ps) where
  abbrev later : List ℕ
  later = rest_numbers (drop (i + 1) asked) (drop (i + 1) ps)

  numbers_more : rest_numbers (drop i asked) (drop i ps) ≡ (if asks_rest (get_or asked i a).size then (get_or ps i p).number ∷ later else later)
  numbers_more = λ k. rest_numbers (drop_more asked i a below k) (drop_more ps i p within k)

  pub more_extended : (g mid last : GPT) → asks_rest (get_or asked i a).size ≡ true → IsExtended (get_or ps i p).number g mid → AreExtended later mid last
      → AreExtended (rest_numbers (drop i asked) (drop i ps)) g last
  more_extended g mid last is one all =
      subst (λ (numbers : List ℕ). AreExtended numbers g last) (sym numbers_more) (rest_by (asks_rest (get_or asked i a).size) (get_or ps i p).number later g mid last is one all)

  pub none_extended : (g last : GPT) → asks_rest (get_or asked i a).size ≡ false → AreExtended later g last → AreExtended (rest_numbers (drop i asked) (drop i ps)) g last
  none_extended g last is all =
      subst (λ (numbers : List ℕ). AreExtended numbers g last) (sym numbers_more) (none_by (asks_rest (get_or asked i a).size) (get_or ps i p).number later g last is all)
