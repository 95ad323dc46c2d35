-- Ranges that are cleared.
use Rattle.std.proofs.Common.{◌≡◌, ◌≤◌, ◌<◌, ◌⊎◌, ⊎_elim, ◌∙◌, ◌+◌, ◌-◌, ◌*◌, ℕ, zero, suc, List, [], ◌∷◌, ◌++◌, length, get_or, take, drop, replicate, inl, inr, sym, subst, refl, ap, arith, Option, Some, None, Result, Ok, Err}
use Rattle.std.specs.Prelude.{◌≢◌, ◌↔◌, ◌/◌, Bool, nat_eq, IsTrue, OnOk, SomeIff}
use Rattle.std.specs.Option.{option_eq}
use Rattle.std.proofs.Common.{eq-eqb}
use Rattle.std.proofs.lemmas.Bool.Decides.{eqb_tells}
use native.Mathlib.Nat.{add-mul, mul-le-mul_right, one-mul}
use Rattle.std.proofs.lemmas.Bool.{cases_lt, false≢true}
use Rattle.std.proofs.lemmas.List.{get_or_past, length-take-le}
use Rattle.gptman.specs.Disk.{overlay, AgreesOutside, DiskState, Outside, Within, Writes}
use Rattle.gptman.specs.Ranges.{Inside}
use Rattle.gptedit_look.specs.declared.raw.RawHeader.{RawHeader}
use Rattle.gptman.proofs.Overlays.{overlay_inside}
use Rattle.gptman.proofs.Runs.{wrote_then}
use Rattle.gptedit_look.specs.Guard.{IsIn}
use Rattle.gptedit_look.specs.Wiped.{ranges_in, Adds, AreZeros, EndsBefore, HasUsualEntries, IsCleared, IsOfSignature}
use Rattle.gptedit_look.specs.declared.signatures.Signature.{Signature}
use Rattle.gptedit_look.specs.declared.zeros.Zeroed.{Zeroed}
use Rattle.gptedit_look.proofs.Spared.{in_or_out}

-- adding one range
pub inside_push : (rs : List Zeroed) (r : Zeroed) (k : ℕ) → Inside (ranges_in (rs ++ r ∷ [])) k ↔ (Inside (ranges_in rs) k ⊎ IsIn r.start r.length k)
inside_push [] r k = (λ h. ⊎_elim (λ x. inr x) (λ no. absurd no) h, λ h. ⊎_elim (λ no. absurd no) (λ x. inl x) h)
inside_push (s ∷ rs) r k =
    let more = inside_push rs r k in (
      λ h. ⊎_elim (λ x. inl (inl x)) (λ x. ⊎_elim (λ y. inl (inr y)) (λ y. inr y) (more.0 x)) h,
      λ h. ⊎_elim (λ x. ⊎_elim (λ y. inl y) (λ y. inr (more.1 (inl y))) x) (λ x. inr (more.1 (inr x))) h,
    )

pub adds_range : (rs new : List Zeroed) (start n : ℕ) (r : Zeroed) → r.start ≡ start → r.length ≡ n → new ≡ rs ++ r ∷ [] → Adds (IsIn start n) rs new
adds_range rs new start n r at long is =
    let same : (k : ℕ) → IsIn r.start r.length k → IsIn start n k = λ k h. (omega (arith, at, h.0), omega (arith, at, long, h.1)) in
    let back : (k : ℕ) → IsIn start n k → IsIn r.start r.length k = λ k h. (omega (arith, at, h.0), omega (arith, at, long, h.1)) in
    subst (λ (xs : List Zeroed). Adds (IsIn start n) rs xs) (sym is) (record {
      only = λ k h. ⊎_elim (λ x. inl x) (λ x. inr (same k x)) ((inside_push rs r k).0 h);
      kept = λ k h. (inside_push rs r k).1 (inl h);
      all = λ k fits h. (inside_push rs r k).1 (inr (back k h));
    })

-- a signature in the rest of a list is in the list
pub signature_drop : (i : ℕ) (signatures : List Signature) (k : ℕ) → IsOfSignature k (drop i signatures) → IsOfSignature k signatures
signature_drop zero signatures k h = h
signature_drop (suc i) [] k h = h
signature_drop (suc i) (s ∷ signatures) k h = inr (signature_drop i signatures k h)

pub outside_drop : (i : ℕ) (rs : List Zeroed) (k : ℕ) → Outside (ranges_in rs) k → Outside (ranges_in (drop i rs)) k
outside_drop zero rs k out = out
outside_drop (suc i) [] k out = out
outside_drop (suc i) (r ∷ rs) k out = outside_drop i rs k out.1

-- a range of a list is within the list
pub within_all : (i : ℕ) (rs more : List Zeroed) (r : Zeroed) → drop i rs ≡ r ∷ more → Within ((r.start, r.length) ∷ []) (ranges_in rs)
within_all i rs more r is = record {
  covers = λ k out.
      let rest : Outside (ranges_in (r ∷ more)) k = subst (λ (xs : List Zeroed). Outside (ranges_in xs) k) is (outside_drop i rs k out) in
      (rest.0, tt);
}

-- zeros stay zero when a range is zeroed
pub zero_stays : (start n : ℕ) (a b : List ℕ) → AgreesOutside ((start, n) ∷ []) a b → AreZeros start n b → (k : ℕ) → get_or a k 0 ≡ 0 → get_or b k 0 ≡ 0
zero_stays start n a b agrees zeros k was = ⊎_elim (λ here. zeros k here) (λ out. agrees.same k (out, tt) ∙ was) (in_or_out start n k)

-- each range before i is zeroed
abbrev pub AreSet : List Zeroed → List Zeroed → List ℕ → Type 0
AreSet rs rest b = (k : ℕ) → Inside (ranges_in rs) k → Inside (ranges_in rest) k ⊎ (get_or b k 0 ≡ 0)

pub set_more : (rs more rest : List Zeroed) (r : Zeroed) (a b : List ℕ) → rest ≡ r ∷ more → AgreesOutside ((r.start, r.length) ∷ []) a b → AreZeros r.start r.length b
    → AreSet rs rest a → AreSet rs more b
set_more rs more rest r a b is agrees zeros set k inside =
    ⊎_elim
    (λ here. let there : Inside (ranges_in (r ∷ more)) k = subst (λ (xs : List Zeroed). Inside (ranges_in xs) k) is here in
    ⊎_elim (λ x. inr (zeros k x)) (λ x. inl x) there)
    (λ was. inr (zero_stays r.start r.length a b agrees zeros k was)) (set k inside)

-- m zeros
abbrev pub zeros : ℕ → List ℕ
zeros m = replicate m 0

-- the first n of m zeros are zero
pub zeros_are : (n m k : ℕ) → get_or (take n (zeros m)) k 0 ≡ 0
zeros_are zero m k = refl
zeros_are (suc n) zero k = refl
zeros_are (suc n) (suc m) zero = refl
zeros_are (suc n) (suc m) (suc k) = zeros_are n m k

-- zeros written over bytes
pub zeros_written : (old new bytes : List ℕ) (position at n : ℕ) → position ≡ at → length bytes ≡ n → at + n ≤ length old → ((k : ℕ) → get_or bytes k 0 ≡ 0)
    → new ≡ overlay old position bytes → AreZeros at n new
zeros_written old new bytes position at n is long fits zeros laid k here =
    let room : position + length bytes ≤ length old = omega (arith, is, long, fits) in
    let low : position ≤ k = omega (arith, is, here.0) in
    let high : k < position + length bytes = omega (arith, is, long, here.1) in
    ap (λ (b : List ℕ). get_or b k 0) laid ∙ overlay_inside old position bytes room k low high ∙ zeros (k - position)

-- entries of this many sectors, right before a sector, end before it
pub ends_before : (sector first n ss sectors : ℕ) → n ≤ sectors * ss → sectors * ss < n + ss → first + sectors ≡ sector → EndsBefore sector first n ss
ends_before sector first n ss sectors low high is =
    let all : sector * ss ≡ first * ss + sectors * ss = ap (λ (x : ℕ). x * ss) (sym is) ∙ add-mul first sectors ss in
    (omega (arith, all, low), omega (arith, all, high))

-- the converse
pub ends_only : (sector first n ss sectors : ℕ) → n ≤ sectors * ss → sectors * ss < n + ss → EndsBefore sector first n ss → first + sectors ≡ sector
ends_only sector first n ss sectors low high ends =
    let all : (first + sectors) * ss ≡ first * ss + sectors * ss = add-mul first sectors ss in
    ⊎_elim (λ (lt : first + sectors < sector).
    let le : first + sectors + 1 ≤ sector = omega (arith, lt) in
    let up : (first + sectors + 1) * ss ≤ sector * ss = mul-le-mul_right ss le in
    let more : (first + sectors + 1) * ss ≡ (first + sectors) * ss + 1 * ss = add-mul (first + sectors) 1 ss in
    let one : 1 * ss ≡ ss = one-mul ss in
    absurd (omega (arith, all, up, more, one, low, high, ends.1)))
    (λ (ge : sector ≤ first + sectors). ⊎_elim (λ (lt : sector < first + sectors).
    let le : sector + 1 ≤ first + sectors = omega (arith, lt) in
    let up : (sector + 1) * ss ≤ (first + sectors) * ss = mul-le-mul_right ss le in
    let more : (sector + 1) * ss ≡ sector * ss + 1 * ss = add-mul sector 1 ss in
    let one : 1 * ss ≡ ss = one-mul ss in
    absurd (omega (arith, all, up, more, one, low, high, ends.0)))
    (λ (le : first + sectors ≤ sector). omega (arith, ge, le)) (cases_lt sector (first + sectors))) (cases_lt (first + sectors) sector)

-- a list of signatures, added one by one
pub signature_added : (signatures more : List Signature) (old now new : List Zeroed) (i : ℕ) (s : Signature) (r : Zeroed) → drop i signatures ≡ s ∷ more
    → r.start ≡ s.at → r.length ≡ 8 → new ≡ now ++ r ∷ []
    → ((k : ℕ) → Inside (ranges_in now) k → Inside (ranges_in old) k ⊎ IsOfSignature k signatures)
    → (k : ℕ) → Inside (ranges_in new) k → Inside (ranges_in old) k ⊎ IsOfSignature k signatures
signature_added signatures more old now new i s r rest at long is only k inside =
    let here : Inside (ranges_in (now ++ r ∷ [])) k = subst (λ (xs : List Zeroed). Inside (ranges_in xs) k) is inside in
    ⊎_elim (λ x. only k x)
    (λ x. inr (signature_drop i signatures k (subst (λ (xs : List Signature). IsOfSignature k xs) (sym rest) (inl (omega (arith, at, x.0), omega (arith, at, long, x.1))))))
    ((inside_push now r k).0 here)

pub signature_all : (signatures more : List Signature) (now new : List Zeroed) (i : ℕ) (s : Signature) (r : Zeroed) → drop i signatures ≡ s ∷ more
    → r.start ≡ s.at → r.length ≡ 8 → new ≡ now ++ r ∷ []
    → ((k : ℕ) → IsOfSignature k signatures → IsOfSignature k (drop i signatures) ⊎ Inside (ranges_in now) k)
    → (k : ℕ) → IsOfSignature k signatures → IsOfSignature k more ⊎ Inside (ranges_in new) k
signature_all signatures more now new i s r rest at long is all k h =
    let at_new : Inside (ranges_in (now ++ r ∷ [])) k → Inside (ranges_in new) k = λ x. subst (λ (xs : List Zeroed). Inside (ranges_in xs) k) (sym is) x in
    ⊎_elim
    (λ x. let there : IsOfSignature k (s ∷ more) = subst (λ (xs : List Signature). IsOfSignature k xs) rest x in
    ⊎_elim (λ y. inr (at_new ((inside_push now r k).1 (inr (omega (arith, at, y.0), omega (arith, at, long, y.1)))))) (λ y. inl y) there)
    (λ x. inr (at_new ((inside_push now r k).1 (inl x)))) (all k h)

pub signature_kept : (old now new : List Zeroed) (r : Zeroed) → new ≡ now ++ r ∷ []
    → ((k : ℕ) → Inside (ranges_in old) k → Inside (ranges_in now) k) → (k : ℕ) → Inside (ranges_in old) k → Inside (ranges_in new) k
signature_kept old now new r is kept k h = subst (λ (xs : List Zeroed). Inside (ranges_in xs) k) (sym is) ((inside_push now r k).1 (inl (kept k h)))

-- an implication after Ok
pub on_ok_as : {T E P R : Type 0} → (r : Result T E) → OnOk r P → (P → R) → OnOk r R
on_ok_as (Ok x) p f = f p
on_ok_as (Err e) p f = tt

pub wiped_cleared : (P : ℕ → Type 0) (rs : List Zeroed) (disk : DiskState) → Adds P [] rs → length disk.view < 18446744073709551616
    → IsCleared (Inside (ranges_in rs)) disk → IsCleared P disk
wiped_cleared P rs disk adds small cleared = record {
  zero = λ k h. ⊎_elim (λ (fits : k < 18446744073709551616). cleared.zero k (adds.all k fits h))
      (λ (far : 18446744073709551616 ≤ k). let past : length disk.view ≤ k = omega (arith, small, far) in get_or_past disk.view k 0 past) (cases_lt k 18446744073709551616);
  synced = cleared.synced;
}

-- n of 512 zeros
pub zeros_part : (n : ℕ) → n ≤ 512 → length (take n (zeros 512)) ≡ n
zeros_part n few = length-take-le n (zeros 512) few

-- one more range of a list
pub clear_wrote : {a b c : DiskState} (rs : List Zeroed) (i : ℕ) (r : Zeroed) → drop i rs ≡ r ∷ drop (i + 1) rs → Writes ((r.start, r.length) ∷ []) b c
    → Writes (ranges_in rs) a b → Writes (ranges_in rs) a c
clear_wrote rs i r is next before honest = let ab = before honest in wrote_then (within_all i rs (drop (i + 1) rs) r is) ab (next ab.honest)

-- the test of usual entries, for a header that is not in sector 1
pub usual_iff : (h : RawHeader) (ss sectors : ℕ) (sub : Option ℕ) (result : Bool) → h.count ≤ 32768 → h.entry_size ≡ 128 → 1 < h.entries_lba → h.at / ss ≢ 1
    → 128 * h.count ≤ sectors * ss → sectors * ss < 128 * h.count + ss → SomeIff sub (sectors ≤ h.at / ss) (h.at / ss - sectors)
    → result ≡ option_eq nat_eq sub (Some h.entries_lba) → IsTrue result ↔ HasUsualEntries h ss
usual_iff h ss sectors None result few size behind other low high sub is = (
  λ yes. absurd (false≢true (sym is ∙ yes)),
  λ usual. absurd (sub (⊎_elim (λ (first : (h.at / ss ≡ 1) × (h.entries_lba ≡ 2)). absurd (other first.0))
      (λ (x : (h.at / ss ≢ 1) × EndsBefore (h.at / ss) h.entries_lba (128 * h.count) ss).
      let sum : h.entries_lba + sectors ≡ h.at / ss = ends_only (h.at / ss) h.entries_lba (128 * h.count) ss sectors low high x.1 in omega (arith, sum)) usual.place)),
)
usual_iff h ss sectors (Some x) result few size behind other low high sub is = (
  λ yes. let same : x ≡ h.entries_lba = ⊎_elim (λ t. t.1) (λ f. absurd (false≢true (sym f.0 ∙ sym is ∙ yes))) (eqb_tells x h.entries_lba) in
      record {
        few = few;
        entry_size = size;
        behind = omega (arith, behind);
        place = inr (other, ends_before (h.at / ss) h.entries_lba (128 * h.count) ss sectors low high (omega (arith, same, sub.0, sub.1)));
      },
  λ usual. is ∙ eq-eqb x h.entries_lba (⊎_elim (λ (first : (h.at / ss ≡ 1) × (h.entries_lba ≡ 2)). absurd (other first.0))
      (λ (y : (h.at / ss ≢ 1) × EndsBefore (h.at / ss) h.entries_lba (128 * h.count) ss).
      let sum : h.entries_lba + sectors ≡ h.at / ss = ends_only (h.at / ss) h.entries_lba (128 * h.count) ss sectors low high y.1 in omega (arith, sum, sub.0, sub.1)) usual.place),
)
