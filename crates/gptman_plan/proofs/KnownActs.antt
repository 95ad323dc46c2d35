-- Acts that change only known ranges write only in the ends.
use Rattle.std.proofs.Common.{◌≡◌, inl, inr, ⊎_elim, ◌<◌, ◌≤◌, ℕ, suc, ◌+◌, ◌-◌, List, [], ◌∷◌, ◌++◌, length, get_or, take, drop, sym, ◌∙◌, ap, arith, length-append, length-take, length-drop}
use Rattle.std.specs.List.{fold}
use Rattle.std.proofs.lemmas.Bool.{cases_lt}
use Rattle.gptman.specs.Disk.{Outside, AgreesOutside, overlay}
use Rattle.gptman.proofs.Ranges.{Ranges, agrees_self}
use Rattle.gptman.proofs.Overlays.{length-overlay, overlay_above, overlay_below, overlay_inside}
use Rattle.gptman_plan.specs.Ends.{IsKnown, AreRangesKnown}
use Rattle.gptman_plan.specs.Plan.{Act, LeftBy, pending_with, bytes_with}
use Rattle.gptman_plan.specs.Plan.Act.{put, store}
use Rattle.gptman_plan.proofs.Middle.{AreKnown, IsActKnown, cases_middle, clear, middle_of}

-- bytes that overwrite a list without changing its length are within it
fits_put : (old : List ℕ) (at : ℕ) (bytes : List ℕ) → length (overlay old at bytes) ≡ length old → 0 < length bytes → at + length bytes ≤ length old
fits_put old at bytes same some = omega (
  arith,
  same,
  some,
  length-append (take at old ++ bytes) (drop (at + length bytes) old),
  length-append (take at old) bytes,
  length-take at old,
  length-drop (at + length bytes) old,
)

-- a crash may leave any other value in a pending byte
changed : (view : List ℕ) (pending : Ranges) (at n k x : ℕ) → at ≤ k → k < at + n → at + n ≤ length view → AgreesOutside ((at, n) ∷ pending) view (overlay view k (x ∷ []))
changed view pending at n k x low high fits = record {
  long = length-overlay view k (x ∷ []) room;
  same = λ j out. ⊎_elim
      (λ below. overlay_below view k (x ∷ []) room j (omega (arith, below, low)))
      (λ above. overlay_above view k (x ∷ []) room j (omega (arith, above, high)))
      out.0;
}
  where
    room : k + length (x ∷ []) ≤ length view
    room = omega (arith, high, fits)

changed_at : (view : List ℕ) (k x : ℕ) → k < length view → get_or (overlay view k (x ∷ [])) k 0 ≡ x
changed_at view k x below =
    let first : k - k ≡ 0 = omega arith in
    overlay_inside view k (x ∷ []) (omega (arith, below)) k (omega arith) (omega arith) ∙ ap (λ (i : ℕ). get_or (x ∷ []) i 0) first

module _ (first last size : ℕ) (apart : first + last ≤ size) where
  -- a byte of the middle is in no known range
  outside_known : (rs : Ranges) (k : ℕ) → AreRangesKnown first last size rs → first ≤ k → k < first + (size - (first + last)) → Outside rs k
  outside_known [] k known low high = tt
  outside_known (r ∷ rs) k known low high = (clear first last size apart k low high r known.0, outside_known rs k known.1 low high)

  -- a range without a byte of the middle is known
  known_range : (at n : ℕ) → 0 < n → at + n ≤ size → ((k : ℕ) → at ≤ k → k < at + n → Outside (middle_of first last size) k) → IsKnown first last size (at, n)
  known_range at n some fits each = ⊎_elim
      (λ before. ⊎_elim
      (λ crosses. ⊎_elim
      (λ never. absurd (omega (arith, never)))
      (λ met. inr (inr (omega (arith, met), fits)))
      (each first (omega (arith, before)) crosses).0)
      (λ inside. inl inside)
      (cases_lt first (at + n)))
      (λ behind. inr (inl (omega (arith, behind, apart), fits)))
      (each at (omega arith) (omega (arith, some))).0

  module _ (start : List ℕ) (long : length start ≡ size) (ranges : Ranges) (places : AreRangesKnown first last size ranges) where
    -- a byte that may change is known, if only known ranges may change
    byte_known : (view : List ℕ) (pending : Ranges) (at n : ℕ) → length view ≡ size → at + n ≤ size
        → ((x : List ℕ) → AgreesOutside ((at, n) ∷ pending) view x → AgreesOutside ranges start x) → (k : ℕ) → at ≤ k → k < at + n → Outside (middle_of first last size) k
    byte_known view pending at n whole fits keeps k low high = ⊎_elim
        (λ out. out)
        (λ mid.
        let other : ℕ = get_or start k 0 + 1 in
        let left : AgreesOutside ranges start (overlay view k (other ∷ [])) = keeps (overlay view k (other ∷ [])) (changed view pending at n k other low high (omega (arith, fits, whole))) in
        let is : get_or (overlay view k (other ∷ [])) k 0 ≡ other = changed_at view k other (omega (arith, high, fits, whole)) in
        let was : get_or (overlay view k (other ∷ [])) k 0 ≡ get_or start k 0 = left.same k (outside_known ranges k places mid.0 mid.1) in
        absurd (omega (arith, is, was)))
        (cases_middle first last size apart k)

    act_known : (view : List ℕ) (pending : Ranges) (e : Act) → length view ≡ size → length (bytes_with view e) ≡ size
        → ((x : List ℕ) → AgreesOutside (pending_with pending e) (bytes_with view e) x → AgreesOutside ranges start x) → IsActKnown first last size e
    act_known view pending (put at []) whole after keeps = tt
    act_known view pending (put at (y ∷ bytes)) whole after keeps =
        let fits : at + length (y ∷ bytes) ≤ length view = fits_put view at (y ∷ bytes) (after ∙ sym whole) (omega arith) in
        known_range at (length (y ∷ bytes)) (omega arith) (omega (arith, fits, whole))
        (byte_known (overlay view at (y ∷ bytes)) pending at (length (y ∷ bytes)) after (omega (arith, fits, whole)) keeps)
    act_known view pending store whole after keeps = tt

    acts_known : (view : List ℕ) (pending : Ranges) (acts : List Act)
        → ((n : ℕ) (x : List ℕ) → n ≤ length acts → AgreesOutside (fold pending_with pending (take n acts)) (fold bytes_with view (take n acts)) x → AgreesOutside ranges start x)
        → AreKnown first last size acts
    acts_known view pending [] keeps = tt
    acts_known view pending (e ∷ acts) keeps =
        let before : AgreesOutside ranges start view = keeps 0 view (omega arith) (agrees_self pending view) in
        let after : AgreesOutside ranges start (bytes_with view e) = keeps 1 (bytes_with view e) (omega arith) (agrees_self (pending_with pending e) (bytes_with view e)) in (
          act_known view pending e (before.long ∙ long) (after.long ∙ long) (λ x image. keeps 1 x (omega arith) image),
          acts_known (bytes_with view e) (pending_with pending e) acts (λ n x le image. keeps (suc n) x (omega (arith, le)) image),
        )

    pub are_known : (acts : List Act) → ((x : List ℕ) → LeftBy start acts x → AgreesOutside ranges start x) → AreKnown first last size acts
    are_known acts keeps = acts_known start [] acts (λ n x le image. keeps x (record { after = n; among = le; image = image }))
