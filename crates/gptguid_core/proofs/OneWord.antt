-- One word other than `list`.
use Rattle.std.proofs.Common.{◌≡◌, ◌∙◌, ◌<◌, ◌≤◌, ℕ, List, [], ◌∷◌, Bool, true, false, if◌then◌else◌, length, slice_index_or, arith, refl, sym, ap}
use Rattle.std.proofs.lemmas.Slice.Eq.{bytes_eq-Decides}
use Rattle.std.specs.Bool.{Decides}
use Rattle.std.specs.Prelude.{String, codes, string_bytes}
use Rattle.std.specs.Str.{bytes_eq}
use Rattle.gptguid_core.specs.Forms.{guid_of_digits}
use Rattle.gptguid_core.specs.Lines.{answer_to, texts_of, type_lines, word_answer}
use Rattle.gptguid_core.specs.Types.{types}

pub only_word : {A : Type 0} (words : List (String A)) (word : String A) (text : List ℕ) → 1 ≤ length words → length words < 2
    → word ≡ slice_index_or words 0 word → text ≡ string_bytes word → texts_of words ≡ text ∷ []
only_word [] word text some few is bytes = absurd (omega (arith, some))
only_word (w ∷ []) word text some few is bytes = ap (λ t. t ∷ []) (sym (bytes ∙ ap string_bytes is))
only_word (w ∷ v ∷ rest) word text some few is bytes = absurd (omega (arith, few))

unlisted : (b : Bool) (P : Type 0) (l w : ℕ × List ℕ) → Decides b P → (P → ⊥) → (if b then l else w) ≡ w
unlisted true P l w decides not = absurd (not (decides.0 refl))
unlisted false P l w decides not = refl

-- The output for a word other than `list`.
pub other_word : (text : List ℕ) → (text ≡ codes "list" → ⊥) → answer_to (text ∷ []) ≡ word_answer text (guid_of_digits text)
other_word text not =
    unlisted (bytes_eq text (codes "list")) (text ≡ codes "list") (0, type_lines types) (word_answer text (guid_of_digits text))
    (bytes_eq-Decides text (codes "list")) not
