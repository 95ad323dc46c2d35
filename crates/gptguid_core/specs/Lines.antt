-- The lines that are printed for words.
use Rattle.std.specs.Prelude.{◌≡◌, ℕ, List, [], ◌∷◌, ◌++◌, codes, flat_map, if◌then◌else◌, length, map, IfOk, OnOk, Option, Some, None, Result, String, string_bytes}
use Rattle.std.specs.Io.KnownBytes.{Appends}
use Rattle.std.specs.Str.{bytes_eq}
use Rattle.gptguid_core.specs.Forms.{digits_form, guid_of_digits, guid_of_text, random_form, text_form}
use Rattle.gptguid_core.specs.Types.{guid_of_name, guid_of_number, types}

-- The bytes of each word.
abbrev pub texts_of : {A : Type 0} → List (String A) → List (List ℕ)
texts_of words = map string_bytes words

-- The lines with the digits of a GUID and with its text.
abbrev pub digits_line : List ℕ → List ℕ
digits_line guid = digits_form guid ++ codes "\n"

abbrev pub text_line : List ℕ → List ℕ
text_line guid = text_form guid ++ codes "\n"

-- The line of a type: its name, its digits and its text.
abbrev pub type_line : List ℕ × ℕ → List ℕ
type_line t = t.0 ++ codes " " ++ digits_form (guid_of_number t.1) ++ codes " " ++ text_line (guid_of_number t.1)

abbrev pub type_lines : List (List ℕ × ℕ) → List ℕ
type_lines ts = flat_map type_line ts

-- The GUID of a text or of a name.
abbrev pub guid_of_word : List ℕ → Option (List ℕ)
guid_of_word word = elim (guid_of_text word) [
  | Some guid ↦ Some guid
  | None ↦ guid_of_name word
]

-- The status and the output for a word: digits are printed as text, and a text or a name as digits.
abbrev pub named_answer : Option (List ℕ) → ℕ × List ℕ
named_answer (Some guid) = (0, digits_line guid)
named_answer None = (1, codes "fault: InvalidGUID\n")

abbrev pub word_answer : List ℕ → Option (List ℕ) → ℕ × List ℕ
word_answer word (Some guid) = (0, text_line guid)
word_answer word None = named_answer (guid_of_word word)

-- The exit status and the output, unless the word is `random`.
abbrev pub answer_to : List (List ℕ) → ℕ × List ℕ
answer_to (word ∷ []) =
    if bytes_eq word (codes "list") then (0, type_lines types) else word_answer word (guid_of_digits word)
answer_to _ = (2, codes "usage: gptguid TEXT | DIGITS | NAME | random | list\n")

-- The status and the output for bytes from the source: the digits of the random GUID that 16 bytes make, or that the
-- source failed.
abbrev pub random_answer : Option (List ℕ) → ℕ × List ℕ
random_answer (Some bytes) = (0, digits_line (random_form bytes))
random_answer None = (1, codes "fault: Io\n")

-- One call of a source returned these 16 bytes, or failed. The first two arguments are what the source says of a
-- successful and of a failed call.
abbrev pub Draws : (List ℕ → Type 0) → Type 0 → Option (List ℕ) → Type 0
Draws gives fails (Some bytes) = (length bytes ≡ 16) × gives bytes
Draws gives fails None = fails

-- The source was called once, and its result was printed. An error of the output hides only that result.
abbrev pub PrintsRandom : {E : Type 0} → (List ℕ → Type 0) → Type 0 → Option (List ℕ) → Option (List ℕ) → Result ℕ E → Type 0
PrintsRandom gives fails from to result =
    (drawn : Option (List ℕ)) × Draws gives fails drawn
    × IfOk result (λ status. status ≡ (random_answer drawn).0)
    × OnOk result (Appends from to (random_answer drawn).1)
