-- The meaning of words.
use Rattle.std.specs.Prelude.{◌≡◌, ◌≢◌, ◌==◌, ◌<◌, ◌≤◌, ◌⊎◌, ℕ, ◌*◌, ◌^◌, List, [], ◌∷◌, ◌++◌, All, Contains, Option, None, Some, Result, Ok, Err, codes, flat_map, length, if◌then◌else◌}
use Rattle.std.specs.Char.Escape.{encode_utf16}
use Rattle.std.specs.Int.{bit_at}
use Rattle.std.specs.List.{Any, slice_split}
use Rattle.std.specs.Str.{bytes_eq, chars}
use Rattle.std.specs.Option.{ok_or}
use Rattle.std.specs.Str.Parse.{digits_value, IsNumeral}
use Rattle.gptguid_core.specs.Forms.{guid_of_text}
use Rattle.gptguid_core.specs.OtherTypes.{guid_of_any_name}
use Rattle.gptedit_core.specs.declared.amount.Amount.{Amount}
use Rattle.gptedit_core.specs.declared.amount.Amount.TheVariants.{Sectors, Bytes}
use Rattle.gptedit_core.specs.declared.asked.Size.{Size}
use Rattle.gptedit_core.specs.declared.asked.Size.TheVariants.{Exactly, Rest}
use Rattle.gptedit_core.specs.declared.asked.Choice.{Choice}
use Rattle.gptedit_core.specs.declared.asked.Choice.TheVariants.{First, Last, Best}
use Rattle.gptedit_core.specs.declared.target.Target.{Target}
use Rattle.gptedit_core.specs.declared.target.Target.TheVariants.{Guid, Name, Number}
use Rattle.gptedit_values.specs.declared.wrong.Wrong.{Wrong}
use Rattle.gptedit_values.specs.declared.wrong.Wrong.TheVariants.{NoChoice, NoGuid, NoType}

-- The choice of a place that the word is.
abbrev pub choice_said : List ℕ → Result Choice Wrong
choice_said word =
    if bytes_eq word (codes "first") then Ok First
    else (if bytes_eq word (codes "last") then Ok Last
    else (if bytes_eq word (codes "best") then Ok Best else Err NoChoice))

-- The GUID of a text.
abbrev pub guid_said : List ℕ → Result (List ℕ) Wrong
guid_said word = ok_or (guid_of_text word) NoGuid

-- The type of a name or of a word of another program, in any case, or of the text of a GUID.
abbrev pub type_said_or : List ℕ → Option (List ℕ) → Result (List ℕ) Wrong
type_said_or word (Some guid) = Ok guid
type_said_or word None = ok_or (guid_of_text word) NoType

abbrev pub type_said : List ℕ → Result (List ℕ) Wrong
type_said word = type_said_or word (guid_of_any_name word)

-- The units, in bytes.
abbrev pub units : List (List ℕ × ℕ)
units = (codes "TiB", 2 ^ 40) ∷ (codes "GiB", 2 ^ 30) ∷ (codes "MiB", 2 ^ 20) ∷ (codes "KiB", 2 ^ 10) ∷ (codes "B", 1) ∷ []

-- The text is a number and the name of a unit of this number of bytes.
abbrev pub HasUnit : List ℕ → List ℕ → ℕ → Type 0
HasUnit text number bytes = (name : List ℕ) × Contains units (name, bytes) × (text ≡ number ++ name)

-- The text is a number and a unit, which together are the amount.
abbrev pub SaysAmount : List ℕ → Amount → Type 0
SaysAmount text (Sectors n) = (number : List ℕ) × (text ≡ number ++ codes "s") × IsNumeral 10 number × (digits_value 10 number ≡ n)
SaysAmount text (Bytes n) = (number : List ℕ) × (unit : ℕ) × HasUnit text number unit × IsNumeral 10 number × (digits_value 10 number * unit ≡ n)

-- The amount is below 2^64.
abbrev pub FitsAmount : Amount → Type 0
FitsAmount (Sectors n) = n < 2 ^ 64
FitsAmount (Bytes n) = n < 2 ^ 64

-- The text is an amount, or `rest`.
abbrev pub SaysSize : List ℕ → Size → Type 0
SaysSize text (Exactly amount) = SaysAmount text amount
SaysSize text Rest = text ≡ codes "rest"

-- The size is the rest, or below 2^64.
abbrev pub FitsSize : Size → Type 0
FitsSize (Exactly amount) = FitsAmount amount
FitsSize Rest = Unit {0}

-- The named attributes, and their bits.
abbrev pub attribute_names : List (List ℕ × ℕ)
attribute_names =
    (codes "required", 0) ∷ (codes "no-block-io", 1) ∷ (codes "legacy-boot", 2) ∷
    (codes "grow-file-system", 59) ∷ (codes "read-only", 60) ∷ (codes "no-auto", 63) ∷ []

-- The attributes that have names in `sfdisk`, and their bits.
abbrev pub sfdisk_names : List (List ℕ × ℕ)
sfdisk_names = (codes "RequiredPartition", 0) ∷ (codes "NoBlockIOProtocol", 1) ∷ (codes "LegacyBIOSBootable", 2) ∷ []

-- The word is the name of a bit, or its number.
abbrev pub SaysBit : List ℕ → ℕ → Type 0
SaysBit word bit = (bit < 64) × (Contains attribute_names (word, bit) ⊎ (IsNumeral 10 word × (digits_value 10 word ≡ bit)))

-- The word is an attribute.
abbrev pub IsAttribute : List ℕ → Type 0
IsAttribute word = (bit : ℕ) × SaysBit word bit

-- The attributes are exactly the bit of the word.
abbrev pub SaysAttribute : List ℕ → ℕ → Type 0
SaysAttribute word attributes = (bit : ℕ) × SaysBit word bit × (attributes ≡ 2 ^ bit)

-- Each element of the list is a bit that is set, and each bit that is set is one of some element.
pub record HasBitsOf {A : Type 0} (says : A → ℕ → Type 0) (list : List A) (attributes : ℕ) : Type 0 where
  pub there : All (λ one. (bit : ℕ) × says one bit × (bit_at attributes bit ≡ 1)) list
  pub only : (bit : ℕ) → bit_at attributes bit ≡ 1 → Any (λ one. says one bit) list

-- The words of a list, separated by commas.
abbrev pub words_of : List ℕ → List (List ℕ)
words_of text = slice_split (λ byte. byte == 44) text

-- The attributes are those of all words of the list.
abbrev pub SaysEach : List ℕ → ℕ → Type 0
SaysEach text attributes = HasBitsOf SaysBit (words_of text) attributes

-- The text is `0x` and all 64 bits as hexadecimal digits.
abbrev pub SaysAllBits : List ℕ → ℕ → Type 0
SaysAllBits text attributes = (digits : List ℕ) × (text ≡ codes "0x" ++ digits) × IsNumeral 16 digits × (digits_value 16 digits ≡ attributes)

-- The text is these attributes: empty for none, all bits, or a list.
abbrev pub SaysAttributes : List ℕ → ℕ → Type 0
SaysAttributes text attributes = ((text ≡ []) × (attributes ≡ 0)) ⊎ (SaysAllBits text attributes ⊎ SaysEach text attributes)

-- The text is not attributes: it is not empty, one of its words is not an attribute, and it is not all bits below
-- 2^64.
pub record SaysNoAttributes (text : List ℕ) : Type 0 where
  pub words : ¬ (All IsAttribute (words_of text))
  pub some : text ≢ []
  pub bits : (attributes : ℕ) → SaysAllBits text attributes → 2 ^ 64 ≤ attributes

-- The number of UTF-16 units of a text.
abbrev pub utf16_len : List ℕ → ℕ
utf16_len text = length (flat_map encode_utf16 (chars text))

-- The text is the number of an entry.
abbrev pub SaysEntry : List ℕ → ℕ → Type 0
SaysEntry text n = IsNumeral 10 text × (digits_value 10 text ≡ n) × (1 ≤ n) × (n < 2 ^ 32)

-- The text is a name that is not empty and fits an entry.
abbrev pub IsName : List ℕ → Type 0
IsName text = (text ≢ []) × (utf16_len text ≤ 36)

-- The text selects an entry: it is its number, or `name=` and its name, or `guid=` and its GUID.
abbrev pub SaysTarget : List ℕ → Target → Type 0
SaysTarget text (Number n) = SaysEntry text n
SaysTarget text (Name name) = (text ≡ codes "name=" ++ name.now) × IsName name.now
SaysTarget text (Guid guid) = (word : List ℕ) × (text ≡ codes "guid=" ++ word) × (guid_said word ≡ Ok guid)

-- The text selects no entry.
abbrev pub SaysNoTarget : List ℕ → Type 0
SaysNoTarget text = (target : Target) → ¬ SaysTarget text target
