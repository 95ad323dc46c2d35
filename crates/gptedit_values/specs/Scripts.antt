-- The meaning of words of a script of `sfdisk`.
use Rattle.std.specs.Prelude.{◌≡◌, ◌≢◌, ◌≤◌, ◌⊎◌, ◌*◌, ◌^◌, ℕ, List, [], ◌∷◌, ◌++◌, Contains, codes, slice_index}
use Rattle.std.specs.Str.Parse.{digits_value, IsNumeral}
use Rattle.gptedit_core.specs.declared.amount.Amount.{Amount}
use Rattle.gptedit_core.specs.declared.amount.Amount.TheVariants.{Bytes, Sectors}
use Rattle.gptedit_values.specs.Words.{FitsAmount}

-- The text is the prefix and digits of the number.
abbrev pub HasDigits : ℕ → List ℕ → List ℕ → ℕ → Type 0
HasDigits radix prefix text number = (digits : List ℕ) × (text ≡ prefix ++ digits) × IsNumeral radix digits × (digits_value radix digits ≡ number)

-- The text is the decimal digits of the number. It starts with 0 only if it is 0.
abbrev pub IsDecimal : List ℕ → ℕ → Type 0
IsDecimal text number = IsNumeral 10 text × ((text ≡ codes "0") ⊎ (slice_index text 0 ≢ 48)) × (digits_value 10 text ≡ number)

-- The text is a number: hexadecimal after `0x`, octal after another `0`, otherwise decimal.
abbrev pub SaysScriptNumber : List ℕ → ℕ → Type 0
SaysScriptNumber text number = HasDigits 16 (codes "0x") text number ⊎ (HasDigits 8 (codes "0") text number ⊎ IsDecimal text number)

-- The text is not a number below 2^64.
abbrev pub SaysNoScriptNumber : List ℕ → Type 0
SaysNoScriptNumber text = (number : ℕ) → SaysScriptNumber text number → 2 ^ 64 ≤ number

-- The units, in bytes.
abbrev pub script_units : List (List ℕ × ℕ)
script_units =
    (codes "K", 2 ^ 10) ∷ (codes "KiB", 2 ^ 10) ∷ (codes "M", 2 ^ 20) ∷ (codes "MiB", 2 ^ 20) ∷
    (codes "G", 2 ^ 30) ∷ (codes "GiB", 2 ^ 30) ∷ (codes "T", 2 ^ 40) ∷ (codes "TiB", 2 ^ 40) ∷
    (codes "P", 2 ^ 50) ∷ (codes "PiB", 2 ^ 50) ∷ (codes "E", 2 ^ 60) ∷ (codes "EiB", 2 ^ 60) ∷ []

-- The text is a number and the name of a unit of this number of bytes.
abbrev pub HasScriptUnit : List ℕ → List ℕ → ℕ → Type 0
HasScriptUnit text number bytes = (name : List ℕ) × Contains script_units (name, bytes) × (text ≡ number ++ name)

-- The text is a number of sectors, or else a number of units of bytes.
abbrev pub SaysExtent : List ℕ → Amount → Type 0
SaysExtent text (Sectors sectors) = SaysScriptNumber text sectors
SaysExtent text (Bytes bytes) = SaysNoScriptNumber text ×
    ((number : List ℕ) × (unit : ℕ) × (count : ℕ) × HasScriptUnit text number unit × SaysScriptNumber number count × (count * unit ≡ bytes))

-- No amount below 2^64 sectors or bytes is said.
abbrev pub SaysNoExtent : List ℕ → Type 0
SaysNoExtent text = (amount : Amount) → SaysExtent text amount → ¬ (FitsAmount amount)
