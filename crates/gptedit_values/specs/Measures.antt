-- The meaning of sizes and positions.
use Rattle.std.specs.Prelude.{◌≡◌, ◌⊎◌, ◌<◌, ◌≤◌, ◌+◌, ◌-◌, ◌*◌, ◌/◌, ◌^◌, ℕ, List, [], ◌∷◌, ◌++◌, Contains, codes, length}
use Rattle.std.specs.Str.Parse.{digits_value, IsNumeral}
use Rattle.gptedit_core.specs.declared.amount.Amount.TheVariants.{Sectors, Bytes}
use Rattle.gptedit_core.specs.declared.measure.Measure.{Measure}
use Rattle.gptedit_core.specs.declared.measure.Measure.TheVariants.{Exactly, About, Share}
use Rattle.gptedit_core.specs.declared.measure.Position.{Position}
use Rattle.gptedit_core.specs.declared.measure.Position.TheVariants.{FromStart, FromEnd}
use Rattle.gptedit_core.specs.declared.measure.Extent.{Extent}
use Rattle.gptedit_core.specs.declared.measure.Extent.TheVariants.{Size, Rest, End, More, Less}
use Rattle.gptedit_values.specs.Words.{FitsAmount}

-- The units that are powers of two, in bytes.
abbrev pub binary_units : List (List ℕ × ℕ)
binary_units =
    (codes "TiB", 2 ^ 40) ∷ (codes "GiB", 2 ^ 30) ∷ (codes "MiB", 2 ^ 20) ∷ (codes "KiB", 2 ^ 10) ∷
    (codes "T", 2 ^ 40) ∷ (codes "G", 2 ^ 30) ∷ (codes "M", 2 ^ 20) ∷ (codes "K", 2 ^ 10) ∷ (codes "B", 1) ∷ []

-- The units that are powers of ten, in bytes.
abbrev pub decimal_units : List (List ℕ × ℕ)
decimal_units = (codes "TB", 10 ^ 12) ∷ (codes "GB", 10 ^ 9) ∷ (codes "MB", 10 ^ 6) ∷ (codes "KB", 10 ^ 3) ∷ []

-- The text is a whole number and this word.
abbrev pub SaysCount : List ℕ → List ℕ → ℕ → Type 0
SaysCount text word count = (number : List ℕ) × (text ≡ number ++ word) × IsNumeral 10 number × (digits_value 10 number ≡ count)

-- The text is a number with one to six digits after its point, and this word. The number is in millionths.
abbrev pub SaysMillionths : List ℕ → List ℕ → ℕ → Type 0
SaysMillionths text word millionths = (whole : List ℕ) × (tail : List ℕ) × (text ≡ whole ++ (codes "." ++ (tail ++ word)))
    × IsNumeral 10 whole × IsNumeral 10 tail × (length tail ≤ 6)
    × (digits_value 10 whole * 10 ^ 6 + digits_value 10 tail * 10 ^ (6 - length tail) ≡ millionths)

-- The text is a whole number of one of these units, together so many bytes.
abbrev pub SaysUnits : List (List ℕ × ℕ) → List ℕ → ℕ → Type 0
SaysUnits table text bytes = (name : List ℕ) × (unit : ℕ) × (count : ℕ) × Contains table (name, unit) × SaysCount text name count × (count * unit ≡ bytes)

-- The text is a number with a point, of one of these units, together so many bytes, rounded down.
abbrev pub SaysPart : List (List ℕ × ℕ) → List ℕ → ℕ → Type 0
SaysPart table text bytes = (name : List ℕ) × (unit : ℕ) × (millionths : ℕ) × Contains table (name, unit)
    × SaysMillionths text name millionths × (millionths * unit / 10 ^ 6 ≡ bytes)

-- The text is a percentage. 1 % is 10^6 parts.
abbrev pub SaysPercentage : List ℕ → ℕ → Type 0
SaysPercentage text parts = ((percent : ℕ) × SaysCount text (codes "%") percent × (percent * 10 ^ 6 ≡ parts)) ⊎ SaysMillionths text (codes "%") parts

-- The text is this measure. It is exact if it is a whole number of sectors or of a power of two.
abbrev pub SaysMeasure : List ℕ → Measure → Type 0
SaysMeasure text (Exactly (Sectors sectors)) = SaysCount text (codes "s") sectors
SaysMeasure text (Exactly (Bytes bytes)) = SaysUnits binary_units text bytes
SaysMeasure text (About bytes) = SaysUnits decimal_units text bytes ⊎ (SaysPart binary_units text bytes ⊎ SaysPart decimal_units text bytes)
SaysMeasure text (Share parts) = SaysPercentage text parts

-- The measure is below 2^64 sectors or bytes, or at most 100 %.
abbrev pub FitsMeasure : Measure → Type 0
FitsMeasure (Exactly amount) = FitsAmount amount
FitsMeasure (About bytes) = bytes < 2 ^ 64
FitsMeasure (Share parts) = parts ≤ 10 ^ 8

-- The text is a measure; after `-` it counts from the end.
abbrev pub SaysPosition : List ℕ → Position → Type 0
SaysPosition text (FromStart measure) = SaysMeasure text measure
SaysPosition text (FromEnd measure) = (rest : List ℕ) × (text ≡ codes "-" ++ rest) × SaysMeasure rest measure

abbrev pub FitsPosition : Position → Type 0
FitsPosition (FromStart measure) = FitsMeasure measure
FitsPosition (FromEnd measure) = FitsMeasure measure

-- The text is the size of a new partition: a measure, or `rest`.
abbrev pub SaysLength : List ℕ → Extent → Type 0
SaysLength text (Size measure) = SaysMeasure text measure
SaysLength text Rest = text ≡ codes "rest"
SaysLength text extent = ⊥

-- The text is the new size of a partition: a measure, more or less by a measure, or `max`.
abbrev pub SaysNewLength : List ℕ → Extent → Type 0
SaysNewLength text (Size measure) = SaysMeasure text measure
SaysNewLength text Rest = text ≡ codes "max"
SaysNewLength text (More measure) = (rest : List ℕ) × (text ≡ codes "+" ++ rest) × SaysMeasure rest measure
SaysNewLength text (Less measure) = (rest : List ℕ) × (text ≡ codes "-" ++ rest) × SaysMeasure rest measure
SaysNewLength text (End position) = ⊥

abbrev pub FitsExtent : Extent → Type 0
FitsExtent (Size measure) = FitsMeasure measure
FitsExtent Rest = Unit {0}
FitsExtent (End position) = FitsPosition position
FitsExtent (More measure) = FitsMeasure measure
FitsExtent (Less measure) = FitsMeasure measure

-- The text is no position that fits, or no size.
abbrev pub SaysNoPosition : List ℕ → Type 0
SaysNoPosition text = (position : Position) → SaysPosition text position → ¬ (FitsPosition position)

abbrev pub SaysNoLength : List ℕ → Type 0
SaysNoLength text = (extent : Extent) → SaysLength text extent → ¬ (FitsExtent extent)

abbrev pub SaysNoNewLength : List ℕ → Type 0
SaysNoNewLength text = (extent : Extent) → SaysNewLength text extent → ¬ (FitsExtent extent)
