-- The meaning of a change of attributes.
use Rattle.std.specs.Prelude.{◌≡◌, ◌<◌, ◌⊎◌, ℕ, ◌+◌, ◌-◌, ◌^◌, ◌&&◌, nat_le, nat_lt, if◌then◌else◌, List, [], ◌∷◌, ◌++◌, All, Contains, codes}
use Rattle.std.specs.Int.{bit_at}
use Rattle.std.specs.Str.Parse.{digits_value, IsNumeral}
use Rattle.gptedit_core.specs.Setting.{bit_after}
use Rattle.gptedit_core.specs.declared.attributes.AttributeChange.{AttributeChange}
use Rattle.gptedit_values.specs.Words.{words_of, SaysAttributes, SaysBit, SaysNoAttributes}

-- A step: `width` bits from the bit `first` on become those of the value.
pub record BitStep : Type 0 where
  pub first : ℕ
  pub width : ℕ
  pub value : ℕ

abbrev pub bits_from : ℕ → ℕ → ℕ → BitStep
bits_from first width value = record { first = first; width = width; value = value }

-- Bit k with the value b after a step: that of the step if it has the bit, else b.
abbrev pub step_bit : BitStep → ℕ → ℕ → ℕ
step_bit step k b = if nat_le step.first k && nat_lt k (step.first + step.width) then bit_at step.value (k - step.first) else b

-- Bit k with the value b after all steps, in their order.
abbrev pub steps_bit : List BitStep → ℕ → ℕ → ℕ
steps_bit [] k b = b
steps_bit (step ∷ steps) k b = steps_bit steps k (step_bit step k b)

-- The text is the sign and an attribute, whose bit becomes the value.
abbrev pub SaysSigned : List ℕ → ℕ → List ℕ → BitStep → Type 0
SaysSigned sign value word step = (name : List ℕ) × (bit : ℕ) × (word ≡ sign ++ name) × SaysBit name bit × (step ≡ bits_from bit 1 value)

-- The fields of ChromeOS: their names, first bits and numbers of bits.
abbrev pub bit_fields : List (List ℕ × (ℕ × ℕ))
bit_fields = (codes "priority=", (48, 4)) ∷ (codes "tries=", (52, 4)) ∷ (codes "successful=", (56, 1)) ∷ []

-- The text is a number of at most so many bits.
abbrev pub SaysValue : List ℕ → ℕ → Type 0
SaysValue digits width = IsNumeral 10 digits × (digits_value 10 digits < 2 ^ width)

-- The text is the name of a field and its value.
abbrev pub SaysField : List ℕ → BitStep → Type 0
SaysField word step = (name digits : List ℕ) × (first width : ℕ) × Contains bit_fields (name, (first, width)) × (word ≡ name ++ digits)
    × SaysValue digits width × (step ≡ bits_from first width (digits_value 10 digits))

-- The text is the step: an attribute after + or -, or a field.
abbrev pub SaysStep : List ℕ → BitStep → Type 0
SaysStep word step = SaysSigned (codes "+") 1 word step ⊎ (SaysSigned (codes "-") 0 word step ⊎ SaysField word step)

abbrev pub IsStep : List ℕ → Type 0
IsStep word = (step : BitStep) × SaysStep word step

-- The texts are the steps, in their order.
abbrev pub AreSteps : List (List ℕ) → List BitStep → Type 0
AreSteps [] [] = Unit {0}
AreSteps (word ∷ words) (step ∷ steps) = SaysStep word step × AreSteps words steps
AreSteps words steps = ⊥

-- The change makes this of each bit k with the value b.
abbrev pub Makes : AttributeChange → (ℕ → ℕ → ℕ) → Type 0
Makes change after = (k b : ℕ) → k < 64 → bit_after change k b ≡ after k b

abbrev pub MakesStep : List ℕ → AttributeChange → Type 0
MakesStep word change = (step : BitStep) × SaysStep word step × Makes change (step_bit step)

-- The text is steps, which the change makes.
abbrev pub SaysSteps : List ℕ → AttributeChange → Type 0
SaysSteps text change = (steps : List BitStep) × AreSteps (words_of text) steps × Makes change (steps_bit steps)

-- The text is attributes, and the change makes exactly these.
abbrev pub SaysExactly : List ℕ → AttributeChange → Type 0
SaysExactly text change = (attributes : ℕ) × SaysAttributes text attributes × Makes change (λ k b. bit_at attributes k)

-- The text is a change of attributes.
abbrev pub SaysChange : List ℕ → AttributeChange → Type 0
SaysChange text change = SaysExactly text change ⊎ SaysSteps text change

-- The text is neither attributes nor steps.
abbrev pub SaysNoChange : List ℕ → Type 0
SaysNoChange text = SaysNoAttributes text × ¬ (All IsStep (words_of text))
