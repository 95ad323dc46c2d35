-- The meaning of values of a layout in TOML.
use Rattle.std.specs.Prelude.{◌≡◌, ◌<◌, ◌^◌, ℕ, pos, List, [], ◌∷◌, Option, None, Some, Result, Ok, Err, IfOk}
use Rattle.toml.specs.Data.{Data, Items, array, boolean, datetime, float, integer, item, no_items, string, table}
use Rattle.gptedit_values.specs.Words.{HasBitsOf, SaysBit}
use Rattle.gptedit_text.specs.declared.error.LayoutError.{LayoutError}

-- The value is the bit of an attribute, as a word or as a number.
abbrev pub SaysBitOf : Data → ℕ → Type 0
SaysBitOf (string word) bit = SaysBit word bit
SaysBitOf (integer number) bit = (number ≡ pos bit) × (bit < 64)
SaysBitOf (float _) bit = ⊥
SaysBitOf (boolean _) bit = ⊥
SaysBitOf (datetime _) bit = ⊥
SaysBitOf (array _) bit = ⊥
SaysBitOf (table _) bit = ⊥

-- The value is an attribute.
abbrev pub IsAttributeOf : Data → Type 0
IsAttributeOf value = (bit : ℕ) × SaysBitOf value bit

-- The attributes are exactly the bit of the value.
abbrev pub SaysAttributeOf : Data → ℕ → Type 0
SaysAttributeOf value attributes = (bit : ℕ) × SaysBitOf value bit × (attributes ≡ 2 ^ bit)

-- The values of a list.
abbrev pub list_of : Items → List Data
list_of no_items = []
list_of (item value items) = value ∷ list_of items

-- The value is a list, and these are the attributes of all its elements.
abbrev pub SaysAttributesOf : Data → ℕ → Type 0
SaysAttributesOf (array items) attributes = HasBitsOf SaysBitOf (list_of items) attributes
SaysAttributesOf (string _) attributes = ⊥
SaysAttributesOf (integer _) attributes = ⊥
SaysAttributesOf (float _) attributes = ⊥
SaysAttributesOf (boolean _) attributes = ⊥
SaysAttributesOf (datetime _) attributes = ⊥
SaysAttributesOf (table _) attributes = ⊥

-- These are the attributes of the value, if there is one.
abbrev pub GivesAttributesOf : Option Data → Option ℕ → Type 0
GivesAttributesOf None None = Unit {0}
GivesAttributesOf (Some value) (Some attributes) = SaysAttributesOf value attributes
GivesAttributesOf None (Some attributes) = ⊥
GivesAttributesOf (Some value) None = ⊥

-- A value that was read is kept. Without one there is none.
abbrev pub IsKept : {A : Type 0} → Result A LayoutError → Result (Option A) LayoutError → Type 0
IsKept (Ok value) result = result ≡ Ok (Some value)
IsKept (Err error) result = IfOk result (λ kept. kept ≡ None)
