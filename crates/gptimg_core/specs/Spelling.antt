-- How the words `SECTOR COMMAND ..` of a command line spell a command. A word is the list of its bytes.
use Rattle.std.specs.Prelude.{◌≡◌, ◌≢◌, ℕ, ◌^◌, ◌/◌, ◌%◌, ◌<◌, Bool, true, false, IfSome, List, [], ◌∷◌, length, map, codes, replicate, Option, Some, None, String, string_bytes}
use Rattle.std.specs.Fmt.{decimal}
use Rattle.std.specs.Str.Parse.{digits_value, AllDigits}
use Rattle.hex.specs.Hex.{encode_lower, hex_digit_value, IsBytes}
use Rattle.gptimg_core.specs.declared.words.Addition.{Addition}
use Rattle.gptimg_core.specs.declared.words.Change.{Change}
use Rattle.gptimg_core.specs.declared.words.Change.TheVariants.{Add, Remove, Sort, Grow}
use Rattle.gptimg_core.specs.declared.words.Choice.{Choice}
use Rattle.gptimg_core.specs.declared.words.Choice.TheVariants.{First, Last, Best}
use Rattle.gptimg_core.specs.declared.words.Command.{Command}
use Rattle.gptimg_core.specs.declared.words.Command.TheVariants.{New, Mbr, Check, Show, Free, Change as Changing}

-- the bytes of each word
abbrev pub texts_of : {A : Type 0} → List (String A) → List (List ℕ)
texts_of words = map string_bytes words

-- one or more decimal digits with the value n
abbrev pub IsNumeral : List ℕ → ℕ → Type 0
IsNumeral text n = (0 < length text) × AllDigits 10 text × (digits_value 10 text ≡ n)

-- two hexadecimal digits for each byte, in either case, the high one first
abbrev pub AreDigitPairs : List ℕ → List ℕ → Type 0
AreDigitPairs [] [] = Unit {0}
AreDigitPairs (high ∷ low ∷ text) (byte ∷ bytes) = (hex_digit_value high ≡ Some (byte / 16)) × (hex_digit_value low ≡ Some (byte % 16)) × AreDigitPairs text bytes
AreDigitPairs text bytes = ⊥

-- 32 hexadecimal digits, in either case, of these 16 bytes
abbrev pub IsDigits : List ℕ → List ℕ → Type 0
IsDigits text guid = (length text ≡ 32) × AreDigitPairs text guid

-- the sector size, or the word `auto` for none
abbrev pub IsSectorSize : List ℕ → Option ℕ → Type 0
IsSectorSize text None = text ≡ codes "auto"
IsSectorSize text (Some size) = IsNumeral text size

-- the word for a choice among the free places
abbrev pub choice_word : Choice → List ℕ
choice_word First = codes "first"
choice_word Last = codes "last"
choice_word Best = codes "best"

-- the word for whether an MBR is bootable
abbrev pub kind_word : Bool → List ℕ
kind_word false = codes "plain"
kind_word true = codes "bootable"

-- `NUMBER TYPE UNIQUE SIZE WHERE ALIGN NAME`
abbrev pub IsSpelledAddition : List (List ℕ) → Addition → Type 0
IsSpelledAddition (number ∷ type ∷ unique ∷ size ∷ choice ∷ align ∷ name ∷ []) a =
    IsNumeral number a.number × IsDigits type a.type_guid × IsDigits unique a.unique_guid × IsNumeral size a.size
    × (choice ≡ choice_word a.choice) × IsNumeral align a.align × (name ≡ a.name)
IsSpelledAddition words a = ⊥

-- the words of a change, after the sector size
abbrev pub IsSpelledChange : List (List ℕ) → Change → Type 0
IsSpelledChange (name ∷ words) (Add a) = (name ≡ codes "add") × IsSpelledAddition words a
IsSpelledChange (name ∷ number ∷ []) (Remove n) = (name ≡ codes "remove") × IsNumeral number n
IsSpelledChange (name ∷ []) Sort = name ≡ codes "sort"
IsSpelledChange (name ∷ []) Grow = name ≡ codes "grow"
IsSpelledChange words change = ⊥

-- these words spell this command
abbrev pub IsSpelled : List (List ℕ) → Command → Type 0
IsSpelled (sector ∷ name ∷ digits ∷ []) (New size guid) = IsNumeral sector size × (name ≡ codes "new") × IsDigits digits guid
IsSpelled (sector ∷ name ∷ kind ∷ []) (Mbr size bootable) = IsNumeral sector size × (name ≡ codes "mbr") × (kind ≡ kind_word bootable)
IsSpelled (sector ∷ name ∷ []) (Check size) = IsNumeral sector size × (name ≡ codes "check")
IsSpelled (sector ∷ name ∷ []) (Show size) = IsSectorSize sector size × (name ≡ codes "show")
IsSpelled (sector ∷ name ∷ number ∷ []) (Free size align) = IsSectorSize sector size × (name ≡ codes "free") × IsNumeral number align
IsSpelled (sector ∷ words) (Changing size change) = IsSectorSize sector size × IsSpelledChange words change
IsSpelled words command = ⊥

-- a size or an alignment: above 0, in 64 bits
abbrev pub IsSize : ℕ → Type 0
IsSize n = (0 < n) × (n < 2 ^ 64)

-- the number of an entry: in 32 bits
abbrev pub IsEntryNumber : ℕ → Type 0
IsEntryNumber n = n < 2 ^ 32

-- 16 bytes
abbrev pub IsGuid : List ℕ → Type 0
IsGuid guid = (length guid ≡ 16) × IsBytes guid

-- the allowed values of an addition; its type is not all zeros
abbrev pub IsAllowedAddition : Addition → Type 0
IsAllowedAddition a = IsEntryNumber a.number × IsGuid a.type_guid × (a.type_guid ≢ replicate 16 0) × IsGuid a.unique_guid × IsSize a.size × IsSize a.align

-- the allowed values of a change
abbrev pub IsAllowedChange : Change → Type 0
IsAllowedChange (Add a) = IsAllowedAddition a
IsAllowedChange (Remove number) = IsEntryNumber number
IsAllowedChange Sort = Unit {0}
IsAllowedChange Grow = Unit {0}

-- the allowed values of a command
abbrev pub IsAllowed : Command → Type 0
IsAllowed (New size guid) = IsSize size × IsGuid guid
IsAllowed (Mbr size bootable) = IsSize size
IsAllowed (Check size) = IsSize size
IsAllowed (Show size) = IfSome size IsSize
IsAllowed (Free size align) = IfSome size IsSize × IsSize align
IsAllowed (Changing size change) = IfSome size IsSize × IsAllowedChange change

-- The usual spelling has numbers without leading zeros, and digits in lower case.

-- the word for the sector size
abbrev pub sector_word : Option ℕ → List ℕ
sector_word None = codes "auto"
sector_word (Some size) = decimal size

-- the words of a change, after the sector size
abbrev pub spell_change : Change → List (List ℕ)
spell_change (Add a) = codes "add" ∷ decimal a.number ∷ encode_lower a.type_guid ∷ encode_lower a.unique_guid ∷ decimal a.size ∷ choice_word a.choice
    ∷ decimal a.align ∷ a.name ∷ []
spell_change (Remove number) = codes "remove" ∷ decimal number ∷ []
spell_change Sort = codes "sort" ∷ []
spell_change Grow = codes "grow" ∷ []

-- the words of a command
abbrev pub spell : Command → List (List ℕ)
spell (New size guid) = decimal size ∷ codes "new" ∷ encode_lower guid ∷ []
spell (Mbr size bootable) = decimal size ∷ codes "mbr" ∷ kind_word bootable ∷ []
spell (Check size) = decimal size ∷ codes "check" ∷ []
spell (Show size) = sector_word size ∷ codes "show" ∷ []
spell (Free size align) = sector_word size ∷ codes "free" ∷ decimal align ∷ []
spell (Changing size change) = sector_word size ∷ spell_change change
