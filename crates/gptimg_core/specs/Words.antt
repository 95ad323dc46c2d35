-- How `src/words.rt` parses words, step by step; a text is the list of its bytes. `IsSpelled` of `Spelling` says which
-- words are a command, without steps: `command_in` returns the command that is spelled, if its values are allowed, and
-- no other.
use Rattle.std.specs.Prelude.{ℕ, ◌^◌, ◌<◌, ◌&&◌, Bool, true, false, IfSome, List, [], ◌∷◌, length, codes, replicate, nat_eq, nat_lt, bytes_eq, Option, Some, None, if◌then◌else◌}
use Rattle.std.specs.Option.{option_map, option_and_then}
use Rattle.std.specs.Result.{result_ok}
use Rattle.std.specs.List.{list_all}
use Rattle.std.specs.Char.{is_ascii_digit}
use Rattle.std.specs.Str.Parse.{digits_value}
use Rattle.hex.specs.Hex.{decode_sized}
use Rattle.gptimg_core.specs.declared.words.Addition.{Addition}
use Rattle.gptimg_core.specs.declared.words.Change.{Change}
use Rattle.gptimg_core.specs.declared.words.Change.TheVariants.{Add, Remove, Sort, Grow}
use Rattle.gptimg_core.specs.declared.words.Choice.{Choice}
use Rattle.gptimg_core.specs.declared.words.Choice.TheVariants.{First, Last, Best}
use Rattle.gptimg_core.specs.declared.words.Command.{Command}
use Rattle.gptimg_core.specs.declared.words.Command.TheVariants.{New, Mbr, Check, Show, Free, Change as Changing}

-- one or more decimal digits whose value fits in 64 bits
abbrev pub number_in : List ℕ → Option ℕ
number_in text =
    if list_all is_ascii_digit text && nat_lt 0 (length text) && nat_lt (digits_value 10 text) (2 ^ 64) then Some (digits_value 10 text) else None

-- a number above 0
abbrev pub size_in : List ℕ → Option ℕ
size_in text = option_and_then (λ size. if nat_eq size 0 then None else Some size) (number_in text)

-- a number that fits in 32 bits
abbrev pub entry_number_in : List ℕ → Option ℕ
entry_number_in text = option_and_then (λ n. if nat_lt n (2 ^ 32) then Some n else None) (number_in text)

-- the 16 bytes of 32 hexadecimal digits
abbrev pub guid_in : List ℕ → Option (List ℕ)
guid_in text = result_ok (decode_sized text 16)

-- such bytes, not all zeros
abbrev pub type_in : List ℕ → Option (List ℕ)
type_in text = option_and_then (λ guid. if bytes_eq guid (replicate 16 0) then None else Some guid) (guid_in text)

-- the sector size, or none for the word `auto`
abbrev pub sector_size_in : List ℕ → Option (Option ℕ)
sector_size_in text = if bytes_eq text (codes "auto") then Some None else option_map (λ size. Some size) (size_in text)

-- the choice among the free places
abbrev pub choice_in : List ℕ → Option Choice
choice_in text =
    if bytes_eq text (codes "first") then Some First
    else if bytes_eq text (codes "last") then Some Last
    else if bytes_eq text (codes "best") then Some Best
    else None

-- whether an MBR is bootable
abbrev pub kind_in : List ℕ → Option Bool
kind_in text =
    if bytes_eq text (codes "plain") then Some false
    else if bytes_eq text (codes "bootable") then Some true
    else None

-- `new GUID`, with the word for the sector size
abbrev pub new_in : List ℕ → List (List ℕ) → Option Command
new_in sector (guid ∷ []) = option_and_then (λ size. option_map (λ bytes. New size bytes) (guid_in guid)) (size_in sector)
new_in sector _ = None

-- `mbr KIND`, with the word for the sector size
abbrev pub mbr_in : List ℕ → List (List ℕ) → Option Command
mbr_in sector (kind ∷ []) = option_and_then (λ size. option_map (λ bootable. Mbr size bootable) (kind_in kind)) (size_in sector)
mbr_in sector _ = None

-- `check`, with the word for the sector size
abbrev pub check_in : List ℕ → List (List ℕ) → Option Command
check_in sector [] = option_map (λ size. Check size) (size_in sector)
check_in sector _ = None

-- `show`, with the word for the sector size, which may be `auto`
abbrev pub show_in : List ℕ → List (List ℕ) → Option Command
show_in sector [] = option_map (λ size. Show size) (sector_size_in sector)
show_in sector _ = None

-- `free ALIGN`, with the word for the sector size, which may be `auto`
abbrev pub free_in : List ℕ → List (List ℕ) → Option Command
free_in sector (align ∷ []) = option_and_then (λ size. option_map (λ n. Free size n) (size_in align)) (sector_size_in sector)
free_in sector _ = None

-- the addition with these parts, if all of them were parsed
abbrev pub addition_of : Option ℕ → Option (List ℕ) → Option (List ℕ) → Option ℕ → Option Choice → Option ℕ → List ℕ → Option Addition
addition_of number type unique size choice align name =
    option_and_then (λ number. option_and_then (λ type_guid. option_and_then (λ unique_guid. option_and_then (λ size. option_and_then (λ choice.
    option_map (λ align. record {
      number = number;
      type_guid = type_guid;
      unique_guid = unique_guid;
      size = size;
      choice = choice;
      align = align;
      name = name;
    })
    align) choice) size) unique) type) number

-- `NUMBER TYPE UNIQUE SIZE WHERE ALIGN NAME`
abbrev pub addition_in : List (List ℕ) → Option Addition
addition_in (number ∷ type ∷ unique ∷ size ∷ choice ∷ align ∷ name ∷ []) =
    addition_of (entry_number_in number) (type_in type) (guid_in unique) (size_in size) (choice_in choice) (size_in align) name
addition_in _ = None

-- `NUMBER`
abbrev pub remove_in : List (List ℕ) → Option Change
remove_in (number ∷ []) = option_map (λ n. Remove n) (entry_number_in number)
remove_in _ = None

-- a change that takes no words
abbrev pub without_words : Change → List (List ℕ) → Option Change
without_words change [] = Some change
without_words change _ = None

-- the change with this name and these words
abbrev pub named_change_in : List ℕ → List (List ℕ) → Option Change
named_change_in name words =
    if bytes_eq name (codes "add") then option_map (λ addition. Add addition) (addition_in words)
    else if bytes_eq name (codes "remove") then remove_in words
    else if bytes_eq name (codes "sort") then without_words Sort words
    else if bytes_eq name (codes "grow") then without_words Grow words
    else None

-- a command that changes the table, with the word for the sector size
abbrev pub change_in : List ℕ → List ℕ → List (List ℕ) → Option Command
change_in sector name words = option_and_then (λ size. option_map (λ change. Changing size change) (named_change_in name words)) (sector_size_in sector)

-- the command with this name, given the word for the sector size and the other words
abbrev pub named_command_in : List ℕ → List ℕ → List (List ℕ) → Option Command
named_command_in sector name words =
    if bytes_eq name (codes "new") then new_in sector words
    else if bytes_eq name (codes "mbr") then mbr_in sector words
    else if bytes_eq name (codes "check") then check_in sector words
    else if bytes_eq name (codes "show") then show_in sector words
    else if bytes_eq name (codes "free") then free_in sector words
    else change_in sector name words

-- `SECTOR COMMAND ..`
abbrev pub command_in : List (List ℕ) → Option Command
command_in (sector ∷ name ∷ words) = named_command_in sector name words
command_in _ = None

-- the size and the alignment of an addition are above 0
abbrev pub IsSizedAddition : Addition → Type 0
IsSizedAddition a = (0 < a.size) × (0 < a.align)

abbrev pub IsSizedChange : Change → Type 0
IsSizedChange (Add a) = IsSizedAddition a
IsSizedChange (Remove number) = Unit {0}
IsSizedChange Sort = Unit {0}
IsSizedChange Grow = Unit {0}

-- each size of a command is above 0
abbrev pub IsSized : Command → Type 0
IsSized (New size guid) = 0 < size
IsSized (Mbr size bootable) = 0 < size
IsSized (Check size) = 0 < size
IsSized (Show size) = IfSome size (λ n. 0 < n)
IsSized (Free size align) = IfSome size (λ n. 0 < n) × (0 < align)
IsSized (Changing size change) = IfSome size (λ n. 0 < n) × IsSizedChange change
