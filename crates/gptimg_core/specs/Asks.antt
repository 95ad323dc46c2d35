-- The command that words ask for.
use Rattle.std.specs.Prelude.{◌≡◌, Bool, true, false, List, String}
use Rattle.gptimg_core.specs.Spelling.{texts_of, IsAllowed, IsSpelled}
use Rattle.gptimg_core.specs.declared.words.Command.{Command}
use Rattle.gptimg_core.specs.declared.words.Command.TheVariants.{New, Mbr, Check, Show, Free, Change as Changing}

-- the words ask for this command: they spell it, and its values are allowed
abbrev pub AskFor : {A : Type 0} → List (String A) → Command → Type 0
AskFor words command = IsSpelled (texts_of words) command × IsAllowed command

-- the words ask for some command
abbrev pub AskForAny : {A : Type 0} → List (String A) → Type 0
AskForAny words = (command : Command) × AskFor words command

-- whether the command writes to the disk; the others only read
abbrev pub writes : Command → Bool
writes (New size guid) = true
writes (Mbr size bootable) = true
writes (Check size) = false
writes (Show size) = false
writes (Free size align) = false
writes (Changing size change) = true

-- the words ask for a command that writes
abbrev pub AskToWrite : {A : Type 0} → List (String A) → Type 0
AskToWrite words = (command : Command) × AskFor words command × (writes command ≡ true)
