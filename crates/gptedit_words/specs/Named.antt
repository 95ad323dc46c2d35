-- The command line with only the command that the second argument names.
use Rattle.std.specs.Prelude.{◌≡◌, ◌++◌, ℕ, List, [], ◌∷◌, Option, find, true}
use Rattle.clap.specs.Simple.{label_of}
use Rattle.clap.specs.Walk.{answers_to}
use Rattle.clap.specs.Words.{fault_of, is_simple_and_free, subcommand_of, App, Shape, Text}
use Rattle.gptedit_words.specs.Line.{changes, line, looks, top}

-- The command line without commands.
abbrev pub bare : App
bare = record { top = record top { is_leaf = true }; subs = [] }

-- The command line with only this command.
abbrev pub only : Shape → App
only shape = record { top = top; subs = shape ∷ [] }

-- The command of this name.
unfoldable pub command_named : Text → Option Shape
command_named name = find (λ s. answers_to name (label_of s)) (looks ++ changes)

-- This command line has the faults of the whole one at these words, and its command with the same arguments. No argument
-- has a rule on another, so `clap` says which faults and arguments these are.
pub record ReadsAs (words : List (List ℕ)) (app : App) : Type 0 where
  pub free : is_simple_and_free app ≡ true
  pub faults : fault_of app words ≡ fault_of line words
  pub command : subcommand_of app words ≡ subcommand_of line words
