-- The command line: its commands in the order of the help, and their arguments.
use Rattle.std.specs.Prelude.{◌^◌, ◌-◌, ℕ, List, [], ◌∷◌, ◌++◌, Some, true, false, codes, option_and_then, unwrap_or}
use Rattle.clap.specs.Lexer.{strip_byte, usize_max}
use Rattle.clap.specs.Simple.{new_shape}
use Rattle.clap.specs.Words.{App, Rule, Shape, Text, new_rule}
use Rattle.clap.specs.declared.builder.action.ArgAction.TheVariants.{Append, SetTrue}
use Rattle.clap.specs.declared.builder.value_parser.ValueParser.TheVariants.{NonEmptyString, Unsigned}

-- The name of an option without its two hyphens.
unfoldable pub long_word : Text → Text
long_word word = unwrap_or (option_and_then (strip_byte 45) (strip_byte 45 word)) word

-- An option.
abbrev pub option : Text → Rule
option word = record (new_rule word) { long = Some (long_word word) }

abbrev pub value : Text → Rule
value word = record (option word) { value_names = 1 }

-- An option whose value is from 1 to `most`.
abbrev pub number : Text → ℕ → Rule
number word most = record (value word) { parser = Some (Unsigned 1 most) }

-- An option without a value.
abbrev pub flag : Text → Rule
flag word = record (option word) { action = Some SetTrue }

abbrev pub lettered : ℕ → Text → Rule
lettered letter word = record (flag word) { short = Some letter }

-- A positional argument that may be omitted, and else is not empty.
abbrev pub place : Text → Rule
place name = record (new_rule name) { parser = Some NonEmptyString }

-- A required one.
abbrev pub text_place : Text → Rule
text_place name = record (place name) { required = true }

-- One or more required ones.
abbrev pub text_places : Text → Rule
text_places name = record (text_place name) {
  range = Some (record { start_inclusive = 1; end_inclusive = usize_max });
  action = Some Append;
}

-- A command of this name with these arguments.
abbrev pub with_words : Text → List Rule → Shape
with_words name rules = record (new_shape name) { rules = rules }

-- The options of all commands for an image.
abbrev pub showing : List Rule
showing = value (codes "--sector") ∷ flag (codes "--json") ∷ []

-- The options of commands that change a table.
abbrev pub writing : List Rule
writing = lettered 110 (codes "--dry-run") ∷ flag (codes "--overwrite") ∷ flag (codes "--in-use") ∷ flag (codes "--force")
    ∷ value (codes "--lock") ∷ value (codes "--backup") ∷ showing

-- A command that reads an image.
abbrev pub look : Text → List Rule → Shape
look name rules = with_words name ((text_place (codes "IMAGE") ∷ rules) ++ showing)

abbrev pub change : Text → List Rule → Shape
change name rules = with_words name ((text_place (codes "IMAGE") ∷ rules) ++ writing)

-- The commands that only read.
abbrev pub looks : List Shape
looks = look (codes "show") (place (codes "N") ∷ place (codes "FIELD") ∷ flag (codes "--map") ∷ flag (codes "--short") ∷ [])
    ∷ look (codes "check") []
    ∷ look (codes "free") (value (codes "--align") ∷ [])
    ∷ look (codes "dump") (flag (codes "--sfdisk") ∷ [])
    ∷ look (codes "salvage") []
    ∷ with_words (codes "types") (flag (codes "--json") ∷ [])
    ∷ []

abbrev pub fit : Rule
fit = flag (codes "--fit")

abbrev pub added : List Rule
added = value (codes "--type") ∷ value (codes "--size") ∷ value (codes "--name") ∷ value (codes "--guid")
    ∷ value (codes "--attributes") ∷ number (codes "--number") (2 ^ 32 - 1) ∷ value (codes "--start") ∷ value (codes "--end")
    ∷ value (codes "--place") ∷ value (codes "--align") ∷ value (codes "--script") ∷ fit ∷ []

abbrev pub set : List Rule
set = place (codes "N") ∷ value (codes "--name") ∷ value (codes "--type") ∷ value (codes "--guid") ∷ flag (codes "--random-guid")
    ∷ value (codes "--attributes") ∷ number (codes "--number") (2 ^ 32 - 1) ∷ value (codes "--disk-guid") ∷ fit ∷ []

abbrev pub changes : List Shape
changes = change (codes "new") (value (codes "--guid") ∷ number (codes "--entries") 32768 ∷ [])
    ∷ change (codes "add") added
    ∷ change (codes "set") set
    ∷ change (codes "resize") (text_place (codes "N") ∷ place (codes "SIZE|max") ∷ value (codes "--end") ∷ fit ∷ [])
    ∷ change (codes "remove") (text_places (codes "N") ∷ fit ∷ [])
    ∷ change (codes "sort") (fit ∷ [])
    ∷ change (codes "grow") (place (codes "N") ∷ flag (codes "--random-guids") ∷ [])
    ∷ change (codes "repair") (flag (codes "--bounds") ∷ fit ∷ [])
    ∷ change (codes "randomize") (fit ∷ [])
    ∷ change (codes "apply") (text_place (codes "FILE") ∷ flag (codes "--replace") ∷ flag (codes "--create") ∷ fit ∷ [])
    ∷ change (codes "wipe") []
    ∷ []

-- A command is required, and there is a version.
abbrev pub top : Shape
top = record (new_shape (codes "gptedit")) {
  is_leaf = false;
  has_version = true;
  subcommand_required = true;
  arg_required_else_help = true;
}

unfoldable pub line : App
line = record { top = top; subs = looks ++ changes }
