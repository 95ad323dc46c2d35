-- The request of a command line, and the reasons for which one is refused.
use Rattle.std.specs.Prelude.{◌≡◌, ◌≢◌, ◌⊎◌, ℕ, List, [], map, Some, None, Err, codes, String, string_bytes}
use Rattle.clap.specs.Words.{fault_of, kind_of, rows_of, subcommand_of, IsAmong}
use Rattle.clap.specs.declared.error.Error.{Error}
use Rattle.clap.specs.declared.error.kind.ErrorKind.TheVariants as kind
use Rattle.clap.specs.declared.parser.matches.Found.{Found}
use Rattle.gptedit_words.specs.Asks.{IsCommandLine}
use Rattle.gptedit_words.specs.Line.{line}
use Rattle.gptedit_words.specs.Refusals.{CanAsk, RefusedOnlyFor}
use Rattle.gptedit_words.specs.declared.error.WordsError.{WordsError}
use Rattle.gptedit_words.specs.declared.error.WordsError.TheVariants.{Conflict, LongName, Missing, NothingToSet, OutOfMemory, Sector, Usage, Value}
use Rattle.gptedit_words.specs.declared.request.CommandLine.{CommandLine}

-- The bytes of each argument.
abbrev pub texts_of : {A : Type 0} → List (String A) → List (List ℕ)
texts_of words = map string_bytes words

-- The command line has no fault, has the command of this name, and `found` are the command's own arguments.
pub record Names (words : List (List ℕ)) (name : List ℕ) (found : Found) : Type 0 where
  pub faultless : fault_of line words ≡ []
  pub command : subcommand_of line words ≡ Some (name, rows_of found)

-- The command line is this request.
pub record IsSpelled (words : List (List ℕ)) (request : CommandLine) : Type 0 where
  pub name : List ℕ
  pub found : Found
  pub named : Names words name found
  pub asks : IsCommandLine name found request

-- The command's own arguments are refused for this reason.
pub record IsWrongOf (words : List (List ℕ)) (error : WordsError) : Type 0 where
  pub name : List ℕ
  pub found : Found
  pub named : Names words name found
  pub reason : RefusedOnlyFor {A = CommandLine} found ((name ≢ codes "types") × ¬ (CanAsk name found)) (Err error)

-- The command line is refused for this reason.
abbrev pub IsRefused : List (List ℕ) → WordsError → Type 0
IsRefused words OutOfMemory = Unit {0}
IsRefused words (Usage error) = IsAmong (kind_of error) (fault_of line words) ⊎ IsWrongOf words (Usage error)
IsRefused words (Missing word) = (subcommand_of line words ≡ None) ⊎ IsWrongOf words (Missing word)
IsRefused words (LongName text) = IsWrongOf words (LongName text)
IsRefused words (Value word text wrong) = IsWrongOf words (Value word text wrong)
IsRefused words (Sector text) = IsWrongOf words (Sector text)
IsRefused words NothingToSet = IsWrongOf words NothingToSet
IsRefused words (Conflict one other) = IsWrongOf words (Conflict one other)

-- An error of `clap` becomes `OutOfMemory` if it is an allocation failure, else `Usage`.
abbrev pub IsOfUsage : Error → WordsError → Type 0
IsOfUsage e error = ((kind_of e ≡ kind.OutOfMemory) × (error ≡ OutOfMemory)) ⊎ ((kind_of e ≢ kind.OutOfMemory) × (error ≡ Usage e))
