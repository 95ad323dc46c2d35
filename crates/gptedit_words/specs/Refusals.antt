-- The reasons for which a command line is refused: an invalid argument or an allocation failure.
use Rattle.std.specs.Prelude.{◌≡◌, ◌≢◌, ◌⊎◌, ℕ, List, [], ◌∷◌, Option, Some, None, Result, Ok, Err, codes, false, is_some}
use Rattle.clap.specs.Words.{first_value, one_text}
use Rattle.clap.specs.declared.parser.matches.Found.{Found}
use Rattle.gptedit_core.specs.declared.measure.Extent.{Extent}
use Rattle.gptedit_core.specs.declared.measure.Position.{Position}
use Rattle.gptedit_values.specs.Steps.{SaysNoChange}
use Rattle.gptedit_values.specs.Words.{SaysNoAttributes, SaysNoTarget}
use Rattle.gptedit_words.specs.Asks.{gives_partition, AsksPlace, HasEffect}
use Rattle.gptedit_words.specs.Asks.{GivesField, GivesNoField, IsMissingOrWrong, IsNoSectorOf, IsUnset, IsWrong, SaysNoNewGuid, texts_of_place}
use Rattle.gptedit_words.specs.Asks.{SaysNoAmount, SaysNoChoice, SaysNoGuid, SaysNoLock, SaysNoNumber, SaysNoType}
use Rattle.gptedit_values.specs.Fields.{SaysNoField}
use Rattle.gptedit_values.specs.Measures.{SaysNoLength, SaysNoNewLength, SaysNoPosition}
use Rattle.gptedit_words.specs.declared.error.WordsError.{WordsError}
use Rattle.gptedit_words.specs.declared.error.WordsError.TheVariants.{Conflict, LongName, Missing, NothingToSet, OutOfMemory, Sector, Usage, Value}

-- The arguments are refused for this reason, for a name that is too long, or because an allocation failed.
abbrev pub RefusedOnlyFor : {A : Type 0} → Found → Type 0 → Result A WordsError → Type 0
RefusedOnlyFor found reason (Ok value) = Unit {0}
RefusedOnlyFor found reason (Err OutOfMemory) = Unit {0}
RefusedOnlyFor found reason (Err (LongName text)) = reason ⊎ (first_value found (codes "--name") ≡ Some text.now)
RefusedOnlyFor found reason (Err (Usage error)) = reason
RefusedOnlyFor found reason (Err (Value word text wrong)) = reason
RefusedOnlyFor found reason (Err (Sector text)) = reason
RefusedOnlyFor found reason (Err NothingToSet) = reason
RefusedOnlyFor found reason (Err (Conflict one other)) = reason
RefusedOnlyFor found reason (Err (Missing word)) = reason

-- The given fields of an entry are valid.
pub record HasFields (found : Found) : Type 0 where
  pub type : ¬ (IsWrong SaysNoType (first_value found (codes "--type")))
  pub guid : ¬ (IsWrong SaysNoGuid (first_value found (codes "--guid")))
  pub attributes : ¬ (IsWrong SaysNoAttributes (first_value found (codes "--attributes")))

-- One of a size and an end is given.
abbrev pub HasOne : Option (List ℕ) → Option (List ℕ) → Type 0
HasOne size end = is_some size ≢ is_some end

-- The start, the size and the end of `add` are valid: a size or an end, and a start with an end.
pub record CanPlace (found : Found) : Type 0 where
  pub start : ¬ (IsWrong SaysNoPosition (first_value found (codes "--start")))
  pub size : ¬ (IsWrong SaysNoLength (first_value found (codes "--size")))
  pub end : ¬ (IsWrong SaysNoPosition (first_value found (codes "--end")))
  pub one : HasOne (first_value found (codes "--size")) (first_value found (codes "--end"))
  pub end_has_start : first_value found (codes "--end") ≢ None → first_value found (codes "--start") ≢ None

-- The arguments of `add` for one partition are valid.
pub record CanAddOne (found : Found) : Type 0 where
  pub typed : first_value found (codes "--type") ≢ None
  pub number : ¬ (IsWrong SaysNoNumber (one_text found (codes "--number")))
  pub spot : CanPlace found
  pub place : ¬ (IsWrong SaysNoChoice (first_value found (codes "--place")))
  pub align : ¬ (IsWrong SaysNoAmount (first_value found (codes "--align")))
  pub fields : HasFields found
  pub effect : (start : Option Position) (extent : Extent) → AsksPlace found start extent → HasEffect found start extent

-- The arguments of `add` are valid: a script, or those for one partition.
pub record CanAdd (found : Found) : Type 0 where
  pub script : first_value found (codes "--script") ≢ None → gives_partition found ≡ false
  pub one : first_value found (codes "--script") ≡ None → CanAddOne found

-- The partition N is given and valid.
abbrev pub HasTarget : Found → Type 0
HasTarget found = ¬ (IsMissingOrWrong SaysNoTarget (first_value found (codes "N")))

-- The GUID of `--guid` is valid, and `--random-guid` is not given with it.
pub record HasOwnGuid (found : Found) : Type 0 where
  pub valid : ¬ (IsWrong SaysNoGuid (first_value found (codes "--guid")))
  pub one : (first_value found (codes "--guid") ≡ None) ⊎ IsUnset found (codes "--random-guid")

-- The fields that `set` is given are valid.
pub record HasSetFields (found : Found) : Type 0 where
  pub type : ¬ (IsWrong SaysNoType (first_value found (codes "--type")))
  pub guid : HasOwnGuid found
  pub attributes : ¬ (IsWrong SaysNoChange (first_value found (codes "--attributes")))
  pub number : ¬ (IsWrong SaysNoNumber (one_text found (codes "--number")))

-- The arguments of `set` for a partition are valid.
pub record CanSetEntry (found : Found) : Type 0 where
  pub target : HasTarget found
  pub some : ¬ (GivesNoField found)
  pub fields : HasSetFields found

-- Nothing of a partition is given.
pub record IsOfDisk (found : Found) : Type 0 where
  pub whole : first_value found (codes "N") ≡ None
  pub only : ¬ (GivesField found)

-- The arguments of `set` are valid: those for the disk, or those for a partition.
pub record CanSet (found : Found) : Type 0 where
  pub guid : ¬ (IsWrong SaysNoNewGuid (first_value found (codes "--disk-guid")))
  pub disk : first_value found (codes "--disk-guid") ≢ None → IsOfDisk found
  pub entry : first_value found (codes "--disk-guid") ≡ None → CanSetEntry found

-- The arguments of `resize` are valid.
pub record CanResize (found : Found) : Type 0 where
  pub target : HasTarget found
  pub size : ¬ (IsWrong SaysNoNewLength (first_value found (codes "SIZE|max")))
  pub end : ¬ (IsWrong SaysNoPosition (first_value found (codes "--end")))
  pub one : HasOne (first_value found (codes "SIZE|max")) (first_value found (codes "--end"))

-- Each text is a partition.
abbrev pub AllTargets : List (List ℕ) → Type 0
AllTargets [] = Unit {0}
AllTargets (text ∷ texts) = ¬ (SaysNoTarget text) × AllTargets texts

-- The arguments of `remove` are valid.
abbrev pub CanRemove : Option (List (List ℕ)) → Type 0
CanRemove None = ⊥
CanRemove (Some texts) = AllTargets texts

-- The arguments of `new` are valid.
pub record CanMake (found : Found) : Type 0 where
  pub guid : ¬ (IsWrong SaysNoGuid (first_value found (codes "--guid")))
  pub entries : ¬ (IsWrong SaysNoNumber (one_text found (codes "--entries")))

-- The command changes a table.
abbrev pub IsOfChange : List ℕ → Type 0
IsOfChange name = (name ≡ codes "new") ⊎ ((name ≡ codes "add") ⊎ ((name ≡ codes "set") ⊎ ((name ≡ codes "resize")
    ⊎ ((name ≡ codes "remove") ⊎ ((name ≡ codes "sort") ⊎ ((name ≡ codes "grow") ⊎ ((name ≡ codes "repair")
    ⊎ ((name ≡ codes "randomize") ⊎ ((name ≡ codes "apply") ⊎ (name ≡ codes "wipe"))))))))))

-- The command changes a table, and its own arguments are valid.
pub record CanChange (name : List ℕ) (found : Found) : Type 0 where
  pub known : IsOfChange name
  pub new : name ≡ codes "new" → CanMake found
  pub add : name ≡ codes "add" → CanAdd found
  pub set : name ≡ codes "set" → CanSet found
  pub resize : name ≡ codes "resize" → CanResize found
  pub remove : name ≡ codes "remove" → CanRemove (texts_of_place found (codes "N"))
  pub grow : name ≡ codes "grow" → ¬ (IsWrong SaysNoTarget (first_value found (codes "N")))
  pub apply : name ≡ codes "apply" → first_value found (codes "FILE") ≢ None

-- The command only reads an image.
abbrev pub IsOfLook : List ℕ → Type 0
IsOfLook name = (name ≡ codes "show") ⊎ ((name ≡ codes "check") ⊎ ((name ≡ codes "free") ⊎ ((name ≡ codes "dump") ⊎ (name ≡ codes "salvage"))))

-- The arguments and options of a command that changes a table are valid.
pub record CanWrite (name : List ℕ) (found : Found) : Type 0 where
  pub change : CanChange name found
  pub lock : ¬ (IsWrong SaysNoLock (first_value found (codes "--lock")))

-- The arguments of `show` are valid: a partition and a field, one of the other forms as text, or none.
pub record CanShow (found : Found) : Type 0 where
  pub target : ¬ (IsWrong SaysNoTarget (first_value found (codes "N")))
  pub field : ¬ (IsWrong SaysNoField (first_value found (codes "FIELD")))
  pub map : IsUnset found (codes "--map") ⊎ ((IsUnset found (codes "--short") × IsUnset found (codes "--json"))
      × (first_value found (codes "N") ≡ None))
  pub short : IsUnset found (codes "--short") ⊎ (IsUnset found (codes "--json") × (first_value found (codes "N") ≡ None))

-- The arguments of `dump` are valid: not both `--sfdisk` and `--json`.
abbrev pub CanDump : Found → Type 0
CanDump found = IsUnset found (codes "--sfdisk") ⊎ IsUnset found (codes "--json")

-- The arguments of this command are valid.
pub record CanRun (name : List ℕ) (found : Found) : Type 0 where
  pub show : name ≡ codes "show" → CanShow found
  pub dump : name ≡ codes "dump" → CanDump found
  pub free : name ≡ codes "free" → ¬ (IsWrong SaysNoAmount (first_value found (codes "--align")))
  pub write : IsOfLook name ⊎ CanWrite name found

-- The arguments of this command are valid, and those for the image.
pub record CanAsk (name : List ℕ) (found : Found) : Type 0 where
  pub image : first_value found (codes "IMAGE") ≢ None
  pub sector : ¬ (IsNoSectorOf found)
  pub run : CanRun name found
