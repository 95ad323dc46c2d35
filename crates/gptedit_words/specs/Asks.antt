-- The meaning of a command's arguments, by the values that the command line has for each option and place.
use Rattle.std.specs.Prelude.{◌≡◌, ◌≢◌, ◌⊎◌, ◌^◌, ◌<◌, ℕ, Bool, true, false, List, [], ◌∷◌, Option, Some, None, Ok, codes, option_map, ◌||◌, is_some}
use Rattle.std.specs.Str.Parse.{digits_value, without_leading_plus, IsNumeral}
use Rattle.clap.specs.Words.{first_value, matched_of, one_text, raw_values}
use Rattle.clap.specs.declared.parser.matches.Found.{Found}
use Rattle.gptman.specs.declared.codec.name.PartitionName.{PartitionName}
use Rattle.gptedit_core.specs.declared.amount.Amount.{Amount}
use Rattle.gptedit_core.specs.declared.amount.Amount.TheVariants.{Bytes, Sectors}
use Rattle.gptedit_core.specs.declared.asked.Asked.{Asked}
use Rattle.gptedit_core.specs.declared.asked.Choice.{Choice}
use Rattle.gptedit_core.specs.declared.asked.Choice.TheVariants.{First}
use Rattle.gptedit_core.specs.declared.asked.RequestedLayout.{RequestedLayout}
use Rattle.gptedit_core.specs.declared.asked.Mode.TheVariants.{Add as Adding}
use Rattle.gptedit_core.specs.declared.measure.Extent.{Extent}
use Rattle.gptedit_core.specs.declared.measure.Extent.TheVariants.{Size, Rest, End, More, Less}
use Rattle.gptedit_core.specs.declared.measure.Measure.{Measure}
use Rattle.gptedit_core.specs.declared.measure.Measure.TheVariants.{Exactly, About, Share}
use Rattle.gptedit_core.specs.declared.measure.Position.{Position}
use Rattle.gptedit_core.specs.declared.measure.Position.TheVariants.{FromStart, FromEnd}
use Rattle.gptedit_core.specs.declared.setting.NewGuid.{NewGuid}
use Rattle.gptedit_core.specs.declared.setting.NewGuid.TheVariants.{Given, Random}
use Rattle.gptedit_core.specs.declared.setting.Setting.{Setting}
use Rattle.gptedit_core.specs.declared.target.Target.{Target}
use Rattle.gptedit_values.specs.Fields.{SaysField}
use Rattle.gptedit_values.specs.Measures.{SaysLength, SaysNewLength, SaysPosition}
use Rattle.gptedit_values.specs.Steps.{SaysChange}
use Rattle.gptedit_values.specs.Words.{choice_said, guid_said, type_said, FitsAmount, SaysAmount, SaysAttributes, SaysTarget}
use Rattle.gptedit_words.specs.declared.request.Change.{Change}
use Rattle.gptedit_words.specs.declared.request.Change.TheVariants.{New, Add, AddScript, Set, SetDisk, Resize, Remove, Sort, Grow, Repair, Randomize, Apply, Wipe}
use Rattle.gptedit_words.specs.declared.request.Command.{Command}
use Rattle.gptedit_words.specs.declared.request.Command.TheVariants.{Show, Check, Free, Dump, Salvage, Write}
use Rattle.gptedit_words.specs.declared.request.ImageRequest.{ImageRequest}
use Rattle.gptedit_words.specs.declared.request.Lock.{Lock}
use Rattle.gptedit_words.specs.declared.request.Lock.TheVariants.{Wait, Fail, None as Unlocked}
use Rattle.gptedit_words.specs.declared.request.NewTable.{NewTable}
use Rattle.gptedit_words.specs.declared.request.Options.{Options}
use Rattle.gptedit_words.specs.declared.request.View.{View}
use Rattle.gptedit_words.specs.declared.request.View.TheVariants.{Table, Map, Short, Partition, Field}
use Rattle.gptedit_words.specs.declared.request.CommandLine.{CommandLine}
use Rattle.gptedit_words.specs.declared.request.CommandLine.TheVariants.{Types, Image}

-- The value is the meaning of the text, or None if there is no text.
abbrev pub Gives : {A : Type 0} → (List ℕ → A → Type 0) → Option (List ℕ) → Option A → Type 0
Gives says None None = Unit {0}
Gives says (Some text) (Some value) = says text value
Gives says text value = ⊥

-- The value is the meaning of the text, or the default if there is no text.
abbrev pub GivesOr : {A : Type 0} → (List ℕ → A → Type 0) → A → Option (List ℕ) → A → Type 0
GivesOr says usual None value = value ≡ usual
GivesOr says usual (Some text) value = says text value

-- The text is a decimal number with this value.
abbrev pub SaysNumber : List ℕ → ℕ → Type 0
SaysNumber text number = IsNumeral 10 (without_leading_plus text) × (digits_value 10 (without_leading_plus text) ≡ number)

-- The argument has this number.
abbrev pub IsNumberOf : Found → List ℕ → ℕ → Type 0
IsNumberOf found word number = (one_text found word ≢ None) × ((text : List ℕ) → one_text found word ≡ Some text → SaysNumber text number)

-- The argument has this number, or is not given if the number is None.
abbrev pub MayHaveNumberOf : Found → List ℕ → Option ℕ → Type 0
MayHaveNumberOf found word (Some number) = IsNumberOf found word number
MayHaveNumberOf found word None = one_text found word ≡ None

-- The argument is this partition.
abbrev pub IsTargetOf : Found → List ℕ → Target → Type 0
IsTargetOf found word target = Gives SaysTarget (first_value found word) (Some target)

-- These are the partitions of the texts, in their order.
abbrev pub AreTargets : List (List ℕ) → List Target → Type 0
AreTargets [] [] = Unit {0}
AreTargets (text ∷ texts) (target ∷ targets) = SaysTarget text target × AreTargets texts targets
AreTargets texts targets = ⊥

-- The flag is given.
abbrev pub IsSet : Found → List ℕ → Type 0
IsSet found word = one_text found word ≡ Some (codes "true")

abbrev pub IsUnset : Found → List ℕ → Type 0
IsUnset found word = (one_text found word ≡ None) ⊎ (one_text found word ≡ Some (codes "false"))

abbrev pub IsFlag : Found → List ℕ → Bool → Type 0
IsFlag found word is_set = (IsSet found word → is_set ≡ true) × (IsUnset found word → is_set ≡ false)

-- The result is true if one of two flags is given, and false if none is.
abbrev pub IsEither : Found → List ℕ → List ℕ → Bool → Type 0
IsEither found one other is_set = (IsSet found one → is_set ≡ true) × (IsSet found other → is_set ≡ true)
    × (IsUnset found one → IsUnset found other → is_set ≡ false)

-- The text names this partition type.
abbrev pub SaysType : List ℕ → List ℕ → Type 0
SaysType text guid = type_said text ≡ Ok guid

abbrev pub SaysGuid : List ℕ → List ℕ → Type 0
SaysGuid text guid = guid_said text ≡ Ok guid

abbrev pub SaysChoice : List ℕ → Choice → Type 0
SaysChoice text choice = choice_said text ≡ Ok choice

abbrev pub SaysName : List ℕ → PartitionName → Type 0
SaysName text name = name.text ≡ text

-- The text is a new GUID: a GUID, or `random`.
abbrev pub SaysNewGuid : List ℕ → NewGuid → Type 0
SaysNewGuid text (Given guid) = SaysGuid text guid
SaysNewGuid text Random = text ≡ codes "random"

-- The text says what to do if the image is locked.
abbrev pub SaysLock : List ℕ → Lock → Type 0
SaysLock text Wait = text ≡ codes "wait"
SaysLock text Fail = text ≡ codes "fail"
SaysLock text Unlocked = text ≡ codes "none"

-- The text is given and invalid.
abbrev pub IsWrong : (List ℕ → Type 0) → Option (List ℕ) → Type 0
IsWrong none None = ⊥
IsWrong none (Some text) = none text

-- The text is missing or invalid.
abbrev pub IsMissingOrWrong : (List ℕ → Type 0) → Option (List ℕ) → Type 0
IsMissingOrWrong none None = Unit {0}
IsMissingOrWrong none (Some text) = none text

-- The text is not a number below 2^32.
abbrev pub SaysNoNumber : List ℕ → Type 0
SaysNoNumber text = ¬ (IsNumeral 10 (without_leading_plus text) × (digits_value 10 (without_leading_plus text) < 2 ^ 32))

abbrev pub SaysNoAmount : List ℕ → Type 0
SaysNoAmount text = (amount : Amount) → SaysAmount text amount → ¬ (FitsAmount amount)

abbrev pub SaysNoType : List ℕ → Type 0
SaysNoType text = (guid : List ℕ) → ¬ (SaysType text guid)

abbrev pub SaysNoGuid : List ℕ → Type 0
SaysNoGuid text = (guid : List ℕ) → ¬ (SaysGuid text guid)

abbrev pub SaysNoNewGuid : List ℕ → Type 0
SaysNoNewGuid text = (guid : NewGuid) → ¬ (SaysNewGuid text guid)

abbrev pub SaysNoChoice : List ℕ → Type 0
SaysNoChoice text = (choice : Choice) → ¬ (SaysChoice text choice)

abbrev pub SaysNoLock : List ℕ → Type 0
SaysNoLock text = (lock : Lock) → ¬ (SaysLock text lock)

-- The default alignment of places, 1 MiB.
abbrev pub usual_align : Amount
usual_align = Bytes (2 ^ 20)

-- The fields of the entry are those of the options.
pub record AsksFields (found : Found) (asked : Asked) : Type 0 where
  pub type : Gives SaysType (first_value found (codes "--type")) asked.type_guid
  pub guid : Gives SaysGuid (first_value found (codes "--guid")) asked.unique_guid
  pub attributes : Gives SaysAttributes (first_value found (codes "--attributes")) asked.attributes
  pub name : Gives SaysName (first_value found (codes "--name")) asked.name

-- The place stays unchanged.
abbrev pub KeepsPlace : Asked → Type 0
KeepsPlace asked = (asked.start ≡ None) × (asked.size ≡ None)

-- The list has one element, for which this holds.
abbrev pub IsOne : (Asked → Type 0) → List Asked → Type 0
IsOne asks (asked ∷ []) = asks asked
IsOne asks entries = ⊥

-- The layout only adds one entry, and its request is such.
pub record AddsOne (asks : Asked → Type 0) (layout : RequestedLayout) : Type 0 where
  pub mode_is : layout.mode ≡ Adding
  pub guid_stays : layout.disk_guid ≡ None
  pub removes_none : layout.removed.items ≡ []
  pub one : IsOne asks layout.asked.items

-- The extent is the given size or the given end. Exactly one is given.
abbrev pub IsExtent : Option Extent → Option Position → Extent → Type 0
IsExtent (Some size) None extent = extent ≡ size
IsExtent None (Some position) extent = extent ≡ End position
IsExtent size end extent = ⊥

-- The extent is the meaning of the text of a size or of an end. Exactly one text is given.
abbrev pub SaysExtentBy : (List ℕ → Extent → Type 0) → Option (List ℕ) → Option (List ℕ) → Extent → Type 0
SaysExtentBy says (Some text) None extent = says text extent
SaysExtentBy says None (Some text) (End position) = SaysPosition text position
SaysExtentBy says size end extent = ⊥

-- `resize IMAGE N SIZE` or `resize IMAGE N --end POSITION` changes only the size of partition N.
abbrev pub IsResize : Found → Change → Type 0
IsResize found (Resize target extent) = IsTargetOf found (codes "N") target
    × SaysExtentBy SaysNewLength (first_value found (codes "SIZE|max")) (first_value found (codes "--end")) extent
IsResize found change = ⊥

-- The partition gets the GUID of `--guid`, or a random one, or neither option is given.
abbrev pub IsOwnGuidOf : Found → Option NewGuid → Type 0
IsOwnGuidOf found None = (first_value found (codes "--guid") ≡ None) × ¬ (IsSet found (codes "--random-guid"))
IsOwnGuidOf found (Some (Given guid)) = Gives SaysGuid (first_value found (codes "--guid")) (Some guid) × ¬ (IsSet found (codes "--random-guid"))
IsOwnGuidOf found (Some Random) = (first_value found (codes "--guid") ≡ None) × ¬ (IsUnset found (codes "--random-guid"))

-- The fields of the setting are those of the options.
pub record AsksSetting (found : Found) (setting : Setting) : Type 0 where
  pub type : Gives SaysType (first_value found (codes "--type")) setting.type_guid
  pub guid : IsOwnGuidOf found setting.guid
  pub attributes : Gives SaysChange (first_value found (codes "--attributes")) setting.attributes
  pub name : Gives SaysName (first_value found (codes "--name")) setting.name
  pub number : MayHaveNumberOf found (codes "--number") setting.number

-- Whether a value for a field of an entry is given.
unfoldable pub gives_value : Found → Bool
gives_value found = is_some (matched_of found (codes "--name")) || (is_some (matched_of found (codes "--type"))
    || (is_some (matched_of found (codes "--guid")) || (is_some (matched_of found (codes "--attributes"))
    || is_some (matched_of found (codes "--number")))))

-- A field of an entry is given: a value for one, or a random GUID.
abbrev pub GivesField : Found → Type 0
GivesField found = (gives_value found ≡ true) ⊎ ¬ (IsUnset found (codes "--random-guid"))

abbrev pub GivesNoField : Found → Type 0
GivesNoField found = (gives_value found ≡ false) × ¬ (IsSet found (codes "--random-guid"))

-- `set IMAGE N` changes only the given fields of partition N, and `set IMAGE --disk-guid` only the GUID of the disk.
abbrev pub IsSetting : Found → Change → Type 0
IsSetting found (Set target setting) = IsTargetOf found (codes "N") target × (AsksSetting found setting × (first_value found (codes "--disk-guid") ≡ None))
IsSetting found (SetDisk guid) = Gives SaysNewGuid (first_value found (codes "--disk-guid")) (Some guid) × ((first_value found (codes "N") ≡ None) × GivesNoField found)
IsSetting found change = ⊥

-- `add IMAGE` adds an entry with these values.
pub record AsksAddition (found : Found) (asked : Asked) : Type 0 where
  pub typed : first_value found (codes "--type") ≢ None
  pub number : MayHaveNumberOf found (codes "--number") asked.number
  pub fields : AsksFields found asked
  pub no_place : KeepsPlace asked
  pub place : GivesOr SaysChoice First (first_value found (codes "--place")) asked.choice

-- `add` has this start, if any, and this size or end. An end has a start.
pub record AsksPlace (found : Found) (start : Option Position) (extent : Extent) : Type 0 where
  pub start_is : Gives SaysPosition (first_value found (codes "--start")) start
  pub extent_is : SaysExtentBy SaysLength (first_value found (codes "--size")) (first_value found (codes "--end")) extent
  pub end_has_start : first_value found (codes "--end") ≢ None → start ≢ None

-- Whether the measure is rounded to the alignment.
abbrev pub is_rounded : Measure → Bool
is_rounded (Exactly amount) = false
is_rounded (About bytes) = true
is_rounded (Share parts) = true

-- Whether the position is rounded to the alignment. From the end of the usable sectors bytes are rounded too.
abbrev pub is_rounded_at : Position → Bool
is_rounded_at (FromStart measure) = is_rounded measure
is_rounded_at (FromEnd (Exactly (Sectors count))) = false
is_rounded_at (FromEnd (Exactly (Bytes count))) = true
is_rounded_at (FromEnd (About bytes)) = true
is_rounded_at (FromEnd (Share parts)) = true

-- Whether the end of the partition is rounded to the alignment.
abbrev pub is_rounded_to : Extent → Bool
is_rounded_to (Size measure) = is_rounded measure
is_rounded_to Rest = true
is_rounded_to (End position) = is_rounded_at position
is_rounded_to (More measure) = is_rounded measure
is_rounded_to (Less measure) = is_rounded measure

-- Whether an alignment has an effect: a start is chosen, or the start or the end is rounded.
abbrev pub uses_align : Option Position → Extent → Bool
uses_align None extent = true
uses_align (Some start) extent = is_rounded_at start || is_rounded_to extent

-- With a start no place is chosen, and `--align` is given only if it has an effect.
pub record HasEffect (found : Found) (start : Option Position) (extent : Extent) : Type 0 where
  pub place : start ≢ None → first_value found (codes "--place") ≡ None
  pub align : uses_align start extent ≡ false → first_value found (codes "--align") ≡ None

-- Whether `add` is given an option for one partition.
unfoldable pub gives_partition : Found → Bool
gives_partition found = gives_value found || (is_some (matched_of found (codes "--size")) || (is_some (matched_of found (codes "--start"))
    || (is_some (matched_of found (codes "--end")) || (is_some (matched_of found (codes "--place"))
    || is_some (matched_of found (codes "--align"))))))

-- `add IMAGE` adds one partition, and `add IMAGE --script FILE` those of a script.
abbrev pub IsAddition : Found → Change → Type 0
IsAddition found (Add layout start extent) = (first_value found (codes "--script") ≡ None) × (AddsOne (AsksAddition found) layout
    × (GivesOr SaysAmount usual_align (first_value found (codes "--align")) layout.align × (AsksPlace found start extent × HasEffect found start extent)))
IsAddition found (AddScript file) = (first_value found (codes "--script") ≡ Some file.now) × (gives_partition found ≡ false)
IsAddition found change = ⊥

-- The texts of an argument.
abbrev pub texts_of_place : Found → List ℕ → Option (List (List ℕ))
texts_of_place found word = option_map raw_values (matched_of found word)

-- These are the partitions of an argument, in their order.
abbrev pub HasTargets : Option (List (List ℕ)) → List Target → Type 0
HasTargets (Some texts) targets = AreTargets texts targets
HasTargets None targets = ⊥

-- `remove IMAGE N..` removes these partitions, in their order.
abbrev pub IsRemoval : Found → Change → Type 0
IsRemoval found (Remove targets) = HasTargets (texts_of_place found (codes "N")) targets.items
IsRemoval found change = ⊥

-- `new IMAGE` makes a table with these values.
pub record AsksNew (found : Found) (new : NewTable) : Type 0 where
  pub guid : Gives SaysGuid (first_value found (codes "--guid")) new.guid
  pub entries : MayHaveNumberOf found (codes "--entries") new.entries

-- `grow IMAGE` extends this partition, if any, and sets random GUIDs if `--random-guids` is given.
pub record AsksGrowth (found : Found) (target : Option Target) (has_random_guids : Bool) : Type 0 where
  pub target_is : Gives SaysTarget (first_value found (codes "N")) target
  pub randomizes : IsFlag found (codes "--random-guids") has_random_guids

-- `apply IMAGE FILE` has this file and these flags.
pub record AsksApply (found : Found) (file : List ℕ) (is_replacing is_creating : Bool) : Type 0 where
  pub file_is : first_value found (codes "FILE") ≡ Some file
  pub replaces : IsFlag found (codes "--replace") is_replacing
  pub creates : IsFlag found (codes "--create") is_creating

-- The command of this name makes this change, with these arguments.
abbrev pub IsChange : List ℕ → Found → Change → Type 0
IsChange name found (New new) = (name ≡ codes "new") × AsksNew found new
IsChange name found (Add layout start extent) = (name ≡ codes "add") × IsAddition found (Add layout start extent)
IsChange name found (AddScript file) = (name ≡ codes "add") × IsAddition found (AddScript file)
IsChange name found (Set target setting) = (name ≡ codes "set") × IsSetting found (Set target setting)
IsChange name found (SetDisk guid) = (name ≡ codes "set") × IsSetting found (SetDisk guid)
IsChange name found (Resize target extent) = (name ≡ codes "resize") × IsResize found (Resize target extent)
IsChange name found (Remove targets) = (name ≡ codes "remove") × IsRemoval found (Remove targets)
IsChange name found Sort = name ≡ codes "sort"
IsChange name found (Grow target has_random_guids) = (name ≡ codes "grow") × AsksGrowth found target has_random_guids
IsChange name found (Repair has_usual_bounds) = (name ≡ codes "repair") × IsFlag found (codes "--bounds") has_usual_bounds
IsChange name found Randomize = name ≡ codes "randomize"
IsChange name found (Apply file is_replacing is_creating) = (name ≡ codes "apply") × AsksApply found file.now is_replacing is_creating
IsChange name found Wipe = name ≡ codes "wipe"

-- The options of the change are the given ones.
pub record AsksOptions (found : Found) (options : Options) : Type 0 where
  pub fits : IsFlag found (codes "--fit") options.is_fitted
  pub dry : IsFlag found (codes "--dry-run") options.is_dry
  pub overwrites : IsEither found (codes "--overwrite") (codes "--force") options.may_overwrite
  pub uses : IsEither found (codes "--in-use") (codes "--force") options.may_use
  pub lock_is : GivesOr SaysLock Wait (first_value found (codes "--lock")) options.lock
  pub backup_is : option_map (λ file. file.now) options.backup ≡ first_value found (codes "--backup")

-- `show IMAGE` prints the table in this form.
pub record AsksForm (found : Found) (has_map is_short : Bool) : Type 0 where
  pub map : IsFlag found (codes "--map") has_map
  pub short : IsFlag found (codes "--short") is_short
  pub whole : first_value found (codes "N") ≡ None

-- Neither the map nor the short form is asked for.
pub record IsPlain (found : Found) : Type 0 where
  pub no_map : ¬ (IsSet found (codes "--map"))
  pub no_short : ¬ (IsSet found (codes "--short"))

-- `show IMAGE N` prints the fields of this partition, or the field FIELD.
abbrev pub IsViewOf : Found → Target → View → Type 0
IsViewOf found target (Partition shown) = (shown ≡ target) × (first_value found (codes "FIELD") ≡ None)
IsViewOf found target (Field shown field) = (shown ≡ target) × Gives SaysField (first_value found (codes "FIELD")) (Some field)
IsViewOf found target view = ⊥

-- `show` prints this. A map and the short form are not JSON, and are of the whole table.
abbrev pub IsView : Found → View → Type 0
IsView found Table = AsksForm found false false
IsView found Map = AsksForm found true false × ¬ (IsSet found (codes "--json"))
IsView found Short = AsksForm found false true × ¬ (IsSet found (codes "--json"))
IsView found (Partition target) = IsTargetOf found (codes "N") target × (IsViewOf found target (Partition target) × IsPlain found)
IsView found (Field target field) = IsTargetOf found (codes "N") target × (IsViewOf found target (Field target field) × IsPlain found)

-- `dump IMAGE` prints a script if `--sfdisk` is given. A script is not JSON.
pub record AsksDump (found : Found) (is_script : Bool) : Type 0 where
  pub script : IsFlag found (codes "--sfdisk") is_script
  pub text : IsSet found (codes "--sfdisk") → ¬ (IsSet found (codes "--json"))

-- The command of this name does this with an image, with these arguments.
abbrev pub IsCommand : List ℕ → Found → Command → Type 0
IsCommand name found (Show view) = (name ≡ codes "show") × IsView found view
IsCommand name found Check = name ≡ codes "check"
IsCommand name found (Free align) = (name ≡ codes "free") × Gives SaysAmount (first_value found (codes "--align")) align
IsCommand name found (Dump is_script) = (name ≡ codes "dump") × AsksDump found is_script
IsCommand name found Salvage = name ≡ codes "salvage"
IsCommand name found (Write change options) = IsChange name found change × AsksOptions found options

-- A valid sector size.
abbrev pub IsSectorSize : ℕ → Type 0
IsSectorSize bytes = (bytes ≡ 512) ⊎ ((bytes ≡ 1024) ⊎ ((bytes ≡ 2048) ⊎ (bytes ≡ 4096)))

-- A sector size is given and invalid.
pub record IsNoSectorOf (found : Found) : Type 0 where
  pub given : first_value found (codes "--sector") ≢ None
  pub fixed : first_value found (codes "--sector") ≢ Some (codes "auto")
  pub none : (bytes : ℕ) → IsSectorSize bytes → ¬ (IsNumberOf found (codes "--sector") bytes)

-- The sector size is the given one, or None to detect it.
abbrev pub IsSectorOf : Found → Option ℕ → Type 0
IsSectorOf found (Some bytes) = IsSectorSize bytes × IsNumberOf found (codes "--sector") bytes
IsSectorOf found None = (first_value found (codes "--sector") ≡ None) ⊎ (first_value found (codes "--sector") ≡ Some (codes "auto"))

-- The image, the sector size and the command are those of the arguments.
pub record AsksImage (name : List ℕ) (found : Found) (request : ImageRequest) : Type 0 where
  pub image_is : first_value found (codes "IMAGE") ≡ Some request.image.now
  pub sector : IsSectorOf found request.sector_size
  pub json : IsFlag found (codes "--json") request.is_json
  pub command_is : IsCommand name found request.command

-- The command of this name is this request, with these arguments.
abbrev pub IsCommandLine : List ℕ → Found → CommandLine → Type 0
IsCommandLine name found (Types is_json) = (name ≡ codes "types") × IsFlag found (codes "--json") is_json
IsCommandLine name found (Image request) = AsksImage name found request
