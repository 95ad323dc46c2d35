-- The names of the fields of a partition.
use Rattle.std.specs.Prelude.{◌≡◌, ℕ, List, codes}
use Rattle.gptedit_values.specs.declared.field.Field.{Field}
use Rattle.gptedit_values.specs.declared.field.Field.TheVariants.{Number, Start, End, Size, Offset, SizeBytes, «Type» as Kind, Guid, Name, Attributes}

-- The word is the name of the field.
abbrev pub SaysField : List ℕ → Field → Type 0
SaysField word Number = word ≡ codes "number"
SaysField word Start = word ≡ codes "start"
SaysField word End = word ≡ codes "end"
SaysField word Size = word ≡ codes "size"
SaysField word Offset = word ≡ codes "offset"
SaysField word SizeBytes = word ≡ codes "size-bytes"
SaysField word Kind = word ≡ codes "type"
SaysField word Guid = word ≡ codes "guid"
SaysField word Name = word ≡ codes "name"
SaysField word Attributes = word ≡ codes "attributes"

-- The word is not the name of a field.
abbrev pub SaysNoField : List ℕ → Type 0
SaysNoField word = (field : Field) → ¬ (SaysField word field)
