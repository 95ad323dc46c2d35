-- The meaning of scripts.
use Rattle.std.specs.Prelude.{◌≡◌, None}
use Rattle.gptedit_text.specs.declared.table_header.Header.{Header}

-- The header has at most the size of a sector.
pub record HasOnlySectorSize (header : Header) : Type 0 where
  pub entries : header.entries ≡ None
  pub first : header.first_usable ≡ None
  pub last : header.last_usable ≡ None
