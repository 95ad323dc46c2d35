-- Names of partitions as UTF-8.
use Rattle.std.specs.Prelude.{ℕ, List, encode_utf8_all}
use Rattle.gptman.specs.Name.{text_of}

-- the UTF-8 of the name with these units
abbrev pub name_text : List ℕ → List ℕ
name_text units = encode_utf8_all (text_of units)
