-- The forms of a GUID. A GUID is the list of its 16 bytes as on a disk, and a text is the list of its bytes.
use Rattle.std.specs.Prelude.{ℕ, List, ◌++◌, drop, reverse, take, Option}
use Rattle.std.specs.Option.{option_map}
use Rattle.uuid.specs.Parts.{with_variant, with_version}
use Rattle.uuid.specs.Text.{hyphenated_text, lower, parsed_hyphenated, parsed_simple, simple_text, upper}
use Rattle.uuid.specs.declared.Variant.TheVariants.{RFC4122}
use Rattle.uuid.specs.declared.Version.TheVariants.{Random}

-- Converts the bytes of a text to the order of the disk, and back: the bytes of each of the first three groups, of 4,
-- 2 and 2 bytes, are reversed, and the last 8 bytes are unchanged.
abbrev pub disk_order : List ℕ → List ℕ
disk_order bytes = reverse (take 4 bytes) ++ reverse (take 2 (drop 4 bytes)) ++ reverse (take 2 (drop 6 bytes)) ++ drop 8 bytes

-- The GUID of a text of 8-4-4-4-12 hexadecimal digits, in any case.
abbrev pub guid_of_text : List ℕ → Option (List ℕ)
guid_of_text text = option_map disk_order (parsed_hyphenated text)

-- The text of a GUID, in upper case.
abbrev pub text_form : List ℕ → List ℕ
text_form guid = hyphenated_text upper (disk_order guid)

-- The GUID of 32 hexadecimal digits, in any case.
abbrev pub guid_of_digits : List ℕ → Option (List ℕ)
guid_of_digits text = parsed_simple text

-- The digits of a GUID, in lower case.
abbrev pub digits_form : List ℕ → List ℕ
digits_form guid = simple_text lower guid

-- The GUID that 16 random bytes make. In the order of the text its version is set to 4 and its variant to that of RFC
-- 9562; all other bits are unchanged.
abbrev pub random_form : List ℕ → List ℕ
random_form drawn = disk_order (with_version (with_variant drawn RFC4122) Random)
