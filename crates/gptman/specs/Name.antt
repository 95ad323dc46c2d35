-- The name of a partition in contracts, and how its units of UTF-16 are decoded.
use Rattle.std.specs.Prelude.{ℕ, Bool, nat_eq, List, ◌++◌, length, min, take, replicate, flat_map, ◌≡◌}
use Rattle.std.specs.List.{before_first}
use Rattle.std.specs.Char.Escape.{encode_utf16}
use Rattle.std.specs.Char.Utf16.{utf16_lossy_chars}
use Rattle.std.specs.Ordering.{eq_of_both}
use Rattle.std.specs.Cmp.{IsEquivalence, on_equiv, and_equiv}
use Rattle.std.specs.Cmp.Lexicographic.{nat_list_eq_equiv}
use lib.Pointwise.{pointwise}

-- A name: the bytes of its text in UTF-8, and its 36 units.
pub record Name : Type 0 where
  pub text : List ℕ
  pub units : List ℕ

-- The text of a name's units: of those before the first zero, or of all. An unpaired surrogate becomes U+FFFD.
abbrev pub text_of : List ℕ → List ℕ
text_of units = utf16_lossy_chars (before_first (λ u. nat_eq u 0) units)

-- Units, truncated or padded with zeros to 36.
abbrev pub filled : List ℕ → List ℕ
filled us = take 36 (us ++ replicate 36 0)

-- The units of a text, truncated or padded to 36.
abbrev pub units_of : List ℕ → List ℕ
units_of cs = filled (flat_map encode_utf16 cs)

-- An array of 36 units has the first units of a list, padded with zeros; len is how many fit.
pub record HasUnits (units : List ℕ) (len : ℕ) (us : List ℕ) : Type 0 where
  pub are : units ≡ filled us
  pub long : len ≡ min 36 (length us)

-- Names are equal if their texts and their units are.
abbrev pub name_eq : Name → Name → Bool
name_eq = eq_of_both (λ a b. pointwise nat_eq a.text b.text) (λ a b. pointwise nat_eq a.units b.units)

pub name_equiv : IsEquivalence name_eq
name_equiv = and_equiv (on_equiv (λ n. n.text) nat_list_eq_equiv) (on_equiv (λ n. n.units) nat_list_eq_equiv)
