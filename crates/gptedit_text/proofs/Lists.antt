-- Attributes are read from a TOML list value by value.
use Rattle.std.proofs.Common.{◌≡◌, ◌+◌, ◌<◌, ◌≤◌, ℕ, List, [], ◌∷◌, All, drop, get_or, length, map, subst, sym, ap, refl}
use Rattle.std.specs.Prelude.{Some, Vec, bit_or}
use Rattle.std.specs.declared.alloc.Global.{Global}
use Rattle.std.proofs.lemmas.List.{drop_all, drop_more}
use Rattle.toml.specs.Data.{Data, Items, array, as_array, boolean, datetime, float, integer, string, table}
use Rattle.toml.specs.View.{array_view, items_of, view}
use Rattle.toml.specs.declared.value.Value.{Value}
use Rattle.gptedit_text.specs.Layouts.{IsAttributeOf, SaysAttributeOf, SaysAttributesOf, SaysBitOf, list_of}
use Rattle.gptedit_values.specs.Words.{HasBitsOf}
use Rattle.gptedit_values.proofs.BitLists.{Sofar, sofar_all, sofar_first, sofar_next, sofar_wrong}

-- The attributes of the values of a list before index i.
abbrev pub SofarAt : List Value → ℕ → ℕ → Type 0
SofarAt list i done = Sofar SaysBitOf (map view list) (map view (drop i list)) done

pub at_first : (list : List Value) (done : ℕ) → done ≡ 0 → SofarAt list 0 done
at_first list done none = sofar_first SaysBitOf (map view list) done none

cut : (list : List Value) (i done : ℕ) (x : Value) → i < length list → x ≡ get_or list i x → SofarAt list i done
    → Sofar SaysBitOf (map view list) (view x ∷ map view (drop (i + 1) list)) done
cut list i done x within is sofar =
    subst (λ y. Sofar SaysBitOf (map view list) (view y ∷ map view (drop (i + 1) list)) done) (sym is)
    (subst (λ left. Sofar SaysBitOf (map view list) left done) (ap (map view) (drop_more list i x within)) sofar)

pub at_next : (list : List Value) (i done value : ℕ) (x : Value) → i < length list → x ≡ get_or list i x → SofarAt list i done
    → SaysAttributeOf (view x) value → SofarAt list (i + 1) (bit_or done value)
at_next list i done value x within is sofar said =
    sofar_next SaysBitOf (map view list) (view x) (map view (drop (i + 1) list)) done value (cut list i done x within is sofar) said

pub at_wrong : (list : List Value) (i done : ℕ) (x : Value) → i < length list → x ≡ get_or list i x → SofarAt list i done
    → ¬ (IsAttributeOf (view x)) → ¬ (All IsAttributeOf (map view list))
at_wrong list i done x within is sofar wrong =
    sofar_wrong SaysBitOf (map view list) (view x) (map view (drop (i + 1) list)) done (cut list i done x within is sofar) wrong

pub at_end : (list : List Value) (i done : ℕ) → length list ≤ i → SofarAt list i done → HasBitsOf SaysBitOf (map view list) done
at_end list i done over sofar =
    sofar_all SaysBitOf (map view list) done (subst (λ left. Sofar SaysBitOf (map view list) left done) (ap (map view) (drop_all i list over)) sofar)

list_of_items : (values : List Data) → list_of (items_of values) ≡ values
list_of_items [] = refl
list_of_items (value ∷ values) = ap (λ more. value ∷ more) (list_of_items values)

is_array : (value : Data) (items : Items) → Some items ≡ as_array value → value ≡ array items
is_array (array own) items is = let same : items ≡ own = cc in ap array (sym same)
is_array (string _) items is = cc
is_array (integer _) items is = cc
is_array (float _) items is = cc
is_array (boolean _) items is = cc
is_array (datetime _) items is = cc
is_array (table _) items is = cc

pub says_list : (value : Value) (list : Vec Value Global) (attributes : ℕ) → Some (array_view list) ≡ as_array (view value)
    → HasBitsOf SaysBitOf (map view list.items) attributes → SaysAttributesOf (view value) attributes
says_list value list attributes is has =
    subst (λ one. SaysAttributesOf one attributes) (sym (is_array (view value) (array_view list) is))
    (subst (λ values. HasBitsOf SaysBitOf values attributes) (sym (list_of_items (map view list.items))) has)
