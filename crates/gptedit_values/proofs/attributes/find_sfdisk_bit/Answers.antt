use Rattle.std.proofs.Common.{◌≡◌, ℕ, List, [], ◌∷◌, arith, false, refl, subst, sym, ◌∙◌}
use Rattle.std.specs.Prelude.{◌≢◌, Option, Some, None}
use Rattle.std.specs.Option.{option_map_or}
use Rattle.std.specs.Str.{bytes_eq}
use Rattle.gptedit_values.specs.Words.{sfdisk_names}
use Rattle.gptedit_values.proofs.Tables.{each_of, lacks_first, lacks_next, lacks_rows, other_name}
use Rattle.gptedit_values.proofs.attributes.find_sfdisk_bit.Goals as goal

-- There is no name.
no_key : {N : Type 0} (text : N → List ℕ) (word : List ℕ) (o : Option N) → o ≡ None → 1 ∷ word ≢ option_map_or (λ n. 1 ∷ text n) o []
no_key text word o is = subst (λ p. 1 ∷ word ≢ option_map_or (λ n. 1 ∷ text n) p []) (sym is) (λ same. cc)

-- The name is not the word.
other_key : {N : Type 0} (text : N → List ℕ) (word : List ℕ) (o : Option N) (name : N) → o ≡ Some name → false ≡ bytes_eq word (text name)
    → 1 ∷ word ≢ option_map_or (λ n. 1 ∷ text n) o []
other_key text word o name is differs =
    subst (λ p. 1 ∷ word ≢ option_map_or (λ n. 1 ∷ text n) p []) (sym is) (λ same. other_name word (text name) differs (cc))

pub loop-attribute-init : goal.loop-attribute-init
loop-attribute-init c = lacks_first _ _

pub loop-attribute-preserved-in_default : goal.loop-attribute-preserved-in_default
loop-attribute-preserved-in_default c =
    lacks_next _ _ _ _ _ c.loop-attribute.invariant (omega arith) (no_key (λ name. name.now) c.args.word.now _ c.in_default.is)

pub loop-attribute-preserved : goal.loop-attribute-preserved
loop-attribute-preserved c =
    lacks_next _ _ _ _ _ c.loop-attribute.invariant (omega arith)
    (other_key (λ name. name.now) c.args.word.now _ _ c.in-Some.is (sym c.if-eq.false ∙ c.eq.ensures))

pub returns-clause-unknown : goal.returns-clause-unknown
returns-clause-unknown c =
    λ _ bit has.
    let h = lacks_rows _ _ _ _ c.loop-attribute.invariant (omega arith) in
    each_of (λ row. ¬ (1 ∷ c.args.word.now ≡ 1 ∷ row.0)) sfdisk_names (h.0, (h.1.0, (h.1.1.0, tt))) (c.args.word.now, bit) has refl
