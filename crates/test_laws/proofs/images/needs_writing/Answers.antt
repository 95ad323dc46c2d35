use Rattle.std.proofs.Common.{◌≡◌, ℕ, List, [], ◌∷◌, rules}
use Rattle.std.specs.Prelude.{Some, codes, string_bytes}
use Rattle.std.specs.Fmt.{decimal}
use Rattle.gptimg_core.specs.Spelling.{IsSpelled}
use Rattle.gptimg_core.specs.declared.words.Command.TheVariants.{Show}
use Rattle.test_laws.proofs.Shown.{not_true, spells, writes_not}
use Rattle.test_laws.proofs.images.needs_writing.Goals as goal

pub returns : goal.returns
returns c =
    let n : ℕ = c.args.sector_size in
    let number : string_bytes c.in_ok-format.field-0 ≡ decimal n = search rules in
    let name : string_bytes c.in_ok-from_str.field-0 ≡ codes "show" = search rules in
    let texts : List (List ℕ) = string_bytes c.in_ok-format.field-0 ∷ string_bytes c.in_ok-from_str.field-0 ∷ [] in
    let spelled : IsSpelled texts (Show (Some n)) = spells c.usual_words_spell.ensures texts n c.requires c.ranges.sector_size.fits (λ k. number k ∷ name k ∷ []) in
    not_true c.may_write.result
    (λ yes.
    let asks = c.may_write.ensures.0 yes in
    writes_not c.words_spell_one.ensures texts n c.requires c.ranges.sector_size.fits spelled asks.0 asks.1.0 asks.1.1 asks.2)
