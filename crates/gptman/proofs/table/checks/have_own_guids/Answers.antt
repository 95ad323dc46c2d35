use Rattle.std.proofs.Common.{◌≡◌, ◌≢◌, ℕ, List, subst, sym, ◌∙◌}
use Rattle.std.specs.List.{AllPairs, filter_map}
use Rattle.std.proofs.lemmas.Result.{IfOk-weaker}
use Rattle.gptman.specs.Entry.{used_guid}
use Rattle.gptman.proofs.Guids.{guids_pairs}
use Rattle.gptman.proofs.table.checks.have_own_guids.Goals as goal

pub returns : goal.returns
returns c =
    let both = guids_pairs c.args.entries.now in
    let e : c.deref.result.now ≡ filter_map used_guid c.args.entries.now = c.deref.ensures.value ∙ c.in_ok-guids.ensures in
    IfOk-weaker c.are_distinct.result _ _ (λ ok h. (
      λ t. both.0 (subst (λ (l : List (List ℕ)). AllPairs (λ a b. a ≢ b) l) e (h.0 t)),
      λ own. h.1 (subst (λ (l : List (List ℕ)). AllPairs (λ a b. a ≢ b) l) (sym e) (both.1 own)),
    )) c.are_distinct.ensures
