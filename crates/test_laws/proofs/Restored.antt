-- Applying a table's own layout to it.
use Rattle.std.proofs.Common.{◌≡◌, ◌<◌, ◌≤◌, ℕ, length, sym, subst}
use Rattle.std.specs.Prelude.{Result, IfErr}
use Rattle.std.proofs.lemmas.Result.{IfErr-weaker}
use Rattle.gptman.specs.Layout.{HasLayout}
use Rattle.gptman.specs.Table.{entries_in}
use Rattle.gptman.specs.Valid.{IsValid}
use Rattle.gptman.specs.declared.table.GPT.{GPT}
use Rattle.gptedit_core.specs.Dumping.{IsLayoutOf}
use Rattle.gptedit_core.specs.Applying.{RefusesApplying}
use Rattle.gptedit_core.specs.Named.{LayoutsAreTaken}
use Rattle.gptedit_core.specs.Planning.{RefusesJob}
use Rattle.gptedit_core.specs.Planning.RefusesRequest.{not_done}
use Rattle.gptedit_core.specs.declared.asked.RequestedLayout.{RequestedLayout}
use Rattle.gptedit_core.specs.declared.plan.Job.{Job}
use Rattle.gptedit_core.specs.declared.plan.Job.TheVariants.{Apply}
use Rattle.gptedit_core.specs.declared.plan.Request.{Request}
use Rattle.gptedit_core.specs.declared.refusal.Stop.{Stop}
use Rattle.gptedit_core.specs.declared.refusal.Stop.TheVariants.{Failed, Refused}
use Rattle.test_laws.specs.Changed.{IsForMemory}

module _ (law : LayoutsAreTaken) (g : GPT) (len : ℕ) (layout : RequestedLayout) (request : Request) (own : IsLayoutOf g layout) (job : request.job ≡ Apply layout)
    (enough : length layout.asked.items ≤ length request.random.items) (aligned : 0 < g.align) (laid : HasLayout g len) (valid : IsValid g.header (entries_in g)) where
  for_memory : (stop : Stop) → RefusesApplying layout request.random.items g stop → IsForMemory stop
  for_memory (Refused r) why =
      absurd (law g len layout request r own job enough aligned laid valid (not_done laid (subst (λ (j : Job). RefusesJob j request.random.items g r) (sym job) why)))
  for_memory (Failed e) why = why

  -- Only memory can run out.
  pub all_for_memory : {T : Type 0} (r : Result T Stop) → IfErr r (RefusesApplying layout request.random.items g) → IfErr r IsForMemory
  all_for_memory r refused = IfErr-weaker r (RefusesApplying layout request.random.items g) IsForMemory for_memory refused
