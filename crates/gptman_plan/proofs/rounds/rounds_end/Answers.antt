use Rattle.gptman_plan.proofs.AskedPlans.{few_of_value, few_to_fit, few_to_plan}
use Rattle.gptman_plan.proofs.Rounded.{few_places, few_rounds}
use Rattle.gptman_plan.proofs.rounds.rounds_end.Goals as goal

pub returns : goal.returns
returns c = record { rounds = few_rounds; reading = few_places; new_table = few_of_value; plan = few_to_plan; fit = few_to_fit }
