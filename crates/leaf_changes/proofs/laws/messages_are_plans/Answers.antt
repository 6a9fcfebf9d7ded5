use Rattle.leaf_changes.proofs.PlansMade.{messages-are-plans}
use Rattle.leaf_changes.proofs.laws.messages_are_plans.Goals as goal

pub returns : goal.returns
returns c = messages-are-plans
