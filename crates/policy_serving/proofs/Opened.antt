-- A machine that was opened knows the members and the switches of its policy.
use Rattle.std.proofs.Common.{◌≡◌, ◌∙◌, sym, subst}
use Rattle.cv_io.specs.declared.leaf.Who.TheVariants.{Member, Switch}
use Rattle.event_composes.proofs.Meanings.{meanings_are_states}
use Rattle.event_composes.specs.Meanings.{data_in, state_in}
use Rattle.machine_meaning.specs.States.{State, opening}
use Rattle.machine_answers.specs.Answers.{HasSession}
use Rattle.machine_answers.proofs.Steps.{at_opening}
use Rattle.policy_serving.specs.Proxies.{HasOne, KnowsItsPolicy}

pub opened : KnowsItsPolicy
unfolding HasOne
opened m fresh n = (
  λ lt. subst (λ (s : State). HasSession s (Member n)) (sym is) ((at_opening m.plan n).0 lt),
  λ lt. subst (λ (s : State). HasSession s (Switch n)) (sym is) ((at_opening m.plan n).1 lt),
)
  where
    is : state_in (data_in m) ≡ opening m.plan
    is = (meanings_are_states m).1 ∙ fresh
