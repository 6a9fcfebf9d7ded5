use Rattle.std.proofs.Common.{arith}
use Rattle.event_composes.specs.Meanings.{data_in}
use Rattle.policy_serving.specs.Proxies.{HasOne}
use Rattle.policy_serving.proofs.Served.{few_in, places_served}
use Rattle.policy_serving.proofs.laws.places_are_served.Goals as goal

pub returns : goal.returns
returns c = λ m sound fresh.
    let knows = c.opened_knows.ensures m fresh in
    places_served (HasOne (data_in m)) m.plan (omega (arith, few_in m.plan sound)) (λ n lt. (knows n).0 lt)
    (λ n lt. (knows n).1 lt)
