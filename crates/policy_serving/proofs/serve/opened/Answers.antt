use Rattle.std.proofs.Common.{◌≡◌, ◌∙◌, ◌<◌, ◌+◌, ◌*◌, ◌^◌, All, List, ap, length, subst, sym}
use Rattle.endpoint_works.specs.Sides.{IsServedSide}
use Rattle.event_composes.specs.Meanings.{data_in}
use Rattle.policy_serving.specs.Proxies.{HasOne}
use Rattle.machine_meaning.specs.States.{opening}
use Rattle.policies.specs.Policies.{PolicyOf}
use Rattle.policies.specs.Sound.{IsSound}
use Rattle.serving.specs.declared.place.Place.{Place}
use Rattle.policy_serving.specs.Places.{places_of}
use Rattle.policy_serving.proofs.Opens.{is_opening}
use Rattle.policy_serving.proofs.serve.opened.Goals as goal

pub returns-clause-opening : goal.returns-clause-opening
returns-clause-opening g c =
    is_opening c.args.policy c.in_ok-machine.machine c.in_ok-machine.ensures.plan c.in_ok-machine.ensures.opening

pub returns-clause-served : goal.returns-clause-served
returns-clause-served g c =
    let machine = c.in_ok-machine.machine in
    let same = c.in_ok-machine.ensures.plan in
    let places : c.in_ok-places.places ≡ places_of machine.plan = c.in_ok-places.ensures ∙ ap places_of (sym same) in
    subst (All (λ (place : Place). IsServedSide (HasOne (data_in machine)) place.side)) (sym places)
    (c.places_are_served.ensures machine (subst IsSound (sym same) c.is_sound.ensures)
    (c.in_ok-machine.ensures.opening ∙ ap opening (sym same)))

pub returns-clause-few : goal.returns-clause-few
returns-clause-few g c =
    subst (λ (places : List Place). 2 * length places + 1 < 2 ^ 32) (sym c.in_ok-places.ensures)
    (c.places_are_few.ensures c.args.policy c.is_sound.ensures)
