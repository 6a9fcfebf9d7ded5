-- What holds of the places of a policy.
use Rattle.std.specs.Prelude.{◌≡◌, ◌<◌, ◌+◌, ◌*◌, ◌^◌, ℕ, All, length}
use Rattle.endpoint_works.specs.Sides.{IsServedSide}
use Rattle.machine_drafts.specs.Machines.{MachineOf, state_of}
use Rattle.event_composes.specs.Meanings.{data_in}
use Rattle.policy_serving.specs.Proxies.{HasOne}
use Rattle.machine_meaning.specs.States.{opening}
use Rattle.policies.specs.Policies.{PolicyOf}
use Rattle.policies.specs.Sound.{IsSound}
use Rattle.policy_serving.specs.Places.{places_of}
use Rattle.serving.specs.declared.place.Place.{Place}

-- a machine that was opened knows whoever can come up at a place of its policy
abbrev pub PlacesAreServed : Type 0
PlacesAreServed =
    (m : MachineOf) → IsSound m.plan → state_of m ≡ opening m.plan
    → All (λ (place : Place). IsServedSide (HasOne (data_in m)) place.side) (places_of m.plan)

-- there is a place for each member and for each switch
abbrev pub PlacesAreCounted : Type 0
PlacesAreCounted = (p : PolicyOf) → length (places_of p) ≡ length p.members + length p.switches

-- two works for each place, and one more, can be counted
abbrev pub PlacesAreFew : Type 0
PlacesAreFew = (p : PolicyOf) → IsSound p → 2 * length (places_of p) + 1 < 2 ^ 32
