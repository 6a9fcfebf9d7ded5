-- What serving a policy comes to.
use Rattle.std.specs.Prelude.{◌≡◌, ℕ, Bool, List, Option}
use Rattle.outside.specs.Connections.{Connection}
use Rattle.outside.specs.declared.links.Endpoint.{Endpoint}
use Rattle.events.specs.declared.event.Event.{Event}
use Rattle.events.specs.declared.event.Reply.{Reply}
use Rattle.event_composes.specs.Meanings.{StateData, state_in}
use Rattle.policy_serving.specs.Histories.{lines_made}
use Rattle.machine_meaning.specs.States.{opening}
use Rattle.policies.specs.Policies.{PolicyOf}
use Rattle.policy_lock.specs.declared.machine.Machine.{Ghosts}
use Rattle.serving.specs.Runs.{Serves}
use Rattle.serving.specs.declared.run.Served.{Served}
use Rattle.policy_serving.specs.Places.{places_of}

-- what the machine of a policy means as it is opened
pub record IsOpening (p : PolicyOf) (start : StateData) : Type 0 where
  pub plan : start.plan ≡ p
  pub state : state_in start ≡ opening p

-- the endpoints of the policy were served by works that posted to one history of its machine; what is written is the
-- lines that the events of this history put to the audit, or a beginning of these, as `Serves` says; the clock may
-- answer such seconds, and so many calls of the links failed before and after
pub record ServesPolicy {M : Type 0} (g : Ghosts M Event Reply StateData) (told : Endpoint → Option (List Connection))
    (reliable : Endpoint → Bool) (may : ℕ → Type 0) (p : PolicyOf) (held written : Option (List ℕ)) (faults risen : ℕ)
    (served : Served) : Type 0 where
  pub start : StateData
  pub opening : IsOpening p start
  pub serves : Serves g start told reliable may (lines_made g start) (places_of p) held written faults risen served
