-- What is counted of a taking.
use Rattle.std.proofs.Common.{◌≡◌, ℕ, ◌+◌, ◌≤◌, Option, Some, None, refl, arith}
use Rattle.cv_io.specs.declared.leaf.Session.{Session}
use Rattle.events.specs.declared.event.Event.TheVariants.{Take}
use Rattle.events.specs.declared.event.Reply.{Reply}
use Rattle.event_composes.specs.Costs.{cost_of, followed_cost, unless_still}
use Rattle.machine_meaning.specs.Glances.{glance_of}
use Rattle.machine_meaning.specs.States.{State}
use Rattle.policies.specs.Policies.{PolicyOf}

still_takes_none : (o : Option Reply) (session : Session) (n : ℕ)
    → ◌≡◌ {A = ℕ} (unless_still 0 o (Take session) n) 0
still_takes_none None session n = refl
still_takes_none (Some reply) session n = refl

none_more : (n old new : ℕ) → n ≡ 0 → new ≤ old + n → new ≤ old
none_more n old new none h = omega (arith, none, h)

-- it takes no step
pub taking_counts : (p : PolicyOf) (s : State) (session : Session) (old new : ℕ)
    → new ≤ old + cost_of p s (Take session)
    → new ≤ old
taking_counts p s session old new h =
    none_more (cost_of p s (Take session)) old new
    (still_takes_none (glance_of p s (Take session)) session (followed_cost p s (Take session))) h
