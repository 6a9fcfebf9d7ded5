use Rattle.std.proofs.Common.{◌≡◌, arith, length, subst}
use Rattle.switch_arrivals.specs.Strangers.{IsCrowdingAmong}
use Rattle.switch_arrivals.proofs.Crowds.{begins}
use Rattle.switch_arrivals.proofs.strangers.crowding.Goals as goal

pub loop-at-init : goal.loop-at-init
loop-at-init g c = record { within = omega arith; best = begins c.args.strangers.now }

pub loop-at-preserved : goal.loop-at-preserved
loop-at-preserved g c = record { within = c.better-place.ensures.0; best = c.better-place.ensures }

pub returns : goal.returns
returns g c =
    let all : c.loop-at.at ≡ length c.args.strangers.now = omega arith in
    subst (λ many. IsCrowdingAmong c.args.strangers.now many c.loop-at.place) all c.loop-at.invariant.best
