use Rattle.std.proofs.Common.{subst, sym}
use Rattle.lock_desk.specs.Passes.{IsSince}
use Rattle.lock_desk.proofs.Posts.{since_itself, since_still}
use Rattle.lock_desk.proofs.desk.LockDeskLaterDesk.from_here.Goals as goal

pub returns-clause-admits : goal.returns-clause-admits
returns-clause-admits g c = (
  c.requires.0,
  c.requires.1,
  subst (λ z. IsSince z c.args.seat.now) (sym c.of.ensures) (since_itself c.args.seat.now),
)

pub returns-clause-desk : goal.returns-clause-desk
returns-clause-desk g c = λ p h. (
  h.0,
  h.1,
  since_still c.args.self.now.since.value c.args.seat.now p c.requires.2
      (subst (λ z. IsSince z p) c.of.ensures h.2),
)
