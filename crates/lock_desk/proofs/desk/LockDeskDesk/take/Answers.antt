use Rattle.std.proofs.Common.{refl, sym, subst, ◌∙◌}
use Rattle.sessions.specs.Posts.{AddsTaken, Finds}
use Rattle.lock_desk.specs.Passes.{HasEnded, Waits, own_posts}
use Rattle.lock_desk.proofs.Posts.{admitted, still_shows, taken_posts}
use Rattle.lock_desk.proofs.desk.LockDeskDesk.take.Goals as goal

pub returns-clause-posted : goal.returns-clause-posted
returns-clause-posted g c =
    let p = c.in_ok-receipt.ensures.posted.1 in
    subst (AddsTaken (own_posts c.args.seat.now.pass) (own_posts c.post.new.seat.pass) c.args.session.now)
    (sym c.taken.ensures)
    (taken_posts g.H.Machine.Machine _ _ _ _ _ _ _ _ p c.post.ensures.seat.2 (c.post.ensures.seat.1 ∙ c.requires.1.1)
    c.args.session.now refl (g.met.H.Host.takes _ _)).0

pub returns-clause-found : goal.returns-clause-found
returns-clause-found g c =
    let p = c.in_ok-receipt.ensures.posted.1 in
    subst (Finds (HasEnded g.H.Machine.Machine c.post.new.seat.pass c.args.session.now)
    (Waits g.H.Machine.Machine c.post.new.seat.pass c.args.session.now)) (sym c.taken.ensures)
    (taken_posts g.H.Machine.Machine _ _ _ _ _ _ _ _ p c.post.ensures.seat.2 (c.post.ensures.seat.1 ∙ c.requires.1.1)
    c.args.session.now refl (g.met.H.Host.takes _ _)).1

pub returns-in_err-receipt-clause-pass : goal.returns-in_err-receipt-clause-pass
returns-in_err-receipt-clause-pass g c =
    let a =
    admitted c.args.self.now.lock.now c.args.self.now.since.value c.args.seat.now c.post.new.seat c.requires.1
    c.requires.2
    c.post.ensures.seat c.post.ensures.seen in
    (c.requires.0, a.0, a.1)

pub returns-clause-pass : goal.returns-clause-pass
returns-clause-pass g c =
    let a =
    admitted c.args.self.now.lock.now c.args.self.now.since.value c.args.seat.now c.post.new.seat c.requires.1
    c.requires.2
    c.post.ensures.seat c.post.ensures.seen in
    (c.requires.0, a.0, a.1)

pub returns-in_err-receipt-clause-shown : goal.returns-in_err-receipt-clause-shown
returns-in_err-receipt-clause-shown g c =
    still_shows g.H.Machine.Machine g.H.Host.is_at g.met.H.Host.stays_told c.args.seat.now.pass
    c.post.new.seat.pass c.post.ensures.seat.1 c.post.ensures.seen

pub returns-clause-shown : goal.returns-clause-shown
returns-clause-shown g c =
    still_shows g.H.Machine.Machine g.H.Host.is_at g.met.H.Host.stays_told c.args.seat.now.pass
    c.post.new.seat.pass c.post.ensures.seat.1 c.post.ensures.seen
