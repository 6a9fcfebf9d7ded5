use Rattle.std.proofs.Common.{sym, subst, ◌∙◌}
use Rattle.sessions.specs.Posts.{AddsHeard, IsRefusedWhere, message}
use Rattle.lock_desk.specs.Passes.{HasEnded, own_posts}
use Rattle.lock_desk.proofs.Posts.{admitted, heard_posts, still_shows}
use Rattle.lock_desk.proofs.desk.LockDeskDesk.hear.Goals as goal

pub returns-clause-posted : goal.returns-clause-posted
returns-clause-posted g c =
    let p = c.in_ok-receipt.ensures.posted.1 in
    subst (AddsHeard (own_posts c.args.seat.now.pass) (own_posts c.post.new.seat.pass)
    (message c.args.session.now c.args.frame))
    (sym c.heard.ensures)
    (heard_posts g.H.Machine.Machine _ _ _ _ _ _ _ _ p c.post.ensures.seat.2
    (c.post.ensures.seat.1 ∙ c.requires.pass.1.1)
    c.args.session.now (g.met.H.Host.hears _ _ _ c.requires.frame)).0

pub returns-clause-closed : goal.returns-clause-closed
returns-clause-closed g c =
    let p = c.in_ok-receipt.ensures.posted.1 in
    subst (IsRefusedWhere (HasEnded g.H.Machine.Machine c.post.new.seat.pass c.args.session.now)) (sym c.heard.ensures)
    (heard_posts g.H.Machine.Machine _ _ _ _ _ _ _ _ p c.post.ensures.seat.2
    (c.post.ensures.seat.1 ∙ c.requires.pass.1.1)
    c.args.session.now (g.met.H.Host.hears _ _ _ c.requires.frame)).1

pub returns-in_err-receipt-clause-pass : goal.returns-in_err-receipt-clause-pass
returns-in_err-receipt-clause-pass g c =
    let a =
    admitted c.args.self.now.lock.now c.args.self.now.since.value c.args.seat.now c.post.new.seat c.requires.pass.1
    c.requires.pass.2
    c.post.ensures.seat c.post.ensures.seen in
    (c.requires.pass.0, a.0, a.1)

pub returns-clause-pass : goal.returns-clause-pass
returns-clause-pass g c =
    let a =
    admitted c.args.self.now.lock.now c.args.self.now.since.value c.args.seat.now c.post.new.seat c.requires.pass.1
    c.requires.pass.2
    c.post.ensures.seat c.post.ensures.seen in
    (c.requires.pass.0, a.0, a.1)

pub returns-in_err-receipt-clause-shown : goal.returns-in_err-receipt-clause-shown
returns-in_err-receipt-clause-shown g c =
    still_shows g.H.Machine.Machine g.H.Host.is_at g.met.H.Host.stays_told c.args.seat.now.pass
    c.post.new.seat.pass c.post.ensures.seat.1 c.post.ensures.seen

pub returns-clause-shown : goal.returns-clause-shown
returns-clause-shown g c =
    still_shows g.H.Machine.Machine g.H.Host.is_at g.met.H.Host.stays_told c.args.seat.now.pass
    c.post.new.seat.pass c.post.ensures.seat.1 c.post.ensures.seen
