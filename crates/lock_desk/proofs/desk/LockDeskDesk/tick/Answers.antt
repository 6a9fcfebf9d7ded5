use Rattle.std.proofs.Common.{◌∙◌}
use Rattle.lock_desk.proofs.Posts.{admitted, shows_told, still_shows, told_posts}
use Rattle.lock_desk.proofs.desk.LockDeskDesk.tick.Goals as goal

pub returns-clause-posted : goal.returns-clause-posted
returns-clause-posted g c =
    let p = c.in_ok-_receipt.ensures.posted.1 in
    told_posts g.H.Machine.Machine _ _ _ _ _ _ _ _ p c.post.ensures.seat.2 (c.post.ensures.seat.1 ∙ c.requires.1.1)
    (g.met.H.Host.ticks _ _)

pub returns-in_err-_receipt-clause-pass : goal.returns-in_err-_receipt-clause-pass
returns-in_err-_receipt-clause-pass g c =
    let a =
    admitted c.args.self.now.lock.now c.args.self.now.since.value c.args.seat.now c.post.new.seat c.requires.1
    c.requires.2
    c.post.ensures.seat c.post.ensures.seen in
    (c.requires.0, a.0, a.1)

pub returns-clause-pass : goal.returns-clause-pass
returns-clause-pass g c =
    let a =
    admitted c.args.self.now.lock.now c.args.self.now.since.value c.args.seat.now c.post.new.seat c.requires.1
    c.requires.2
    c.post.ensures.seat c.post.ensures.seen in
    (c.requires.0, a.0, a.1)

pub returns-in_err-_receipt-clause-shown : goal.returns-in_err-_receipt-clause-shown
returns-in_err-_receipt-clause-shown g c =
    still_shows g.H.Machine.Machine g.H.Host.is_at g.met.H.Host.stays_told c.args.seat.now.pass
    c.post.new.seat.pass c.post.ensures.seat.1 c.post.ensures.seen

pub returns-clause-shown : goal.returns-clause-shown
returns-clause-shown g c =
    still_shows g.H.Machine.Machine g.H.Host.is_at g.met.H.Host.stays_told c.args.seat.now.pass
    c.post.new.seat.pass c.post.ensures.seat.1 c.post.ensures.seen

pub returns-clause-shows : goal.returns-clause-shows
returns-clause-shows g c =
    shows_told g.H.Machine.Machine _ _ _ _ _ _ _ _ c.in_ok-_receipt.ensures.posted.1 c.post.ensures.seat.2
    (c.post.ensures.seat.1 ∙ c.requires.1.1) g.H.Host.is_at c.args.second (g.met.H.Host.told _ c.args.second)
    (g.met.H.Host.tells _ c.args.second)
