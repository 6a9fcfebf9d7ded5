use Rattle.std.proofs.Common.{◌∷◌, ◌++◌, [], ap, refl, sym, ◌∙◌}
use Rattle.events.specs.declared.event.Event.TheVariants.{Up}
use Rattle.lock_desk.specs.Passes.{own_posts}
use Rattle.lock_desk.proofs.Posts.{admitted, answered, known_after, opened_by, still_shows}
use Rattle.lock_desk.proofs.desk.LockDeskDesk.up.Goals as goal

pub unreachable-requires : goal.unreachable-requires
unreachable-requires g c =
    let p = c.in_ok-receipt.ensures.posted.1 in
    let o = opened_by g.H.Machine.Machine _ _ _ _ _ _ _ _ p c.post.ensures.seat.2
    (c.post.ensures.seat.1 ∙ c.requires.pass.1.1) c.args.who c.args.arp refl
    (g.met.H.Host.opens _ c.args.who c.args.arp
    (known_after g.H.Machine.Machine g.H.Host.knows g.met.H.Host.stays_known c.args.who c.args.self.now.lock.now.start
    p.before
    c.requires.served)) in
    c.in_default.not-Opened o.0 o.1

pub returns-clause-posted : goal.returns-clause-posted
returns-clause-posted g c =
    let p = c.in_ok-receipt.ensures.posted.1 in
    let o = opened_by g.H.Machine.Machine _ _ _ _ _ _ _ _ p c.post.ensures.seat.2
    (c.post.ensures.seat.1 ∙ c.requires.pass.1.1) c.args.who c.args.arp refl
    (g.met.H.Host.opens _ c.args.who c.args.arp
    (known_after g.H.Machine.Machine g.H.Host.knows g.met.H.Host.stays_known c.args.who c.args.self.now.lock.now.start
    p.before
    c.requires.served)) in
    o.2
    ∙ ap (λ q. own_posts c.args.seat.now.pass ++ answered (Up c.args.who c.args.arp) q ∷ []) (sym o.1 ∙ c.in-Opened.is)

pub returns-in_err-receipt-clause-pass : goal.returns-in_err-receipt-clause-pass
returns-in_err-receipt-clause-pass g c =
    let a =
    admitted c.args.self.now.lock.now c.args.self.now.since.value c.args.seat.now c.post.new.seat c.requires.pass.1
    c.requires.pass.2
    c.post.ensures.seat c.post.ensures.seen in
    (c.requires.pass.0, a.0, a.1)

pub returns-clause-pass : goal.returns-clause-pass
returns-clause-pass g c =
    let a =
    admitted c.args.self.now.lock.now c.args.self.now.since.value c.args.seat.now c.post.new.seat c.requires.pass.1
    c.requires.pass.2
    c.post.ensures.seat c.post.ensures.seen in
    (c.requires.pass.0, a.0, a.1)

pub returns-in_err-receipt-clause-shown : goal.returns-in_err-receipt-clause-shown
returns-in_err-receipt-clause-shown g c =
    still_shows g.H.Machine.Machine g.H.Host.is_at g.met.H.Host.stays_told c.args.seat.now.pass
    c.post.new.seat.pass c.post.ensures.seat.1 c.post.ensures.seen

pub returns-clause-shown : goal.returns-clause-shown
returns-clause-shown g c =
    still_shows g.H.Machine.Machine g.H.Host.is_at g.met.H.Host.stays_told c.args.seat.now.pass
    c.post.new.seat.pass c.post.ensures.seat.1 c.post.ensures.seen
