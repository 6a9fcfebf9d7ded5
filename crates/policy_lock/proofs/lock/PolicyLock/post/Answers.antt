use Rattle.std.proofs.Common.{rules, ap, refl, length, ◌∙◌}
use Rattle.policy_lock.proofs.Histories.{nothing}
use Rattle.policy_lock.proofs.Posts.{ready, committed, legal_then, posted}
use Rattle.policy_lock.proofs.lock.PolicyLock.post.Goals as goal

pub store-requires : goal.store-requires
store-requires g c = let t = c.take_for-word in let v = c.seat.inside.token.me.0 in (
  search rules,
  search rules,
  ready g.M.Machine v t.result.0 t.result.1 t.new.token.me t.ensures.taken
      c.args.seat.now.pass (ap (λ s. s.pass) c.seat.view_is) c.args.self.now.start c.requires.1 c.apply-applied.new.self
      c.exchange.new.seat.me c.args.event c.in-Ok-Done.reply (search rules) c.exchange.ensures.3
      (nothing _ c.seat.invariant.0.2) _ _ _ _ refl (search rules),
)

pub invariant_of-seat : goal.invariant_of-seat
invariant_of-seat g c = let t = c.take_for-word in let v = c.seat.inside.token.me.0 in let i = c.seat.invariant in
    let e = committed g.M.Machine v t.result.0 t.result.1 t.new.token.me t.ensures.taken c.args.seat.now.pass
    (ap (λ s. s.pass) c.seat.view_is) c.args.self.now.start c.requires.1 c.apply-applied.new.self c.exchange.new.seat.me
    c.args.event c.in-Ok-Done.reply (search rules) c.exchange.ensures.3 0 0 c.store.new.seat.me c.store.ensures.2 in (
      (
        ap (λ m. m.0.seated) e ∙ i.0.0,
        ap (λ m. m.0.holds) e,
        ap (λ m. length m.0.gathered) e
            ∙ i.0.2,
        ap (λ m. length m.1) e,
      ),
      ap (λ m. m.0.pass.number) e ∙ i.1,
      ap (λ m. m.0.pass.children) e ∙ i.2,
    )

pub returns-in-Ok-Done-clause-seat : goal.returns-in-Ok-Done-clause-seat
returns-in-Ok-Done-clause-seat g c = let t = c.take_for-word in let v = c.seat.inside.token.me.0 in let p =
    ap (λ s. s.pass) c.seat.view_is in
    let e = committed g.M.Machine v t.result.0 t.result.1 t.new.token.me t.ensures.taken c.args.seat.now.pass p
    c.args.self.now.start c.requires.1 c.apply-applied.new.self c.exchange.new.seat.me c.args.event c.in-Ok-Done.reply
    (search rules) c.exchange.ensures.3 0 0 c.store.new.seat.me c.store.ensures.2 in (
      search rules,
      ap (λ m. m.0.pass.start) e ∙ ap (λ q. q.start) p,
      ap (λ m. m.0.pass.number) e
          ∙ ap (λ q. q.number) p,
      ap (λ m. m.0.pass.children) e ∙ ap (λ q. q.children) p,
    )

pub returns-in-Ok-Done-clause-legal : goal.returns-in-Ok-Done-clause-legal
returns-in-Ok-Done-clause-legal g c = let t = c.take_for-word in let v = c.seat.inside.token.me.0 in let p =
    ap (λ s. s.pass) c.seat.view_is in
    let e = committed g.M.Machine v t.result.0 t.result.1 t.new.token.me t.ensures.taken c.args.seat.now.pass p
    c.args.self.now.start c.requires.1 c.apply-applied.new.self c.exchange.new.seat.me c.args.event c.in-Ok-Done.reply
    (search rules) c.exchange.ensures.3 0 0 c.store.new.seat.me c.store.ensures.2 in
    legal_then g.M.Machine v t.result.0 t.result.1 t.new.token.me t.ensures.taken c.args.seat.now.pass p
    c.args.self.now.start c.requires.1 c.apply-applied.new.self c.exchange.new.seat.me c.args.event c.in-Ok-Done.reply
    (search rules) c.exchange.ensures.3 c.store.new.seat.me e

pub returns-in-Ok-Done-clause-posted : goal.returns-in-Ok-Done-clause-posted
returns-in-Ok-Done-clause-posted g c = let t = c.take_for-word in let v = c.seat.inside.token.me.0 in let p =
    ap (λ s. s.pass) c.seat.view_is in
    let e = committed g.M.Machine v t.result.0 t.result.1 t.new.token.me t.ensures.taken c.args.seat.now.pass p
    c.args.self.now.start c.requires.1 c.apply-applied.new.self c.exchange.new.seat.me c.args.event c.in-Ok-Done.reply
    (search rules) c.exchange.ensures.3 0 0 c.store.new.seat.me c.store.ensures.2 in
    posted g.M.Machine v t.result.0 t.result.1 t.new.token.me t.ensures.taken c.args.seat.now.pass p
    c.args.self.now.start c.requires.1 c.apply-applied.new.self c.exchange.new.seat.me c.args.event c.in-Ok-Done.reply
    (search rules) c.exchange.ensures.3 c.store.new.seat.me e _ _ _ refl c.apply-applied.ensures.cost
