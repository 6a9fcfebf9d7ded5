use Rattle.std.proofs.Common.{map, subst, sym, ◌++◌}
use Rattle.std.specs.Prelude.{IsPermutation}
use Rattle.made_rules.specs.Changing.{AreWide, wide_of}
use Rattle.made_rules.proofs.Changes.{plan-olds, plan-ready, plan-undone}
use Rattle.made_rules.proofs.change.Change.ready.Goals as goal

pub widen-requires : goal.widen-requires
widen-requires c = plan-olds c.args.store.now c.args.lost.now c.args.made.items c.in_ok-plan.plan.gone.items
    c.in_ok-plan.plan.come.items c.in_ok-plan.plan.both.items c.in_ok-plan.ensures

pub narrow-requires : goal.narrow-requires
narrow-requires c =
    let p = c.in_ok-plan.ensures in
    let w = c.in_ok-stays.ensures.widened (p.kept ++ p.going) p.staying p.both_are p.all in
    subst (λ z. AreWide z c.in_ok-stays.stays.items) (sym c.in-Err.ensures.memory) (p.kept ++ p.going, w.all)

pub returns-in-Ok-clause-ready : goal.returns-in-Ok-clause-ready
returns-in-Ok-clause-ready c =
    let p = c.in_ok-plan.ensures in
    plan-ready c.args.store.now c.widen.new.store c.add_all.new.self c.args.lost.now c.args.made.items
    c.in_ok-plan.plan.gone.items c.in-Ok.come.items c.in_ok-plan.plan.come.items c.in_ok-plan.plan.both.items
    c.in_ok-stays.stays.items
    c.len-count.ensures.rising p (c.in_ok-stays.ensures.widened (p.kept ++ p.going) p.staying p.both_are p.all)
    c.in-Ok.ensures.count c.in-Ok.ensures.added

pub returns-in-Err-clause-memory : goal.returns-in-Err-clause-memory
returns-in-Err-clause-memory c =
    let p = c.in_ok-plan.ensures in
    let w = c.in_ok-stays.ensures.widened (p.kept ++ p.going) p.staying p.both_are p.all in
    plan-undone c.args.store.now c.widen.new.store c.narrow.new.store (p.kept ++ p.going) p.staying
    c.in_ok-plan.plan.both.items c.in_ok-stays.stays.items c.len-count.ensures.rising c.len-rest.ensures.rising
    p.all w
    (c.narrow.ensures (p.kept ++ p.going)
    (subst (λ z. IsPermutation z ((p.kept ++ p.going) ++ map wide_of c.in_ok-stays.stays.items))
    (sym c.in-Err.ensures.memory) w.all))
