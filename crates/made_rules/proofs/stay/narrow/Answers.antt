use Rattle.std.proofs.Common.{sym, ◌∙◌}
use Rattle.made_rules.proofs.Widening.{narrowing-all, narrowing-more, narrowing-next, narrowing-none, nothing-left}
use Rattle.made_rules.proofs.stay.narrow.Goals as goal

pub loop-stay-init : goal.loop-stay-init
loop-stay-init c = narrowing-none c.args.store.now c.args.stays.items c.args.back

pub narrow_one-requires : goal.narrow_one-requires
narrow_one-requires c =
    let n = c.loop-stay.invariant c.requires.0 c.requires.1 in (
      _,
      narrowing-next c.requires.0 c.loop-stay.store c.args.stays.items c.loop-stay.stays.items c.pop.new.self.items
          c.args.back c.in-Some.stay c.in-Some.ensures.items n,
    )

pub loop-stay-preserved : goal.loop-stay-preserved
loop-stay-preserved c =
    narrowing-more c.args.store.now c.loop-stay.store c.narrow_one.new.store c.args.stays.items c.loop-stay.stays.items
    c.pop.new.self.items c.args.back c.in-Some.stay c.in-Some.ensures.items c.loop-stay.invariant
    c.narrow_one.ensures

pub returns : goal.returns
returns c rest p =
    narrowing-all c.args.store.now c.loop-stay.store c.args.stays.items c.loop-stay.stays.items c.args.back
    (nothing-left _ (sym c.loop-stay.stays.ok.0 ∙ c.in_default.ensures.cases.0)) c.loop-stay.invariant rest p
