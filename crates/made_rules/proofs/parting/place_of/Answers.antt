use Rattle.std.proofs.Common.{◌≡◌, ◌+◌, ◌-◌, ◌<◌, ◌≤◌, ℕ, arith, refl, subst}
use Rattle.made_rules.proofs.Parted.{DifferFrom, differ-below}
use Rattle.made_rules.proofs.parting.place_of.Goals as goal

pub returns-in-Less-clause-none : goal.returns-in-Less-clause-none
returns-in-Less-clause-none c up h i s =
    let t = c.loop-end-test.true in
    let w = c.loop-end.invariant.within in
    differ-below c.args.gone.now (c.loop-end.end - 1) c.args.rule.now c.index-gone-end.result (omega arith)
    c.index-gone-end.is (c.in-Less.ensures.below refl) up
    (subst (λ (n : ℕ). DifferFrom c.args.gone.now n c.args.rule.now) {x = c.loop-end.end} {y = (c.loop-end.end - 1) + 1}
    (omega arith) c.loop-end.invariant.differ) h i s
