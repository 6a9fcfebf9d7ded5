use Rattle.std.proofs.Common.{[], sym, ap, subst, ◌∙◌, ◌+◌, arith, get_or, take}
use Rattle.std.proofs.lemmas.List.{get_or_default}
use Rattle.install_plan.specs.InsideBest.{Leads, before, candidates}
use Rattle.install_plan.specs.declared.key.Key.{Key}
use Rattle.install_plan.proofs.Candidates.{leads-all, leads-next}
use Rattle.install_plan.proofs.choosing.first_among.Goals as goal

pub loop-key-preserved : goal.loop-key-preserved
loop-key-preserved c =
    let slots = c.args.slots.now.entries in
    let h = c.args.header.now in
    let keys = c.args.keys.now in
    let i = c.loop-key.key-index in
    let none : Key = record { priority = 0; bytes = [] } in
    let k = get_or keys i none in
    let next = leads-next slots h keys i k c.loop-key.first c.loop-key-test.true
    (get_or_default keys i none k c.loop-key-test.true) c.loop-key.invariant in
    subst (Leads (candidates slots h (take (i + 1) keys)))
    (sym (c.before-first.ensures ∙ ap (before c.loop-key.first) c.weigh.ensures)) next

pub returns : goal.returns
returns c = leads-all c.args.slots.now.entries c.args.header.now c.args.keys.now c.loop-key.key-index c.loop-key.first
    (omega (arith, c.loop-key-test.false)) c.loop-key.invariant
