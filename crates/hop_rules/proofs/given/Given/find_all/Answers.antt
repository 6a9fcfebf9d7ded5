use Rattle.std.proofs.Common.{arith, subst, sym}
use Rattle.std.proofs.lemmas.List.{take_all}
use Rattle.made_rules.proofs.Ids.{Rising}
use Rattle.hop_rules.specs.Handed.{AreFoundAt, GivenOf}
use Rattle.hop_rules.proofs.Noted.{none-noted, one-noted}
use Rattle.hop_rules.proofs.given.Given.find_all.Goals as goal

pub loop-rule-init : goal.loop-rule-init
loop-rule-init c =
    let up = subst (λ (g : GivenOf). Rising g.rules) c.self.view_is c.len-count.ensures.rising in
    subst (λ ids. AreFoundAt c.args.self.now.rules ids _) (sym c.new-ids.ensures.items)
    (none-noted c.args.self.now.rules up)

pub loop-rule-preserved : goal.loop-rule-preserved
loop-rule-preserved c =
    let up = subst (λ (g : GivenOf). Rising g.rules) c.self.view_is c.len-count.ensures.rising in
    one-noted c.args.self.now.rules up c.loop-rule.ids.items c.note.new.ids.items c.args.rules.now
    c.loop-rule.rule-index c.rule-item.result c.loop-rule-test.true c.rule-item.is c.in_ok-note.ensures
    c.loop-rule.invariant

pub returns : goal.returns
returns c = subst (AreFoundAt c.args.self.now.rules c.loop-rule.ids.items)
    (take_all c.loop-rule.rule-index c.args.rules.now (omega (arith, c.loop-rule-test.false))) c.loop-rule.invariant
