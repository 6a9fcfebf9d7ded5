use Rattle.std.proofs.Common.{arith, subst, sym}
use Rattle.std.specs.Prelude.{IsPermutation}
use Rattle.std.proofs.lemmas.Result.{on_ok_weaker}
use Rattle.match_index.specs.Items.{ids_of}
use Rattle.match_index.specs.Questions.{is_meeting}
use Rattle.policy_meaning.specs.declared.rule.Rule.{Rule}
use Rattle.rule_ancestry.specs.Holding.{Held}
use Rattle.hop_rules.proofs.Reached.{met-count, met-walked}
use Rattle.hop_rules.proofs.meeting.add_by_right.Goals as goal

pub returns-clause-pushed : goal.returns-clause-pushed
returns-clause-pushed g c kept listed found =
    let a = c.args.around in
    let given = a.given.now in
    let b : Held Rule = record { id = c.args.there.id; item = c.args.there.rule.now } in
    let ids = subst (λ z. IsPermutation z (ids_of (is_meeting b.item.m) given.items)) (sym c.deref.ensures.value)
    c.in_ok-ids.ensures in
    on_ok_weaker c.add_each_met.result
    (λ e. met-walked a.at a.size given.exits c.args.place b c.requires.there c.requires.around.0 given.rules kept
    c.deref.result.now given.items c.args.fresh.now.items c.add_each_met.new.fresh.items
    c.requires.around.1.rules found ids listed e)
    c.add_each_met.ensures.pushed

pub returns-clause-steps : goal.returns-clause-steps
returns-clause-steps g c kept listed found =
    let a = c.args.around in
    let given = a.given.now in
    let b : Held Rule = record { id = c.args.there.id; item = c.args.there.rule.now } in
    let ids = subst (λ z. IsPermutation z (ids_of (is_meeting b.item.m) given.items)) (sym c.deref.ensures.value)
    c.in_ok-ids.ensures in
    let n = met-count a.at a.size given.exits c.args.place b c.requires.there given.rules kept c.deref.result.now
    given.items found ids listed in
    let s = c.add_each_met.ensures.steps in
    omega arith
