use Rattle.std.proofs.Common.{◌≡◌, ◌∙◌, ◌++◌, ◌+◌, ◌≤◌, List, map, not, subst}
use Rattle.std.specs.Prelude.{IsPermutation, filter}
use Rattle.std.proofs.lemmas.Result.{IfOk-weaker}
use Rattle.rule_ancestry.specs.Holding.{item_of}
use Rattle.made_rules.specs.Rules.{is_made_of}
use Rattle.made_rules.specs.declared.made.Origin.{Origin}
use Rattle.hop_rules.specs.Nodes.{IsMadeOf, arrivals, made_left, made_right, own}
use Rattle.hop_rules.specs.Turns.{came_there, left_cost, lost_there, right_cost, stayed}
use Rattle.hop_rules.specs.Under.{under}
use Rattle.hop_rules.proofs.Turns.{node-turns, stayed-found, stayed-listed}
use Rattle.hop_rules.proofs.turning.change_node.Goals as goal

pub returns-clause-made : goal.returns-clause-made
returns-clause-made g c xs before o ts whole =
    let a = c.args.around in
    let es = a.given.now.exits in
    let turn = c.args.own_turn.now in
    let lost : c.deref.result.now ≡ map own turn.gone ++ lost_there c.args.turns.now es =
    c.deref.ensures.value ∙ c.in_ok-lost.ensures
    ∙ (λ i. map own (c.as_slice.ensures i) ++ lost_there c.args.turns.now (c.exits-exits.ensures i)) in
    IfOk-weaker c.change.result _ (λ _. IsMadeOf a.at a.size es a.given.now.rules a.below.now c.change.new.self.held)
    (λ turned k.
    node-turns before a.below.now c.args.turns.now a.at a.size es ts xs a.given.now turn o c.args.node.now.held
    c.change.new.self.held c.in_ok-fresh.fresh.items whole
    (λ kept l f. subst (λ ids. IsPermutation c.in_ok-fresh.fresh.items
    (made_left a.at a.size es (arrivals a.below.now es) (under a.given.now.rules ids)
    ++ made_right a.at a.size es kept (came_there a.below.now c.args.turns.now es)))
    c.as_slice-2.ensures (c.in_ok-fresh.ensures.made kept l f))
    (subst (λ (names : List Origin). IsPermutation (map item_of c.change.new.self.held)
    (filter (λ m. not (is_made_of names m)) (map item_of c.args.node.now.held) ++ c.in_ok-fresh.fresh.items)) lost
    k.items))
    c.change.ensures.change

pub returns-clause-told : goal.returns-clause-told
returns-clause-told g c = IfOk-weaker c.change.result _ _ (λ turned k. k.told) c.change.ensures.change

pub returns-clause-steps : goal.returns-clause-steps
returns-clause-steps g c xs o =
    let a = c.args.around in
    let given = a.given.now in
    let es = given.exits in
    let turn = c.args.own_turn.now in
    let kept = stayed given turn.come in
    subst (λ ids. c.made_fresh.new.steps ≤ c.args.steps.now +
    (left_cost a.at es (arrivals a.below.now es) (under given.rules ids) + right_cost a.at es kept
    (came_there a.below.now c.args.turns.now es)))
    c.as_slice-2.ensures (c.made_fresh.ensures.steps kept (stayed-listed xs given turn o)
    (stayed-found given turn.come o.risen))

pub returns-in_err-fresh-clause-steps : goal.returns-in_err-fresh-clause-steps
returns-in_err-fresh-clause-steps g c xs o =
    let a = c.args.around in
    let given = a.given.now in
    let es = given.exits in
    let turn = c.args.own_turn.now in
    let kept = stayed given turn.come in
    subst (λ ids. c.made_fresh.new.steps ≤ c.args.steps.now +
    (left_cost a.at es (arrivals a.below.now es) (under given.rules ids) + right_cost a.at es kept
    (came_there a.below.now c.args.turns.now es)))
    c.as_slice-2.ensures (c.made_fresh.ensures.steps kept (stayed-listed xs given turn o)
    (stayed-found given turn.come o.risen))
