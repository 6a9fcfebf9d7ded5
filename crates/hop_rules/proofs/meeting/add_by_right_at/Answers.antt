use Rattle.std.proofs.Common.{◌∙◌, ◌++◌, List, ap, arith, map, refl, subst, sym}
use Rattle.std.specs.Prelude.{IsPermutation, filter_map}
use Rattle.std.proofs.lemmas.List.{append-nil}
use Rattle.std.proofs.lemmas.Result.{on_ok_weaker}
use Rattle.policy_meaning.specs.declared.rule.Rule.{Rule}
use Rattle.rule_ancestry.specs.Holding.{Held}
use Rattle.made_rules.specs.Rules.{rules_in}
use Rattle.hop_rules.specs.Nodes.{CanMeet, arrival, hop_way, made_right}
use Rattle.hop_rules.specs.Turns.{right_cost}
use Rattle.hop_rules.proofs.Joined.{nothing-made}
use Rattle.hop_rules.proofs.Under.{held-some, picked}
use Rattle.hop_rules.proofs.meeting.add_by_right_at.Goals as goal

pub add_by_right-requires-clause-there : goal.add_by_right-requires-clause-there
add_by_right-requires-clause-there g c =
    picked (λ (b : Held Rule). CanMeet c.args.around.size c.args.around.given.now.exits c.args.place b.item)
    (rules_in c.args.node.now.held) c.args.id c.in-Some.rule.now c.requires.there (sym c.in-Some.ensures.rule)

pub returns-in-Some-clause-pushed : goal.returns-in-Some-clause-pushed
returns-in-Some-clause-pushed g c kept listed found =
    let a = c.args.around in
    let h : Held Rule = record { id = c.args.id; item = c.in-Some.rule.now } in
    let one = filter_map (λ (k : Held Rule). (hop_way a.at a.size a.given.now.exits).pair k (arrival c.args.place h))
    kept in
    on_ok_weaker c.add_by_right.result
    (λ p. subst (λ z. IsPermutation c.add_by_right.new.fresh.items (c.args.fresh.now.items ++ z))
    (sym (append-nil one)
    ∙ ap (λ (hs : List (Held Rule)). made_right a.at a.size a.given.now.exits kept (map (arrival c.args.place) hs))
    (sym (held-some (rules_in c.args.node.now.held) c.args.id c.in-Some.rule.now (sym c.in-Some.ensures.rule)))) p)
    (c.add_by_right.ensures.pushed kept listed found)

pub returns-in-Some-clause-steps : goal.returns-in-Some-clause-steps
returns-in-Some-clause-steps g c kept listed found =
    let a = c.args.around in
    let e = ap (λ (hs : List (Held Rule)). right_cost a.at a.given.now.exits kept (map (arrival c.args.place) hs))
    (held-some (rules_in c.args.node.now.held) c.args.id c.in-Some.rule.now (sym c.in-Some.ensures.rule)) in
    let s = c.add_by_right.ensures.steps kept listed found in
    omega arith

pub returns-in-None-clause-pushed : goal.returns-in-None-clause-pushed
returns-in-None-clause-pushed g c kept listed found =
    let a = c.args.around in
    nothing-made (λ (hs : List (Held Rule)). made_right a.at a.size a.given.now.exits kept
    (map (arrival c.args.place) hs)) (rules_in c.args.node.now.held) c.args.id c.args.fresh.now.items refl
    (sym c.in-None.ensures.rule)
