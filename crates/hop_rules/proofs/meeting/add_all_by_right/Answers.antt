use Rattle.std.proofs.Common.{◌≡◌, ◌∙◌, ◌++◌, ◌+◌, ◌≤◌, List, [], ap, map, subst, sym}
use Rattle.std.specs.Prelude.{IsPermutation}
use Rattle.std.specs.List.{AllByRecursion}
use Rattle.std.proofs.lemmas.List.{append-nil}
use Rattle.std.proofs.lemmas.Result.{on_ok_weaker}
use Rattle.list_change.proofs.Permute.{by-equation}
use Rattle.policy_meaning.specs.declared.rule.Rule.{Rule}
use Rattle.rule_ancestry.specs.Holding.{Held}
use Rattle.made_rules.specs.Rules.{rules_in}
use Rattle.made_rules.specs.declared.made.Made.{Made}
use Rattle.hop_rules.specs.Nodes.{CanMeet, arrival, held_at, made_right}
use Rattle.hop_rules.specs.Turns.{right_cost}
use Rattle.hop_rules.specs.Under.{under}
use Rattle.hop_rules.proofs.Joined.{got-held, got-none, got-past, got-some}
use Rattle.hop_rules.proofs.Reached.{all-meet}
use Rattle.hop_rules.proofs.Under.{under-none}
use Rattle.hop_rules.proofs.meeting.add_all_by_right.Goals as goal

pub add_each_by_right-requires-clause-there : goal.add_each_by_right-requires-clause-there
add_each_by_right-requires-clause-there g c =
    let a = c.args.around in
    subst (λ held. AllByRecursion (λ (b : Held Rule). CanMeet a.size a.given.now.exits c.args.place b.item)
    (rules_in held)) (got-held a.below.now c.args.place c.in-Some.node.now
    (got-some a.below.now c.args.place c.in-Some.node.now c.in-Some.ensures.lookup.3.0 c.in-Some.ensures.lookup.1))
    (all-meet a.size c.args.place a.below.now a.given.now.exits c.requires.exit c.requires.around.1.arriving)

pub returns-in-Some-clause-pushed : goal.returns-in-Some-clause-pushed
returns-in-Some-clause-pushed g c kept l f =
    let a = c.args.around in
    on_ok_weaker c.add_each_by_right.result
    (λ p. subst (λ (held : List (Held Made)). IsPermutation c.add_each_by_right.new.fresh.items
    (c.args.fresh.now.items ++ made_right a.at a.size a.given.now.exits kept
    (map (arrival c.args.place) (under (rules_in held) c.args.come.now))))
    (sym (got-held a.below.now c.args.place c.in-Some.node.now
    (got-some a.below.now c.args.place c.in-Some.node.now c.in-Some.ensures.lookup.3.0 c.in-Some.ensures.lookup.1)))
    p)
    (c.add_each_by_right.ensures.pushed kept l f)

pub returns-in-Some-clause-steps : goal.returns-in-Some-clause-steps
returns-in-Some-clause-steps g c kept l f =
    let a = c.args.around in
    subst (λ (held : List (Held Made)). c.add_each_by_right.new.steps ≤ c.args.steps.now + right_cost a.at
    a.given.now.exits kept (map (arrival c.args.place) (under (rules_in held) c.args.come.now)))
    (sym (got-held a.below.now c.args.place c.in-Some.node.now
    (got-some a.below.now c.args.place c.in-Some.node.now c.in-Some.ensures.lookup.3.0 c.in-Some.ensures.lookup.1)))
    (c.add_each_by_right.ensures.steps kept l f)

pub returns-in-None-clause-pushed : goal.returns-in-None-clause-pushed
returns-in-None-clause-pushed g c kept l f =
    let a = c.args.around in
    let e : under (rules_in (held_at a.below.now c.args.place)) c.args.come.now ≡ [] =
    under-none (rules_in (held_at a.below.now c.args.place)) c.args.come.now
    (ap rules_in (got-none a.below.now c.args.place (got-past a.below.now c.args.place c.in-None.ensures.lookup.3)))
    in
    by-equation _ _
    (sym (ap (λ (hs : List (Held Rule)). c.args.fresh.now.items
    ++ made_right a.at a.size a.given.now.exits kept (map (arrival c.args.place) hs)) e
    ∙ append-nil c.args.fresh.now.items))
