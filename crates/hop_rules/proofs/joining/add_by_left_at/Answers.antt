use Rattle.std.proofs.Common.{◌∙◌, ◌++◌, ap, arith, refl, subst, sym}
use Rattle.std.specs.Prelude.{IsPermutation, flat_map}
use Rattle.std.proofs.lemmas.List.{append-nil}
use Rattle.std.proofs.lemmas.Result.{on_ok_weaker}
use Rattle.list_change.specs.Pairing.{by_one}
use Rattle.policy_meaning.specs.declared.rule.Rule.{Rule}
use Rattle.rule_ancestry.specs.Holding.{Held}
use Rattle.hop_rules.specs.Nodes.{IsOwn, arrivals, hop_way, made_left}
use Rattle.hop_rules.specs.Turns.{left_cost}
use Rattle.hop_rules.proofs.Joined.{nothing-made}
use Rattle.hop_rules.proofs.Under.{held-some, picked}
use Rattle.hop_rules.proofs.joining.add_by_left_at.Goals as goal

pub add_by_left-requires : goal.add_by_left-requires
add_by_left-requires g c =
    let s = c.requires.1 in
    record {
      own = c.requires.0;
      set_up = s;
      is_own =
          picked (λ (a : Held Rule). IsOwn c.requires.0 a.item) c.args.around.given.now.rules c.args.id
          c.in-Some.rule.now
          s.rules (sym c.in-Some.ensures.rule);
    }

pub returns-in-Some-clause-pushed : goal.returns-in-Some-clause-pushed
returns-in-Some-clause-pushed g c =
    let a = c.args.around in
    let h : Held Rule = record { id = c.args.id; item = c.in-Some.rule.now } in
    let made = by_one (hop_way a.at a.size a.given.now.exits) (arrivals a.below.now a.given.now.exits) in
    on_ok_weaker c.add_by_left.result
    (λ p. subst (λ z. IsPermutation c.add_by_left.new.fresh.items (c.args.fresh.now.items ++ z))
    (sym (append-nil (made h))
    ∙ ap (flat_map made)
    (sym (held-some a.given.now.rules c.args.id c.in-Some.rule.now (sym c.in-Some.ensures.rule)))) p)
    c.add_by_left.ensures.pushed

pub returns-in-Some-clause-steps : goal.returns-in-Some-clause-steps
returns-in-Some-clause-steps g c =
    let a = c.args.around in
    let cost = left_cost a.at a.given.now.exits (arrivals a.below.now a.given.now.exits) in
    let e = ap cost (held-some a.given.now.rules c.args.id c.in-Some.rule.now (sym c.in-Some.ensures.rule)) in
    let s = c.add_by_left.ensures.steps in
    omega arith

pub returns-in-None-clause-pushed : goal.returns-in-None-clause-pushed
returns-in-None-clause-pushed g c =
    let a = c.args.around in
    nothing-made (made_left a.at a.size a.given.now.exits (arrivals a.below.now a.given.now.exits)) a.given.now.rules
    c.args.id c.args.fresh.now.items refl (sym c.in-None.ensures.rule)
