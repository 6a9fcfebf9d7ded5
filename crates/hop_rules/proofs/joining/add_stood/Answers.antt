use Rattle.std.proofs.Common.{◌≡◌, ◌∙◌, ◌++◌, Some, None, ap, arith, subst, sym}
use Rattle.std.specs.Prelude.{IsPermutation}
use Rattle.std.proofs.lemmas.Result.{on_ok_weaker}
use Rattle.list_change.proofs.Permute.{by-equation}
use Rattle.policy_meaning.specs.declared.rule.Rule.{Rule}
use Rattle.rule_ancestry.specs.Holding.{Held}
use Rattle.hop_rules.specs.Standing.{leaving}
use Rattle.hop_rules.proofs.Joined.{could-count, lone-level, over-pairs}
use Rattle.hop_rules.proofs.Making.{makes-alone, makes-pairs}
use Rattle.hop_rules.proofs.joining.add_stood.Goals as goal

pub add_alone-requires : goal.add_alone-requires
add_alone-requires g c = let r = c.requires in
    record { level = lone-level r.own c.args.around.size c.args.here.rule.now r.is_own r.set_up.positive r.set_up.fits }

pub returns-in-None-clause-pushed : goal.returns-in-None-clause-pushed
returns-in-None-clause-pushed g c rule e =
    let a = c.args.around in
    let h : Held Rule = record { id = c.args.here.id; item = rule } in
    let l : leaving a.given.now.exits a.at.port c.args.here.rule.now.tail ≡ None =
    sym (c.in-None.ensures ∙ ap (λ es. leaving es a.at.port c.args.here.rule.now.tail) c.exits.ensures) in
    on_ok_weaker c.add_alone.result
    (λ p. by-equation _ _ (p ∙ ap (λ z. c.args.fresh.now.items ++ z)
    (sym (makes-alone a.at a.size a.given.now.exits a.below.now h c.args.here.rule.now e l))))
    c.add_alone.ensures.pushed

pub returns-in-None-clause-steps : goal.returns-in-None-clause-steps
returns-in-None-clause-steps g c rule e = let s = c.add_alone.ensures.step in omega arith

pub add_over-requires-clause-leaving : goal.add_over-requires-clause-leaving
add_over-requires-clause-leaving g c =
    let a = c.args.around in
    sym (c.in-Some.ensures ∙ ap (λ es. leaving es a.at.port c.args.here.rule.now.tail) c.exits.ensures)

pub returns-in-Some-clause-pushed : goal.returns-in-Some-clause-pushed
returns-in-Some-clause-pushed g c rule e =
    let a = c.args.around in
    let h : Held Rule = record { id = c.args.here.id; item = rule } in
    let l : leaving a.given.now.exits a.at.port c.args.here.rule.now.tail ≡ Some c.in-Some.departure =
    sym (c.in-Some.ensures ∙ ap (λ es. leaving es a.at.port c.args.here.rule.now.tail) c.exits.ensures) in
    on_ok_weaker c.add_over.result
    (λ p. subst (λ z. IsPermutation c.add_over.new.fresh.items (c.args.fresh.now.items ++ z))
    (sym (over-pairs a.size c.args.here.id c.args.here.rule.now c.in-Some.departure a.below.now)
    ∙ sym (makes-pairs a.at a.size a.given.now.exits a.below.now h c.args.here.rule.now c.in-Some.departure e l
    c.requires.set_up.distinct)) p)
    c.add_over.ensures.pushed

pub returns-in-Some-clause-steps : goal.returns-in-Some-clause-steps
returns-in-Some-clause-steps g c rule e =
    let a = c.args.around in
    let h : Held Rule = record { id = c.args.here.id; item = rule } in
    let l : leaving a.given.now.exits a.at.port c.args.here.rule.now.tail ≡ Some c.in-Some.departure =
    sym (c.in-Some.ensures ∙ ap (λ es. leaving es a.at.port c.args.here.rule.now.tail) c.exits.ensures) in
    let n = could-count c.args.here.rule.now c.in-Some.departure a.at a.given.now.exits a.below.now h e l in
    let s = c.add_over.ensures.steps in
    omega arith
