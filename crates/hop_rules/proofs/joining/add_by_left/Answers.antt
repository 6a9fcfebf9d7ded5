use Rattle.std.proofs.Common.{◌∙◌, ◌++◌, ap, sym}
use Rattle.std.proofs.lemmas.List.{append-nil}
use Rattle.list_change.proofs.Permute.{by-equation}
use Rattle.policy_meaning.specs.declared.rule.Rule.{Rule}
use Rattle.rule_ancestry.specs.Holding.{Held}
use Rattle.hop_rules.proofs.Making.{makes-nothing, stood-own}
use Rattle.hop_rules.proofs.joining.add_by_left.Goals as goal

pub add_stood-requires : goal.add_stood-requires
add_stood-requires g c =
    let r = c.requires in
    record {
      own = r.own;
      set_up = r.set_up;
      is_own =
          stood-own r.own c.args.around.at c.args.here.rule.now c.in-Some.rule
          (sym c.in_ok-stood.ensures ∙ c.in-Some.is)
          r.is_own;
    }

pub returns-in-Some-clause-pushed : goal.returns-in-Some-clause-pushed
returns-in-Some-clause-pushed g c = c.add_stood.ensures.pushed c.args.here.rule.now
    (sym c.in_ok-stood.ensures ∙ c.in-Some.is)

pub returns-in-Some-clause-steps : goal.returns-in-Some-clause-steps
returns-in-Some-clause-steps g c = c.add_stood.ensures.steps c.args.here.rule.now
    (sym c.in_ok-stood.ensures ∙ c.in-Some.is)

pub returns-in-None-clause-pushed : goal.returns-in-None-clause-pushed
returns-in-None-clause-pushed g c =
    let a = c.args.around in
    let h : Held Rule = record { id = c.args.here.id; item = c.args.here.rule.now } in
    by-equation _ _
    (sym (ap (λ z. c.args.fresh.now.items ++ z)
    (makes-nothing a.at a.size a.given.now.exits a.below.now h (sym c.in_ok-stood.ensures ∙ c.in-None.is))
    ∙ append-nil c.args.fresh.now.items))
