use Rattle.std.proofs.Common.{◌∙◌, ◌<◌, List, ap, filter, map, subst, sym}
use Rattle.std.specs.Prelude.{IsPermutation}
use Rattle.std.specs.List.{AllByRecursion}
use Rattle.cv_io.specs.declared.leaf.Leaf.{Leaf}
use Rattle.of10_match.specs.Normal.{IsNormal}
use Rattle.incr_compile.specs.Compiling.{rules_after}
use Rattle.member_state.specs.Leaves.{leaf_of}
use Rattle.member_state.specs.Plans.{after_planned}
use Rattle.policy_meaning.specs.LeafRules.{leaf_rules}
use Rattle.policy_meaning.specs.declared.leaf.LeafTable.{LeafTable}
use Rattle.policy_meaning.specs.declared.rule.Rule.{Rule}
use Rattle.leaf_changes.specs.Leaves.{entry_rules, leaf_at}
use Rattle.leaf_changes.specs.Touched.{has_kind}
use Rattle.leaf_changes.proofs.Lists.{weaker}
use Rattle.leaf_changes.proofs.Rules.{rules_fit}
use Rattle.leaf_changes.proofs.RulesTold.{told_changes}
use Rattle.leaf_changes.proofs.delta.leaf_delta.Goals as goal

pub returns-clause-changed : goal.returns-clause-changed
returns-clause-changed c =
    let i = c.args.member in
    let h = c.args.kept.now in
    let ports = c.args.ports.now in
    let t : LeafTable = leaf_of i c.args.grant.now h.state in
    let u : LeafTable = leaf_of i c.args.grant.now (after_planned h.state c.args.planned.now c.args.now) in
    let serials = c.in_ok-changed.changed.0 in
    let entries = c.in_ok-changed.changed.1 in
    subst (λ (ls : List Leaf). IsPermutation
    (rules_after (record { member = i; gone = ls; come = c.in_ok-come.come }) (leaf_rules ports t))
    (leaf_rules ports u))
    (sym (c.in_ok-gone.ensures ∙ ap (λ ss. map (leaf_at i) (filter has_kind ss)) c.as_slice.ensures))
    (subst (λ (rs : List Rule). IsPermutation
    (rules_after (record { member = i; gone = map (leaf_at i) (filter has_kind serials); come = rs })
    (leaf_rules ports t))
    (leaf_rules ports u))
    (sym c.in_ok-come.ensures) (told_changes ports t u serials entries c.in_ok-changed.ensures))

pub returns-clause-normal : goal.returns-clause-normal
returns-clause-normal c =
    let p = c.args.planned.now in
    let ports = c.args.ports.now in
    let u : LeafTable = leaf_of c.args.member c.args.grant.now (after_planned c.args.kept.now.state p c.args.now) in
    let entries = c.in_ok-changed.changed.1 in
    subst (AllByRecursion (λ (r : Rule). IsNormal r.m)) (sym c.in_ok-come.ensures)
    (weaker (λ (r : Rule). IsNormal r.m × (r.level < p.levels.size)) (λ (r : Rule). IsNormal r.m) (λ r fits. fits.0)
    (entry_rules ports u entries)
    (rules_fit ports u p.levels.size c.requires.boxes entries c.in_ok-changed.ensures.fitting))

pub returns-clause-below : goal.returns-clause-below
returns-clause-below c =
    let p = c.args.planned.now in
    let ports = c.args.ports.now in
    let u : LeafTable = leaf_of c.args.member c.args.grant.now (after_planned c.args.kept.now.state p c.args.now) in
    let entries = c.in_ok-changed.changed.1 in
    subst (λ n. AllByRecursion (λ (r : Rule). r.level < n) c.in_ok-come.come) c.requires.plan.size
    (subst (AllByRecursion (λ (r : Rule). r.level < p.levels.size)) (sym c.in_ok-come.ensures)
    (weaker (λ (r : Rule). IsNormal r.m × (r.level < p.levels.size)) (λ (r : Rule). r.level < p.levels.size)
    (λ r fits. fits.1) (entry_rules ports u entries)
    (rules_fit ports u p.levels.size c.requires.boxes entries c.in_ok-changed.ensures.fitting)))
