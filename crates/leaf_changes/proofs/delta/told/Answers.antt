use Rattle.std.proofs.Common.{ℕ, List, subst, sym}
use Rattle.level_map.specs.Levels.{Levels}
use Rattle.member_state.specs.Changes.{levels_with}
use Rattle.member_state.specs.Leaves.{leaf_of}
use Rattle.member_state.specs.Plans.{after_planned}
use Rattle.policy_meaning.specs.declared.leaf.LeafEntry.{LeafEntry}
use Rattle.policy_meaning.specs.declared.leaf.LeafTable.{LeafTable}
use Rattle.leaf_changes.specs.Plans.{KeepsLevels}
use Rattle.leaf_changes.specs.Told.{IsFitting, IsTold}
use Rattle.leaf_changes.specs.Touched.{touched_in}
use Rattle.std.specs.List.{AllByRecursion}
use Rattle.leaf_changes.proofs.Told.{all_named, told_anew, told_touched}
use Rattle.leaf_changes.proofs.delta.told.Goals as goal

pub returns-then-keeps : goal.returns-then-keeps
returns-then-keeps c =
    let h = c.args.kept.now in
    let p = c.args.planned.now in
    let t : LeafTable = leaf_of c.args.member c.args.grant.now h.state in
    let u : LeafTable = leaf_of c.args.member c.args.grant.now (after_planned h.state p c.args.now) in
    let keeps = subst (λ (l : Levels). KeepsLevels l (levels_with p.change.added l)) c.levels.ensures
    (c.in_ok-keeps.ensures c.if-keeps.true) in
    let told = told_touched c.args.member c.args.grant.now h p c.args.now c.table.ensures.sound c.requires.ready
    c.requires.plan keeps in
    subst (λ (ss : List ℕ). IsTold t u ss c.in_ok-come.come) (sym c.in_ok-named.ensures)
    (subst (λ (es : List LeafEntry). IsTold t u (touched_in p) es) (sym c.in_ok-come.ensures) told)

pub returns : goal.returns
returns c =
    let h = c.args.kept.now in
    let p = c.args.planned.now in
    let t : LeafTable = leaf_of c.args.member c.args.grant.now h.state in
    let u : LeafTable = leaf_of c.args.member c.args.grant.now (after_planned h.state p c.args.now) in
    let all : List ℕ = all_named c.args.member c.args.grant.now h p c.args.now c.table.ensures.sound c.requires.ready
    c.requires.plan in
    let told = told_anew c.args.member c.args.grant.now h p c.args.now c.table.ensures.sound c.requires.ready
    c.requires.plan
    (subst (AllByRecursion (IsFitting p.levels.size)) c.in_ok-entries.ensures.entries c.in_ok-entries.ensures.fitting)
    in
    subst (λ (ss : List ℕ). IsTold t u ss c.in_ok-entries.entries) (sym c.in_ok-serials.ensures)
    (subst (λ (es : List LeafEntry). IsTold t u all es) (sym c.in_ok-entries.ensures.entries) told)
