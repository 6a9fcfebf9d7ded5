use Rattle.std.proofs.Common.{◌≡◌, ◌≢◌, ◌+◌, ◌<◌, ◌≤◌, ◌^◌, ℕ, List, [], ◌∷◌, ◌++◌, ap, sym, subst, ◌∙◌}
use Rattle.incr_compile.specs.Compiling.{IsOfTables}
use Rattle.incr_compile.specs.Costs.{steps_from_scratch}
use Rattle.incr_compile.specs.Trees.{tree_of}
use Rattle.incr_compile.specs.declared.tree.Tree.{Tree}
use Rattle.policy_expr.specs.Policy.{Policy, members_of, policy_of}
use Rattle.policy_meaning.specs.Fitting.{levels_of}
use Rattle.policy_meaning.specs.LeafFact.{EachPair}
use Rattle.policy_meaning.specs.Networks.{ports_of}
use Rattle.policy_meaning.specs.Switches.{SwitchOf}
use Rattle.policy_meaning.specs.declared.leaf.LeafTable.{LeafTable}
use Rattle.composed_tables.specs.Rules.{IsTreeOf}
use Rattle.composed_tables.specs.Steps.{compile_steps}
use Rattle.composed_tables.proofs.rules.add_tree.Goals as goal

-- the steps are those of the expression
spent : (tables : List LeafTable) (x : SwitchOf) (ports : List ℕ) (e : Policy) (s0 s1 : ℕ) → ports ≡ ports_of x
    → e ≡ x.expr
    → s1 ≤ s0 + steps_from_scratch tables ports e → s1 ≤ s0 + compile_steps tables x
spent tables x ports e s0 s1 p q le =
    subst (λ (z : Policy). s1 ≤ s0 + steps_from_scratch tables (ports_of x) z) q
    (subst (λ (z : List ℕ). s1 ≤ s0 + steps_from_scratch tables z e) p le)

pub build-requires-clause-size : goal.build-requires-clause-size
build-requires-clause-size g c ks lives =
    subst (λ (e : Policy). levels_of c.args.network.now.tables e < 2 ^ 64)
    (sym (ap (λ (z : SwitchOf). z.expr) c.x.view_is))
    (c.requires.can.size c.args.v c.args.x.now c.requires.there)

pub build-requires-clause-once : goal.build-requires-clause-once
build-requires-clause-once g c ks lives =
    subst (λ (e : Policy). EachPair (λ (i j : ℕ). i ≢ j) (members_of e))
    (sym (ap (λ (z : SwitchOf). z.expr) c.x.view_is))
    (c.requires.can.once c.args.v c.args.x.now c.requires.there)

pub returns-clause-added : goal.returns-clause-added
returns-clause-added g c =
    let tree = c.in_ok-tree.tree in
    let sound = c.in_ok-sound.sound in
    record {
      tree = sound;
      added = c.in_ok-push.ensures.pushed ∙ ap (λ (z : List Tree). z ++ sound ∷ []) c.with_room.ensures.kept;
      of = subst (λ (z : Tree). IsTreeOf c.args.network.now.tables c.args.x.now z) (sym c.in_ok-sound.ensures.same)
          (record {
            policy = c.in_ok-tree.ensures.policy ∙ ap (λ (z : SwitchOf). z.expr) c.x.view_is;
            tables_are = subst (λ (ports : List ℕ). IsOfTables c.args.network.now.tables ports (tree_of tree))
                c.in_ok-ports.ensures c.in_ok-tree.ensures.tables;
          });
      sound = c.in_ok-sound.ensures.sound;
    }

pub returns-in_err-tree-clause-steps : goal.returns-in_err-tree-clause-steps
returns-in_err-tree-clause-steps g c =
    spent c.args.network.now.tables c.args.x.now c.in_ok-ports.ports (policy_of c.x.inside.expr) c.args.steps.now
    c.build.new.steps c.in_ok-ports.ensures
    (ap (λ (z : SwitchOf). z.expr) c.x.view_is) c.build.ensures.steps

pub returns-in_err-sound-clause-steps : goal.returns-in_err-sound-clause-steps
returns-in_err-sound-clause-steps g c =
    spent c.args.network.now.tables c.args.x.now c.in_ok-ports.ports (policy_of c.x.inside.expr) c.args.steps.now
    c.build.new.steps c.in_ok-ports.ensures
    (ap (λ (z : SwitchOf). z.expr) c.x.view_is) c.build.ensures.steps

pub returns-in_err-push-clause-steps : goal.returns-in_err-push-clause-steps
returns-in_err-push-clause-steps g c =
    spent c.args.network.now.tables c.args.x.now c.in_ok-ports.ports (policy_of c.x.inside.expr) c.args.steps.now
    c.build.new.steps c.in_ok-ports.ensures
    (ap (λ (z : SwitchOf). z.expr) c.x.view_is) c.build.ensures.steps

pub returns-clause-steps : goal.returns-clause-steps
returns-clause-steps g c =
    spent c.args.network.now.tables c.args.x.now c.in_ok-ports.ports (policy_of c.x.inside.expr) c.args.steps.now
    c.build.new.steps c.in_ok-ports.ensures
    (ap (λ (z : SwitchOf). z.expr) c.x.view_is) c.build.ensures.steps
