use Rattle.std.proofs.Common.{◌≡◌, ◌<◌, ◌+◌, ℕ, List, Some, length, refl, ap, sym, ◌∙◌, arith}
use Rattle.std.specs.Prelude.{slice_get}
use Rattle.std.proofs.lemmas.List.{length_push}
use Rattle.std.proofs.lemmas.Option.{slice_get_read, slice_get_within}
use Rattle.incr_compile.specs.declared.tree.Tree.{Tree}
use Rattle.policy_meaning.specs.Switches.{SwitchOf}
use Rattle.composed_tables.proofs.Changing.{sound-more, trees-more}
use Rattle.composed_tables.specs.Steps.{compile_steps}
use Rattle.composed_tables.proofs.Spending.{spent-all, spent-more, spent-within}
use Rattle.composed_tables.proofs.rules.compile_all.Goals as goal

pub loop-v-init : goal.loop-v-init
loop-v-init g c =
    let none = ap (λ (z : List Tree). length z) c.new-trees.ensures in
    record {
      count = none;
      trees_are = λ v x t at is. absurd (let lt = slice_get_within c.new-trees.result v t is in omega arith);
      sound = λ v t is. absurd (let lt = slice_get_within c.new-trees.result v t is in omega arith);
      steps = omega arith;
    }

pub add_tree-requires-clause-there : goal.add_tree-requires-clause-there
add_tree-requires-clause-there g c ks lives =
    let test = c.loop-v-test.true in
    let items = c.as_slice-switches.result.now in
    let lt : c.loop-v.v < length items = omega arith in
    ap (λ (z : List SwitchOf). slice_get z c.loop-v.v) (sym c.as_slice-switches.ensures)
    ∙ slice_get_read items (length items) c.loop-v.v c.index-switches-v.result refl lt c.index-switches-v.is

pub loop-v-preserved : goal.loop-v-preserved
loop-v-preserved g c =
    let test = c.loop-v-test.true in
    let items = c.as_slice-switches.result.now in
    let lt : c.loop-v.v < length items = omega arith in
    let at : slice_get c.args.network.now.switches c.loop-v.v ≡ Some c.index-switches-v.result =
    ap (λ (z : List SwitchOf). slice_get z c.loop-v.v) (sym c.as_slice-switches.ensures)
    ∙ slice_get_read items (length items) c.loop-v.v c.index-switches-v.result refl lt c.index-switches-v.is in
    let i = c.loop-v.invariant in
    let added = c.in_ok-add_tree.ensures.added in
    record {
      count = ap (λ (z : List Tree). length z) added.added
          ∙ (length_push c.loop-v.trees added.tree ∙ ap (λ (k : ℕ). k + 1) i.count);
      trees_are = trees-more c.args.network.now c.loop-v.trees c.add_tree.new.trees c.index-switches-v.result c.loop-v.v
          i.count at added i.trees_are;
      sound = sound-more c.args.network.now c.loop-v.trees c.add_tree.new.trees c.index-switches-v.result c.loop-v.v
          i.count at added i.sound;
      steps =
          spent-more (compile_steps c.args.network.now.tables) c.args.network.now.switches c.loop-v.v
          c.index-switches-v.result at c.args.steps.now c.loop-v.steps c.add_tree.new.steps
          i.steps c.add_tree.ensures.steps;
    }

pub returns-in_err-add_tree-clause-steps : goal.returns-in_err-add_tree-clause-steps
returns-in_err-add_tree-clause-steps g c =
    let test = c.loop-v-test.true in
    let items = c.as_slice-switches.result.now in
    let lt : c.loop-v.v < length items = omega arith in
    let at : slice_get c.args.network.now.switches c.loop-v.v ≡ Some c.index-switches-v.result =
    ap (λ (z : List SwitchOf). slice_get z c.loop-v.v) (sym c.as_slice-switches.ensures)
    ∙ slice_get_read items (length items) c.loop-v.v c.index-switches-v.result refl lt c.index-switches-v.is in
    spent-within (compile_steps c.args.network.now.tables) c.args.network.now.switches c.loop-v.v
    c.index-switches-v.result at c.args.steps.now c.loop-v.steps c.add_tree.new.steps
    c.loop-v.invariant.steps c.add_tree.ensures.steps

pub returns-clause-steps : goal.returns-clause-steps
returns-clause-steps g c =
    spent-all (compile_steps c.args.network.now.tables) c.args.network.now.switches c.loop-v.v c.args.steps.now
    c.loop-v.steps c.loop-v.invariant.steps
