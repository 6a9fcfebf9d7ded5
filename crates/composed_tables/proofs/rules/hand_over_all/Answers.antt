use Rattle.std.proofs.Common.{◌≡◌, ℕ, ◌+◌, ◌<◌, ◌≤◌, Bool, false, List, [], Some, length, refl, ap, subst, ◌∙◌, arith}
use Rattle.std.specs.Prelude.{slice_get, IsPermutation}
use Rattle.std.proofs.lemmas.Option.{slice_get_within}
use Rattle.agreement.specs.declared.state.Setting.{Setting}
use Rattle.hop_rules.specs.Tables.{TableOf, is_whole, rules_at as rules_kept}
use Rattle.incr_compile.specs.Compiling.{rules_at}
use Rattle.incr_compile.specs.Trees.{tree_of}
use Rattle.incr_compile.specs.declared.tree.Tree.{Tree}
use Rattle.virtual_topology.specs.declared.plan.TopologyPlan.{TopologyPlan}
use Rattle.composed_tables.specs.Rules.{AreRulesOf, AreSound, KeepsRest, RulesOf}
use Rattle.composed_tables.specs.Steps.{HasFirst, first_fabric, hop_steps}
use Rattle.composed_tables.proofs.Building.{done-more, none-more, rest-more}
use Rattle.composed_tables.proofs.Starting.{first-all, first-handed, first-more, first-within, laid-rest}
use Rattle.composed_tables.proofs.rules.hand_over_all.Goals as goal

pub loop-v-init : goal.loop-v-init
loop-v-init g c = record {
  up = omega arith;
  rest = refl;
  done = λ u t lt at w. absurd (omega arith);
  none = λ u le. c.requires.empty.none u;
  steps = λ s sound of. omega arith;
}

pub hand_over-requires-clause-kept : goal.hand_over-requires-clause-kept
hand_over-requires-clause-kept g c = ap (λ (z : TableOf). z.lost) c.loop-v.invariant.rest ∙ c.requires.empty.kept

pub hand_over-requires-clause-sizes_are : goal.hand_over-requires-clause-sizes_are
hand_over-requires-clause-sizes_are g c = ap (λ (z : TableOf). z.sizes) c.loop-v.invariant.rest
    ∙ c.requires.empty.sizes_are

pub hand_over-requires-clause-wholes_are : goal.hand_over-requires-clause-wholes_are
hand_over-requires-clause-wholes_are g c = ap (λ (z : TableOf). z.whole) c.loop-v.invariant.rest
    ∙ c.requires.empty.wholes

pub hand_over-requires-clause-none : goal.hand_over-requires-clause-none
hand_over-requires-clause-none g c = c.loop-v.invariant.none c.loop-v.v (omega arith)

-- the steps of one virtual switch more, by a setting
one-more : (s : Setting) (trees : List Tree) (sizes : List ℕ) (whole : List Bool) (first now : TableOf) (v s0 s1 : ℕ)
    → KeepsRest first now → AreSound trees
    → AreRulesOf s (record { trees = trees; sizes = sizes; whole = whole; hops = first })
    → ((u : ℕ) (t : Tree) → u < v → slice_get trees u ≡ Some t → is_whole first u ≡ false
    → IsPermutation (rules_at (tree_of t)) (rules_kept now u))
    → ((u : ℕ) → v ≤ u → rules_kept now u ≡ [])
    → ((s : Setting) → AreSound trees → HasFirst s v now
    → AreRulesOf s (record { trees = trees; sizes = sizes; whole = whole; hops = now })
    → s1 ≤ s0 + hop_steps now.plan s (first_fabric s.network v) (first_fabric s.network (v + 1)))
    → s1 ≤ s0 + hop_steps first.plan s (first_fabric s.network v) (first_fabric s.network (v + 1))
one-more s trees sizes whole first now v s0 s1 rest sound of done none h =
    let r : RulesOf = record { trees = trees; sizes = sizes; whole = whole; hops = first } in
    subst (λ (z : TopologyPlan). s1 ≤ s0 + hop_steps z s (first_fabric s.network v) (first_fabric s.network (v + 1)))
    (ap (λ (z : TableOf). z.plan) rest)
    (h s sound (first-handed s trees sound r refl of v now done none)
    (record { count = of.count; trees_are = of.trees_are; laid_out = laid-rest s first now rest of.laid_out }))

pub loop-v-preserved : goal.loop-v-preserved
loop-v-preserved g c =
    let i = c.loop-v.invariant in
    let v = c.loop-v.v in
    let trees = c.args.trees.now in
    let first = c.args.hops.now in
    let h = c.in_ok-hand_over.ensures.handed in
    let test = c.loop-v-test.true in
    record {
      up = omega arith;
      rest = rest-more v trees first c.loop-v.hops c.hand_over.new.hops i.rest h;
      done = done-more v trees first c.loop-v.hops c.hand_over.new.hops i.rest h i.done;
      none = none-more v trees first c.loop-v.hops c.hand_over.new.hops i.rest h i.none;
      steps = λ s sound of. first-more first.plan s v c.args.steps.now c.loop-v.steps c.hand_over.new.steps
          (i.steps s sound of)
          (one-more s trees c.args.sizes.now c.args.whole.now first c.loop-v.hops v c.loop-v.steps c.hand_over.new.steps
          i.rest sound of i.done i.none c.hand_over.ensures.steps);
    }

pub returns-in_err-hand_over-clause-steps : goal.returns-in_err-hand_over-clause-steps
returns-in_err-hand_over-clause-steps g c s sound of =
    let i = c.loop-v.invariant in
    let v = c.loop-v.v in
    let trees = c.args.trees.now in
    let first = c.args.hops.now in
    first-within first.plan s v c.args.steps.now c.loop-v.steps c.hand_over.new.steps (length trees) c.loop-v-test.true
    (i.steps s sound of)
    (one-more s trees c.args.sizes.now c.args.whole.now first c.loop-v.hops v c.loop-v.steps c.hand_over.new.steps
    i.rest sound of i.done i.none c.hand_over.ensures.steps)

pub returns-clause-steps : goal.returns-clause-steps
returns-clause-steps g c s sound of = first-all c.args.hops.now.plan s c.loop-v.v (length c.args.trees.now)
    c.args.steps.now c.loop-v.steps c.loop-v.invariant.up (c.loop-v.invariant.steps s sound of)

pub returns-clause-handed : goal.returns-clause-handed
returns-clause-handed g c = record {
  rest = c.loop-v.invariant.rest;
  each = λ v t at w.
      let lt = slice_get_within c.args.trees.now v t at in
      let test = c.loop-v-test.false in
      c.loop-v.invariant.done v t (omega arith) at w;
}
