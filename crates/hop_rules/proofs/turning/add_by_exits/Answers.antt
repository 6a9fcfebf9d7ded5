use Rattle.std.proofs.Common.{◌++◌, ◌+◌, ◌≤◌, arith, subst, sym, ◌≡◌, get_or, refl, true}
use Rattle.std.proofs.lemmas.List.Elements.{All-from_recursion}
use Rattle.std.specs.Prelude.{IsPermutation}
use Rattle.std.proofs.lemmas.List.{append-nil, take_all}
use Rattle.list_change.proofs.Permute.{by-equation}
use Rattle.hop_rules.specs.Nodes.{leads_there, made_right}
use Rattle.hop_rules.specs.Turns.{came_there, right_cost}
use Rattle.hop_rules.specs.declared.exits.Exit.{Exit}
use Rattle.hop_rules.proofs.Came.{exits-ended, exits-made, exits-steps}
use Rattle.hop_rules.proofs.turning.add_by_exits.Goals as goal

pub loop-exit-init : goal.loop-exit-init
loop-exit-init g c = record {
  made = λ kept l f. by-equation _ _ (sym (append-nil c.args.fresh.now.items));
  steps = λ kept l f. omega arith;
}

pub add_all_by_right-requires-clause-exit : goal.add_all_by_right-requires-clause-exit
add_all_by_right-requires-clause-exit g c =
    let P : Exit → Type 0 = λ e. leads_there e.place c.args.around.given.now.exits ≡ true in
    All-from_recursion P c.args.exits.now c.requires.exits c.loop-exit.exit-index _ c.loop-exit-test.true

pub loop-exit-preserved : goal.loop-exit-preserved
loop-exit-preserved g c =
    let a = c.args.around in
    let es = c.args.exits.now in
    let i = c.loop-exit.exit-index in
    let none : Exit = record { port = 0; peer = record { v = 0; port = 0 }; place = 0 } in
    let e = get_or es i none in
    record {
      made = λ kept l f.
          exits-made a.below.now c.args.turns.now es i none e c.loop-exit-test.true refl a.at a.given.now.exits kept
          c.come_there-come.result.now c.come_there-come.ensures a.size c.args.fresh.now.items
          c.loop-exit.fresh.items
          c.add_all_by_right.new.fresh.items (c.loop-exit.invariant.made kept l f)
          (c.in_ok-add_all_by_right.ensures.pushed kept l f);
      steps = λ kept l f.
          exits-steps a.below.now c.args.turns.now es i none e c.loop-exit-test.true refl a.at a.given.now.exits kept
          c.come_there-come.result.now c.come_there-come.ensures c.args.steps.now c.loop-exit.steps
          c.add_all_by_right.new.steps
          (c.loop-exit.invariant.steps kept l f) (c.add_all_by_right.ensures.steps kept l f);
    }

pub returns-in_err-add_all_by_right-clause-steps : goal.returns-in_err-add_all_by_right-clause-steps
returns-in_err-add_all_by_right-clause-steps g c kept l f =
    let a = c.args.around in
    let es = c.args.exits.now in
    let i = c.loop-exit.exit-index in
    let none : Exit = record { port = 0; peer = record { v = 0; port = 0 }; place = 0 } in
    let e = get_or es i none in
    exits-ended a.below.now c.args.turns.now es i none e c.loop-exit-test.true refl a.at a.given.now.exits kept
    c.come_there-come.result.now c.come_there-come.ensures c.args.steps.now c.loop-exit.steps
    c.add_all_by_right.new.steps
    (c.loop-exit.invariant.steps kept l f) (c.add_all_by_right.ensures.steps kept l f)

pub returns-clause-pushed : goal.returns-clause-pushed
returns-clause-pushed g c kept l f =
    let a = c.args.around in
    subst (λ es. IsPermutation c.loop-exit.fresh.items
    (c.args.fresh.now.items ++ made_right a.at a.size a.given.now.exits kept
    (came_there a.below.now c.args.turns.now es)))
    (take_all c.loop-exit.exit-index c.args.exits.now (omega (arith, c.loop-exit-test.false)))
    (c.loop-exit.invariant.made kept l f)

pub returns-clause-steps : goal.returns-clause-steps
returns-clause-steps g c kept l f =
    let a = c.args.around in
    subst (λ es. c.loop-exit.steps ≤ c.args.steps.now + right_cost a.at a.given.now.exits kept
    (came_there a.below.now c.args.turns.now es))
    (take_all c.loop-exit.exit-index c.args.exits.now (omega (arith, c.loop-exit-test.false)))
    (c.loop-exit.invariant.steps kept l f)
