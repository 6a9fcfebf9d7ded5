use Rattle.std.proofs.Common.{◌≡◌, ◌+◌, ◌≤◌, List, length, ap, sym, subst, ◌∙◌, arith}
use Rattle.std.specs.List.{insert}
use Rattle.std.proofs.lemmas.List.Edits.{length-remove}
use Rattle.incr_compile.specs.Compiling.{IsOf, policy_in}
use Rattle.incr_compile.specs.Costs.{steps_of}
use Rattle.incr_compile.specs.Trees.{IsTree, tree_of}
use Rattle.incr_compile.specs.declared.tree.Tree.{Tree}
use Rattle.switch_meaning.proofs.Items.{some_injective}
use Rattle.composed_tables.specs.Rules.{IsChangedAt, IsTreeChanged}
use Rattle.composed_tables.proofs.Changing.{changed-at}
use Rattle.composed_tables.proofs.Pushing.{put-back}
use Rattle.composed_tables.proofs.rules.change_tree.Goals as goal

pub insert-requires : goal.insert-requires
insert-requires g c =
    let there = c.requires.there in
    let long = length-remove c.args.trees.now c.args.v there in
    let items = ap (λ (z : List Tree). length z) (c.with_room.ensures.kept ∙ c.remove-tree.ensures.items) in
    omega (arith, long, items)

pub returns-in_ok-insert-in-Ok-clause-changed : goal.returns-in_ok-insert-in-Ok-clause-changed
returns-in_ok-insert-in-Ok-clause-changed g c =
    let trees = c.args.trees.now in
    let v = c.args.v in
    let sound = c.in_ok-sound-in-Ok.sound in
    let told = c.in-Ok.told in
    let e = c.in-Ok.ensures in
    let back = c.with_room.ensures.kept ∙ c.remove-tree.ensures.items in
    let same = c.in_ok-insert-in-Ok.ensures.inserted
    ∙ (ap (λ (z : List Tree). insert z v sound) back ∙ put-back trees v sound c.requires.there) in
    subst (λ (z : List Tree). IsChangedAt v c.args.delta trees z told) (sym same)
    (changed-at v c.args.delta trees c.remove-tree.result sound told c.remove-tree.ensures.item
    (subst (λ (z : Tree). IsTreeChanged c.args.delta told (tree_of c.remove-tree.result) (tree_of z))
    (sym c.in_ok-sound-in-Ok.ensures.same)
    (record {
      sound = subst (λ (z : Tree). IsTree (tree_of z)) c.in_ok-sound-in-Ok.ensures.same
          c.in_ok-sound-in-Ok.ensures.sound;
      policy = e.policy;
      members = e.members;
      rules = e.told;
      apart = e.apart;
    })))

pub returns-in-Err-clause-steps : goal.returns-in-Err-clause-steps
returns-in-Err-clause-steps g c t at sizes before after ch of =
    let same : c.remove-tree.result ≡ t = some_injective (sym c.remove-tree.ensures.item ∙ at) in
    subst (λ (z : Tree). c.apply.new.steps ≤ c.args.steps.now + steps_of sizes before after (policy_in (tree_of z)))
    same
    (c.apply.ensures.steps sizes before after ch (subst (λ (z : Tree). IsOf sizes before (tree_of z)) (sym same) of))

pub returns-in_err-sound-in-Ok-clause-steps : goal.returns-in_err-sound-in-Ok-clause-steps
returns-in_err-sound-in-Ok-clause-steps g c t at sizes before after ch of =
    let same : c.remove-tree.result ≡ t = some_injective (sym c.remove-tree.ensures.item ∙ at) in
    subst (λ (z : Tree). c.apply.new.steps ≤ c.args.steps.now + steps_of sizes before after (policy_in (tree_of z)))
    same
    (c.apply.ensures.steps sizes before after ch (subst (λ (z : Tree). IsOf sizes before (tree_of z)) (sym same) of))

pub returns-in_err-insert-in-Ok-clause-steps : goal.returns-in_err-insert-in-Ok-clause-steps
returns-in_err-insert-in-Ok-clause-steps g c t at sizes before after ch of =
    let same : c.remove-tree.result ≡ t = some_injective (sym c.remove-tree.ensures.item ∙ at) in
    subst (λ (z : Tree). c.apply.new.steps ≤ c.args.steps.now + steps_of sizes before after (policy_in (tree_of z)))
    same
    (c.apply.ensures.steps sizes before after ch (subst (λ (z : Tree). IsOf sizes before (tree_of z)) (sym same) of))

pub returns-in_ok-insert-in-Ok-clause-steps : goal.returns-in_ok-insert-in-Ok-clause-steps
returns-in_ok-insert-in-Ok-clause-steps g c t at sizes before after ch of =
    let same : c.remove-tree.result ≡ t = some_injective (sym c.remove-tree.ensures.item ∙ at) in
    subst (λ (z : Tree). c.apply.new.steps ≤ c.args.steps.now + steps_of sizes before after (policy_in (tree_of z)))
    same
    (c.apply.ensures.steps sizes before after ch (subst (λ (z : Tree). IsOf sizes before (tree_of z)) (sym same) of))
