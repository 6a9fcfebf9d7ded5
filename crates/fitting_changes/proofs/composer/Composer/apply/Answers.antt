use Rattle.std.proofs.Common.{◌+◌, ◌≤◌, ◌≡◌, IfOk, OnErr, subst, sym, true}
use Rattle.list_change.specs.Changes.{Changed}
use Rattle.incr_compile.specs.Compiling.{IsMemberDelta, IsOf, policy_in, rules_at}
use Rattle.incr_compile.specs.Costs.{steps_of}
use Rattle.incr_compile.specs.Trees.{has_member, tree_of}
use Rattle.fitting_changes.proofs.Composers.{after-any}
use Rattle.fitting_changes.proofs.composer.Composer.apply.Goals as goal

pub apply-requires-clause-member : goal.apply-requires-clause-member
apply-requires-clause-member g c = subst (λ z. has_member c.args.delta.member (tree_of z) ≡ true) (sym c.self.view_is)
    c.requires.member

pub apply-requires-clause-come : goal.apply-requires-clause-come
apply-requires-clause-come g c = subst (λ z. IsMemberDelta c.args.delta (tree_of z)) (sym c.self.view_is)
    c.requires.come

pub invariant_of-self : goal.invariant_of-self
invariant_of-self g c =
    let e = c.apply.ensures in
    after-any c.apply.result c.self.inside.shape c.self.inside.size c.args.delta (tree_of c.self.inside.compiled)
    (tree_of c.apply.new.self) c.self.invariant
    e.policy e.members e.memory

pub returns-clause-members : goal.returns-clause-members
returns-clause-members g c sizes before after m o =
    c.apply.ensures.members sizes before after m (subst (λ z. IsOf sizes before (tree_of z)) (sym c.self.view_is) o)

pub returns-clause-told : goal.returns-clause-told
returns-clause-told g c =
    subst
    (λ z. IfOk c.apply.result
    (λ told. Changed (rules_at (tree_of z)) (rules_at (tree_of c.apply.new.self)) told.gone told.come))
    c.self.view_is
    c.apply.ensures.told

pub returns-clause-steps : goal.returns-clause-steps
returns-clause-steps g c sizes before after m o =
    subst (λ z. c.apply.new.steps ≤ c.args.steps.now + steps_of sizes before after (policy_in (tree_of z)))
    c.self.view_is
    (c.apply.ensures.steps sizes before after m (subst (λ z. IsOf sizes before (tree_of z)) (sym c.self.view_is) o))

pub returns-clause-memory : goal.returns-clause-memory
returns-clause-memory g c =
    subst (λ z. OnErr c.apply.result (tree_of c.apply.new.self ≡ tree_of z)) c.self.view_is c.apply.ensures.memory
