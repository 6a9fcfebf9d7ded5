use Rattle.std.proofs.Common.{◌+◌, ◌≤◌, ◌≡◌, ◌++◌, ◌∙◌, List, ap, arith, length, map, subst, sym, true, ℕ}
use Rattle.list_change.specs.Changes.{Changed}
use Rattle.policy_meaning.specs.declared.rule.Rule.{Rule}
use Rattle.rule_ancestry.specs.Holding.{Held}
use Rattle.made_rules.specs.Changing.{IsReady}
use Rattle.made_rules.specs.Rules.{rule_of}
use Rattle.made_rules.specs.declared.made.Made.{Made}
use Rattle.incr_compile.specs.Compiling.{IsMemberDelta, IsOf, policy_in, rules_at, rules_held}
use Rattle.incr_compile.specs.Costs.{steps_of}
use Rattle.incr_compile.specs.Trees.{has_member, tree_of}
use Rattle.incr_compile.proofs.Applied.{applied-apart, applied-members, applied-policy, applied-told, applied-tree}
use Rattle.incr_compile.proofs.Applied.{leaving, under-way}
use Rattle.incr_compile.proofs.Told.{can-change}
use Rattle.incr_compile.proofs.compiled.Compiled.apply.Goals as goal

pub ready-requires : goal.ready-requires
ready-requires g c =
    (can-change c.args.delta c.in_ok-asked.asked (tree_of c.self.inside.tree) c.self.invariant.0 c.self.invariant.1
    (subst (λ z. has_member c.args.delta.member (tree_of z) ≡ true) (sym c.self.view_is) c.requires.member)
    (subst (λ z. IsMemberDelta c.args.delta (tree_of z)) (sym c.self.view_is) c.requires.come)
    c.in_ok-asked.ensures.asks c.in_ok-asked.ensures.found)

pub settle-gone-requires : goal.settle-gone-requires
settle-gone-requires g c =
    let can =
    (can-change c.args.delta c.in_ok-asked.asked (tree_of c.self.inside.tree) c.self.invariant.0 c.self.invariant.1
    (subst (λ z. has_member c.args.delta.member (tree_of z) ≡ true) (sym c.self.view_is) c.requires.member)
    (subst (λ z. IsMemberDelta c.args.delta (tree_of z)) (sym c.self.view_is) c.requires.come)
    c.in_ok-asked.ensures.asks c.in_ok-asked.ensures.found) in
    under-way c.in_ok-asked.asked (tree_of c.self.inside.tree) c.ready.new.self c.in_ok-change.change can
    c.in_ok-change.ensures.ready

pub undo-requires : goal.undo-requires
undo-requires g c =
    let can =
    (can-change c.args.delta c.in_ok-asked.asked (tree_of c.self.inside.tree) c.self.invariant.0 c.self.invariant.1
    (subst (λ z. has_member c.args.delta.member (tree_of z) ≡ true) (sym c.self.view_is) c.requires.member)
    (subst (λ z. IsMemberDelta c.args.delta (tree_of z)) (sym c.self.view_is) c.requires.come)
    c.in_ok-asked.ensures.asks c.in_ok-asked.ensures.found) in
    under-way c.in_ok-asked.asked (tree_of c.self.inside.tree) c.ready.new.self c.in_ok-change.change can
    c.in_ok-change.ensures.ready

pub rules_in_room-requires : goal.rules_in_room-requires
rules_in_room-requires g c =
    let can =
    (can-change c.args.delta c.in_ok-asked.asked (tree_of c.self.inside.tree) c.self.invariant.0 c.self.invariant.1
    (subst (λ z. has_member c.args.delta.member (tree_of z) ≡ true) (sym c.self.view_is) c.requires.member)
    (subst (λ z. IsMemberDelta c.args.delta (tree_of z)) (sym c.self.view_is) c.requires.come)
    c.in_ok-asked.ensures.asks c.in_ok-asked.ensures.found) in
    let count = leaving c.in_ok-asked.asked (tree_of c.self.inside.tree) c.ready.new.self c.in_ok-change.change can
    c.in_ok-change.ensures.ready c.settle-gone.result.items c.settle-gone.ensures.left in
    let room = c.in-Ok.ensures.room in
    let empty = ap (λ (z : List Rule). length z) c.in-Ok.ensures.empty in
    let first = c.in-Ok.told.gone.ok.0 in
    let second = c.settle-gone.result.ok.0 in
    omega arith

pub invariant_of-self-in-Ok : goal.invariant_of-self-in-Ok
invariant_of-self-in-Ok g c =
    let can =
    (can-change c.args.delta c.in_ok-asked.asked (tree_of c.self.inside.tree) c.self.invariant.0 c.self.invariant.1
    (subst (λ z. has_member c.args.delta.member (tree_of z) ≡ true) (sym c.self.view_is) c.requires.member)
    (subst (λ z. IsMemberDelta c.args.delta (tree_of z)) (sym c.self.view_is) c.requires.come)
    c.in_ok-asked.ensures.asks c.in_ok-asked.ensures.found) in
    applied-tree c.in_ok-asked.asked (tree_of c.self.inside.tree) c.ready.new.self c.in_ok-change.change can
    c.in_ok-change.ensures.ready (tree_of c.settle-gone.new.self) c.settle-gone.ensures.settled

pub returns-in-Ok-clause-members : goal.returns-in-Ok-clause-members
returns-in-Ok-clause-members g c sizes before after m o =
    let can =
    (can-change c.args.delta c.in_ok-asked.asked (tree_of c.self.inside.tree) c.self.invariant.0 c.self.invariant.1
    (subst (λ z. has_member c.args.delta.member (tree_of z) ≡ true) (sym c.self.view_is) c.requires.member)
    (subst (λ z. IsMemberDelta c.args.delta (tree_of z)) (sym c.self.view_is) c.requires.come)
    c.in_ok-asked.ensures.asks c.in_ok-asked.ensures.found) in
    applied-members c.in_ok-asked.asked (tree_of c.self.inside.tree) c.ready.new.self c.in_ok-change.change can
    c.in_ok-change.ensures.ready (tree_of c.settle-gone.new.self) c.settle-gone.ensures.settled c.args.delta
    c.in_ok-asked.ensures.asks sizes before after m
    (subst (λ z. IsOf sizes before (tree_of z)) (sym c.self.view_is) o)

pub returns-in-Ok-clause-policy : goal.returns-in-Ok-clause-policy
returns-in-Ok-clause-policy g c =
    let can =
    (can-change c.args.delta c.in_ok-asked.asked (tree_of c.self.inside.tree) c.self.invariant.0 c.self.invariant.1
    (subst (λ z. has_member c.args.delta.member (tree_of z) ≡ true) (sym c.self.view_is) c.requires.member)
    (subst (λ z. IsMemberDelta c.args.delta (tree_of z)) (sym c.self.view_is) c.requires.come)
    c.in_ok-asked.ensures.asks c.in_ok-asked.ensures.found) in
    applied-policy c.in_ok-asked.asked (tree_of c.self.inside.tree) c.ready.new.self c.in_ok-change.change can
    c.in_ok-change.ensures.ready (tree_of c.settle-gone.new.self) c.settle-gone.ensures.settled
    ∙ ap (λ z. policy_in (tree_of z)) c.self.view_is

pub returns-in-Ok-clause-told : goal.returns-in-Ok-clause-told
returns-in-Ok-clause-told g c =
    let can =
    (can-change c.args.delta c.in_ok-asked.asked (tree_of c.self.inside.tree) c.self.invariant.0 c.self.invariant.1
    (subst (λ z. has_member c.args.delta.member (tree_of z) ≡ true) (sym c.self.view_is) c.requires.member)
    (subst (λ z. IsMemberDelta c.args.delta (tree_of z)) (sym c.self.view_is) c.requires.come)
    c.in_ok-asked.ensures.asks c.in_ok-asked.ensures.found) in
    subst (λ z. Changed (rules_at (tree_of z)) (rules_at (tree_of c.settle-gone.new.self)) c.from_vec.result
    c.from_vec-in-Ok.result) c.self.view_is
    (applied-told c.in_ok-asked.asked (tree_of c.self.inside.tree) c.ready.new.self c.in_ok-change.change can
    c.in_ok-change.ensures.ready (tree_of c.settle-gone.new.self) c.settle-gone.ensures.settled
    c.settle-gone.result.items c.settle-gone.ensures.left c.from_vec-in-Ok.result
    (subst (λ (w : List (Held Made)). (b : List (Held Made)) (lost : List ℕ) (fresh : List Made)
    (r : IsReady b w lost fresh c.in_ok-change.change)
    → c.from_vec-in-Ok.result ≡ rules_held r.coming) c.made.ensures
    (λ b lost fresh r. c.from_vec-in-Ok.ensures ∙ c.in-Ok.ensures.come b lost fresh r))
    c.from_vec.result (c.from_vec.ensures ∙ c.rules_in_room.ensures
    ∙ ap (λ z. z ++ map rule_of c.settle-gone.result.items) c.in-Ok.ensures.empty))

pub returns-in-Ok-clause-apart : goal.returns-in-Ok-clause-apart
returns-in-Ok-clause-apart g c =
    let can =
    (can-change c.args.delta c.in_ok-asked.asked (tree_of c.self.inside.tree) c.self.invariant.0 c.self.invariant.1
    (subst (λ z. has_member c.args.delta.member (tree_of z) ≡ true) (sym c.self.view_is) c.requires.member)
    (subst (λ z. IsMemberDelta c.args.delta (tree_of z)) (sym c.self.view_is) c.requires.come)
    c.in_ok-asked.ensures.asks c.in_ok-asked.ensures.found) in
    applied-apart c.in_ok-asked.asked (tree_of c.self.inside.tree) c.ready.new.self c.in_ok-change.change can
    c.in_ok-change.ensures.ready (tree_of c.settle-gone.new.self) c.settle-gone.ensures.settled
    c.settle-gone.result.items c.settle-gone.ensures.left c.from_vec-in-Ok.result
    (subst (λ (w : List (Held Made)). (b : List (Held Made)) (lost : List ℕ) (fresh : List Made)
    (r : IsReady b w lost fresh c.in_ok-change.change)
    → c.from_vec-in-Ok.result ≡ rules_held r.coming) c.made.ensures
    (λ b lost fresh r. c.from_vec-in-Ok.ensures ∙ c.in-Ok.ensures.come b lost fresh r))
    c.from_vec.result (c.from_vec.ensures ∙ c.rules_in_room.ensures
    ∙ ap (λ z. z ++ map rule_of c.settle-gone.result.items) c.in-Ok.ensures.empty)

pub returns-in_err-asked-clause-steps : goal.returns-in_err-asked-clause-steps
returns-in_err-asked-clause-steps g c sizes before after m o = omega arith

pub returns-in_err-change-clause-steps : goal.returns-in_err-change-clause-steps
returns-in_err-change-clause-steps g c sizes before after m o =
    subst (λ z. c.ready.new.steps ≤ c.args.steps.now + steps_of sizes before after (policy_in (tree_of z)))
    c.self.view_is
    (c.ready.ensures.steps c.args.delta sizes before after c.in_ok-asked.ensures.asks m
    (subst (λ z. IsOf sizes before (tree_of z)) (sym c.self.view_is) o))

pub returns-in-Ok-clause-steps : goal.returns-in-Ok-clause-steps
returns-in-Ok-clause-steps g c sizes before after m o =
    subst (λ z. c.ready.new.steps ≤ c.args.steps.now + steps_of sizes before after (policy_in (tree_of z)))
    c.self.view_is
    (c.ready.ensures.steps c.args.delta sizes before after c.in_ok-asked.ensures.asks m
    (subst (λ z. IsOf sizes before (tree_of z)) (sym c.self.view_is) o))

pub returns-in-Err-clause-steps : goal.returns-in-Err-clause-steps
returns-in-Err-clause-steps g c sizes before after m o =
    subst (λ z. c.ready.new.steps ≤ c.args.steps.now + steps_of sizes before after (policy_in (tree_of z)))
    c.self.view_is
    (c.ready.ensures.steps c.args.delta sizes before after c.in_ok-asked.ensures.asks m
    (subst (λ z. IsOf sizes before (tree_of z)) (sym c.self.view_is) o))
