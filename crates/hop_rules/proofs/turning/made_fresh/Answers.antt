use Rattle.std.proofs.Common.{◌≡◌, ◌++◌, List, ap, arith, subst, sym, true}
use Rattle.std.specs.Prelude.{IsPermutation}
use Rattle.std.specs.List.{AllByRecursion}
use Rattle.std.proofs.lemmas.List.Sorted.{IsPermutation-append_left, IsPermutation-trans}
use Rattle.made_rules.specs.declared.made.Made.{Made}
use Rattle.hop_rules.specs.Nodes.{arrivals, leads_there, made_left, made_right}
use Rattle.hop_rules.specs.Turns.{came_there, right_cost}
use Rattle.hop_rules.specs.Under.{under}
use Rattle.hop_rules.specs.declared.exits.Exit.{Exit}
use Rattle.hop_rules.proofs.Came.{all-lead}
use Rattle.hop_rules.proofs.turning.made_fresh.Goals as goal

pub add_by_exits-requires-clause-exits : goal.add_by_exits-requires-clause-exits
add_by_exits-requires-clause-exits g c =
    let es = c.args.around.given.now.exits in
    subst (λ xs. AllByRecursion (λ (e : Exit). leads_there e.place es ≡ true) xs) (sym c.exits.ensures) (all-lead es)

pub returns-clause-made : goal.returns-clause-made
returns-clause-made g c kept l f =
    let a = c.args.around in
    let es = a.given.now.exits in
    let left = made_left a.at a.size es (arrivals a.below.now es) (under a.given.now.rules c.args.come.now) in
    let right = λ (xs : List Exit). made_right a.at a.size es kept (came_there a.below.now c.args.turns.now xs) in
    let first = subst (λ (z : List Made). IsPermutation c.add_all_by_left.new.fresh.items (z ++ left))
    c.new-fresh.ensures.items c.in_ok-add_all_by_left.ensures.pushed in
    let both = IsPermutation-trans _ _ _ (c.in_ok-add_by_exits.ensures.pushed kept l f)
    (IsPermutation-append_left (right c.exits.result.now) _ _ first) in
    subst (λ xs. IsPermutation c.add_by_exits.new.fresh.items (left ++ right xs)) c.exits.ensures both

pub returns-clause-steps : goal.returns-clause-steps
returns-clause-steps g c kept l f =
    let a = c.args.around in
    let es = a.given.now.exits in
    let s = c.add_all_by_left.ensures.steps in
    let t = c.add_by_exits.ensures.steps kept l f in
    let e = ap (λ (xs : List Exit). right_cost a.at es kept (came_there a.below.now c.args.turns.now xs))
    c.exits.ensures in
    omega arith

pub returns-in_err-add_by_exits-clause-steps : goal.returns-in_err-add_by_exits-clause-steps
returns-in_err-add_by_exits-clause-steps g c kept l f =
    let a = c.args.around in
    let es = a.given.now.exits in
    let s = c.add_all_by_left.ensures.steps in
    let t = c.add_by_exits.ensures.steps kept l f in
    let e = ap (λ (xs : List Exit). right_cost a.at es kept (came_there a.below.now c.args.turns.now xs))
    c.exits.ensures in
    omega arith

pub returns-in_err-add_all_by_left-clause-steps : goal.returns-in_err-add_all_by_left-clause-steps
returns-in_err-add_all_by_left-clause-steps g c kept l f = let s = c.add_all_by_left.ensures.steps in omega arith
