use Rattle.std.proofs.Common.{◌<◌, ◌^◌, ap, arith}
use Rattle.std.proofs.lemmas.List.Sorted.{IsPermutation-append_right, IsPermutation-trans}
use Rattle.std.proofs.lemmas.Result.{on_ok_weaker}
use Rattle.list_change.proofs.Permute.{by-equation}
use Rattle.op_compose.specs.Composition.{joined_level}
use Rattle.policy_meaning.specs.declared.rule.Rule.{Rule}
use Rattle.rule_ancestry.specs.Holding.{Held}
use Rattle.made_rules.specs.Rules.{rules_in}
use Rattle.incr_compile.specs.Candidates.{reach}
use Rattle.incr_compile.proofs.Enough.{enough-lefts, found-all, found-count, asked-found}
use Rattle.incr_compile.proofs.making.add_right.Goals as goal

pub add_by_right-requires-clause-level : goal.add_by_right-requires-clause-level
add_by_right-requires-clause-level g c =
    found-all (λ (a : Held Rule). joined_level c.args.op a.item.level c.args.b.now.item.level c.args.size < 2 ^ 64) _
    (rules_in c.args.left.now) c.deref.result.now
    (asked-found c.args.op c.asked.result c.b.inside.rule.now c.args.b.now (rules_in c.args.left.now)
    c.in_ok-lefts.lefts.items c.deref.result.now c.asked.ensures (ap (λ (h : Held Rule). h.item) c.b.view_is)
    (c.in_ok-lefts.ensures (reach c.args.op) c.requires.shown) c.deref.ensures.value)
    c.requires.level

pub returns-clause-made : goal.returns-clause-made
returns-clause-made g c =
    on_ok_weaker c.add_by_right.result
    (λ e. IsPermutation-trans _ _ _ (by-equation _ _ e)
    (IsPermutation-append_right c.args.fresh.now.items _ _
    (enough-lefts c.args.op c.args.size c.args.b.now (rules_in c.args.left.now) c.deref.result.now c.requires.sound
    c.requires.sound_lefts
    (asked-found c.args.op c.asked.result c.b.inside.rule.now c.args.b.now (rules_in c.args.left.now)
    c.in_ok-lefts.lefts.items c.deref.result.now c.asked.ensures (ap (λ (h : Held Rule). h.item) c.b.view_is)
    (c.in_ok-lefts.ensures (reach c.args.op) c.requires.shown) c.deref.ensures.value))))
    c.add_by_right.ensures.made

pub returns-clause-steps : goal.returns-clause-steps
returns-clause-steps g c =
    let s = c.add_by_right.ensures.steps in
    let n = found-count _ (rules_in c.args.left.now) c.deref.result.now
    (asked-found c.args.op c.asked.result c.b.inside.rule.now c.args.b.now (rules_in c.args.left.now)
    c.in_ok-lefts.lefts.items c.deref.result.now c.asked.ensures (ap (λ (h : Held Rule). h.item) c.b.view_is)
    (c.in_ok-lefts.ensures (reach c.args.op) c.requires.shown) c.deref.ensures.value) in
    omega arith
