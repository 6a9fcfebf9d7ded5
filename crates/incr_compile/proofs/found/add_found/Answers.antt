use Rattle.std.proofs.Common.{◌<◌, ◌^◌, arith, ◌∙◌}
use Rattle.std.proofs.lemmas.List.Sorted.{IsPermutation-append_right, IsPermutation-trans}
use Rattle.std.proofs.lemmas.Result.{on_ok_weaker}
use Rattle.list_change.proofs.Permute.{by-equation}
use Rattle.op_compose.specs.Composition.{joined_level}
use Rattle.policy_meaning.specs.declared.rule.Rule.{Rule}
use Rattle.rule_ancestry.specs.Holding.{Held}
use Rattle.made_rules.specs.Rules.{rules_in}
use Rattle.incr_compile.specs.Candidates.{could_meet}
use Rattle.incr_compile.proofs.Enough.{enough-rights, found-all, found-count}
use Rattle.incr_compile.proofs.Finding.{read-rules}
use Rattle.incr_compile.proofs.found.add_found.Goals as goal

pub add_by_left-requires-clause-level : goal.add_by_left-requires-clause-level
add_by_left-requires-clause-level g c =
    found-all (λ (b : Held Rule). joined_level c.args.op c.args.a.now.item.level b.item.level c.args.size < 2 ^ 64) _
    (rules_in c.args.right.now) c.deref.result.now
    (read-rules (λ (b : Held Rule). could_meet c.args.op c.args.a.now.item b.item) c.args.right.now c.args.ids.now
    c.deref.result.now c.requires.found (λ hs rest e s. c.deref.ensures.value ∙ c.in_ok-rights.ensures hs rest e s))
    c.requires.level

pub returns-clause-made : goal.returns-clause-made
returns-clause-made g c =
    on_ok_weaker c.add_by_left.result
    (λ e. IsPermutation-trans _ _ _ (by-equation _ _ e)
    (IsPermutation-append_right c.args.fresh.now.items _ _
    (enough-rights c.args.op c.args.size c.args.a.now (rules_in c.args.right.now) c.deref.result.now c.requires.sound
    c.requires.sound_rights
    (read-rules (λ (b : Held Rule). could_meet c.args.op c.args.a.now.item b.item) c.args.right.now c.args.ids.now
    c.deref.result.now c.requires.found (λ hs rest e s. c.deref.ensures.value
    ∙ c.in_ok-rights.ensures hs rest e s)))))
    c.add_by_left.ensures.made

pub returns-clause-steps : goal.returns-clause-steps
returns-clause-steps g c =
    let s = c.add_by_left.ensures.steps in
    let n = found-count _ (rules_in c.args.right.now) c.deref.result.now
    (read-rules (λ (b : Held Rule). could_meet c.args.op c.args.a.now.item b.item) c.args.right.now c.args.ids.now
    c.deref.result.now c.requires.found (λ hs rest e s. c.deref.ensures.value ∙ c.in_ok-rights.ensures hs rest e s))
    in
    omega arith
