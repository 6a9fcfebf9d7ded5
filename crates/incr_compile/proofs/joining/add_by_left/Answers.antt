use Rattle.std.proofs.Common.{ℕ, [], ◌∷◌, ◌++◌, ap, subst, ◌∙◌}
use Rattle.std.specs.Prelude.{option_map, option_to_list}
use Rattle.std.proofs.lemmas.Result.{on_ok_weaker}
use Rattle.op_compose.specs.Composition.{Joins}
use Rattle.policy_meaning.specs.declared.rule.Rule.{Rule}
use Rattle.rule_ancestry.specs.Holding.{Held}
use Rattle.incr_compile.specs.Ways.{left_origin, lone, made_with}
use Rattle.incr_compile.proofs.Joins.{alone-added, not-so}
use Rattle.incr_compile.proofs.joining.add_by_left.Goals as goal

pub returns-clause-made : goal.returns-clause-made
returns-clause-made g c =
    let item = ap (λ (h : Held Rule). h.item) c.a.view_is in
    let id = ap (λ (h : Held Rule). h.id) c.a.view_is in
    on_ok_weaker c.keep_alone.result
    (λ e. alone-added c.args.op c.args.size c.args.a.now c.args.rights.now c.args.fresh.now.items
    c.keep_alone.new.fresh.items c.in_ok-rule.rule
    (subst (λ (r : Rule). Joins c.args.op r.tail
    → ⊥) item (not-so c.joins.result (Joins c.args.op c.a.inside.rule.now.tail) c.if-joins.false c.joins.ensures))
    (c.in_ok-rule.ensures.rule ∙ ap (λ (r : Rule). lone c.args.op c.args.size r) item)
    (e ∙ ap (λ (i : ℕ). c.args.fresh.now.items ++ option_to_list
    (option_map (made_with (left_origin i ∷ [])) c.in_ok-rule.rule)) id))
    c.keep_alone.ensures
