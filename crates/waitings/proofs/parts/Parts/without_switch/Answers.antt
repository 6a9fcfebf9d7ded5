use Rattle.std.proofs.Common.{◌≡◌, ◌∙◌, ap, not, rules, subst, sym}
use Rattle.std.proofs.Common.{Bool}
use Rattle.std.specs.Prelude.{◌==◌, filter}
use Rattle.std.specs.List.{AllByRecursion}
use Rattle.waitings.specs.InsideSpans.{IsSpan, all_spelled}
use Rattle.waitings.specs.declared.parts.Span.{Span}
use Rattle.waitings.specs.declared.state.Part.{Part}
use Rattle.waitings.proofs.Spans.{dropped_of, kept_of, retained}
use Rattle.waitings.proofs.parts.Parts.without_switch.Goals as goal

pub invariant_of-result : goal.invariant_of-result
invariant_of-result c =
    let stays : Span → Bool = λ s. not (s.switch == c.args.switch) in
    let kept : c.retain.new.self.items ≡ filter stays c.self.inside.spans.items =
    retained _ stays _ (λ x b f' y called. search rules) _ _ c.retain.ensures.filtered in
    subst (AllByRecursion IsSpan) (sym kept) (kept_of stays c.self.inside.spans.items c.self.invariant)

pub returns : goal.returns
returns c =
    let stays : Span → Bool = λ s. not (s.switch == c.args.switch) in
    let kept : c.retain.new.self.items ≡ filter stays c.self.inside.spans.items =
    retained _ stays _ (λ x b f' y called. search rules) _ _ c.retain.ensures.filtered in
    ap all_spelled kept
    ∙ (dropped_of c.args.switch c.self.inside.spans.items
    ∙ ap (filter (λ (part : Part). not (part.switch == c.args.switch))) c.self.view_is)
