use Rattle.std.proofs.Common.{◌∙◌, ap}
use Rattle.std.specs.Prelude.{◌==◌}
use Rattle.std.specs.List.{list_any}
use Rattle.waitings.specs.declared.parts.Span.{Span}
use Rattle.waitings.proofs.Spans.{any_of, of_it}
use Rattle.waitings.proofs.parts.Parts.has_of.Goals as goal

pub returns : goal.returns
returns c =
    c.any_of.ensures ∙ (ap (list_any (λ (s : Span). s.switch == c.args.switch)) c.as_slice.ensures
    ∙ (any_of c.args.switch c.self.inside.spans.items ∙ ap (list_any (of_it c.args.switch)) c.self.view_is))
