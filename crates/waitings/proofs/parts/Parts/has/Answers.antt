use Rattle.std.proofs.Common.{◌∙◌, ap}
use Rattle.std.specs.List.{list_any}
use Rattle.waitings.specs.InsideSpans.{has_in}
use Rattle.waitings.specs.Waitings.{is_part}
use Rattle.waitings.proofs.Spans.{has_all}
use Rattle.waitings.proofs.parts.Parts.has.Goals as goal

pub returns : goal.returns
returns c =
    c.any_has.ensures ∙ (ap (list_any (has_in c.args.switch c.args.number)) c.as_slice.ensures
    ∙ (has_all c.args.switch c.args.number c.self.inside.spans.items c.self.invariant
    ∙ ap (list_any (is_part c.args.switch c.args.number)) c.self.view_is))
