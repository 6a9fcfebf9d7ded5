use Rattle.std.proofs.Common.{◌∙◌, ◌++◌, ap}
use Rattle.waitings.specs.InsideSpans.{all_spelled}
use Rattle.waitings.proofs.Spans.{front_spelled, one_more}
use Rattle.waitings.proofs.parts.push_front.Goals as goal

pub returns-clause-front : goal.returns-clause-front
returns-clause-front c =
    ap all_spelled c.in_ok-push.ensures.ok
    ∙ (one_more c.args.spans.now.items _
    ∙ ap (λ ps. all_spelled c.args.spans.now.items ++ ps)
    (front_spelled c.args.span.now c.args.number c.if-number-span.false))
