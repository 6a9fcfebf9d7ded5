use Rattle.std.proofs.Common.{◌∙◌, ◌++◌, ap}
use Rattle.waitings.specs.InsideSpans.{all_spelled}
use Rattle.waitings.proofs.Spans.{back_spelled, one_more}
use Rattle.waitings.proofs.parts.push_back.Goals as goal

pub returns-clause-back : goal.returns-clause-back
returns-clause-back c =
    ap all_spelled c.in_ok-push.ensures.ok
    ∙ (one_more c.args.spans.now.items _
    ∙ ap (λ ps. all_spelled c.args.spans.now.items ++ ps)
    (back_spelled c.args.span.now c.args.number c.if-span-number.false))
