use Rattle.std.proofs.Common.{◌∙◌, ◌-◌, ◌++◌, ap, append_assoc, suc}
use Rattle.waitings.specs.InsideSpans.{all_spelled, row}
use Rattle.waitings.proofs.Spans.{on_ok, one_more, span_left, span_stays}
use Rattle.waitings.proofs.parts.push_without.Goals as goal

pub returns-then-not-has-clause-left : goal.returns-then-not-has-clause-left
returns-then-not-has-clause-left c =
    ap all_spelled c.in_ok-push.ensures.ok
    ∙ (one_more c.args.spans.now.items c.args.span.now
    ∙ ap (λ ps. all_spelled c.args.spans.now.items ++ ps)
    (span_stays c.args.switch c.args.number c.args.span.now c.requires c.if-not-has.ensures))

pub returns-clause-left : goal.returns-clause-left
returns-clause-left c =
    let s = c.args.span.now in
    let all = all_spelled c.args.spans.now.items in
    let front = row s.switch s.first (c.args.number - s.first) in
    let back = row s.switch (suc c.args.number) (s.last - c.args.number) in
    on_ok c.push_back.result c.push_back.ensures.back
    (λ e. e ∙ (ap (λ ps. ps ++ back) c.in_ok-push_front.ensures.front
    ∙ (append_assoc all front back
    ∙ ap (λ ps. all ++ ps) (span_left c.args.switch c.args.number s c.requires c.if-not-has.ensures))))
