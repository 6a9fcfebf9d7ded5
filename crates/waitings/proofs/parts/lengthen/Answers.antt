use Rattle.std.proofs.Common.{◌≡◌, ◌∙◌, ◌-◌, ap, length, subst, sym}
use Rattle.std.specs.List.{AllByRecursion}
use Rattle.waitings.specs.InsideSpans.{IsSpan, all_spelled}
use Rattle.waitings.specs.declared.parts.Span.{Span}
use Rattle.waitings.proofs.Spans.{are_longer, is_longer, last_at, last_is, last_longer, longer_spelled, set_filled}
use Rattle.waitings.proofs.parts.lengthen.Goals as goal

pub returns-clause-taken : goal.returns-clause-taken
returns-clause-taken c t are =
    let spans = c.args.spans.now.items in
    let seen = c.as_mut_slice.result.now in
    let part = c.args.part.now in
    let s = c.in-Some.span.now in
    let n = length seen - 1 in
    let item = c.in-Some.ensures.item in
    let at = last_at seen spans s c.as_mut_slice.ensures.value item.3.0 item.1 in
    let is = last_is spans n s are at.0 at.1 in
    let next = sym c.if-not-is_before.ensures in
    let longer : Span = record { switch = s.switch; first = s.first; last = part.number } in
    ap all_spelled (set_filled seen spans n longer c.as_mut_slice.ensures.value)
    ∙ last_longer part s longer (is_longer s part is next) (longer_spelled s part is next) spans n at.0 at.1

pub returns-clause-spans : goal.returns-clause-spans
returns-clause-spans c are =
    let spans = c.args.spans.now.items in
    let seen = c.as_mut_slice.result.now in
    let part = c.args.part.now in
    let s = c.in-Some.span.now in
    let n = length seen - 1 in
    let item = c.in-Some.ensures.item in
    let at = last_at seen spans s c.as_mut_slice.ensures.value item.3.0 item.1 in
    let is = last_is spans n s are at.0 at.1 in
    let next = sym c.if-not-is_before.ensures in
    let longer : Span = record { switch = s.switch; first = s.first; last = part.number } in
    subst (AllByRecursion IsSpan) (sym (set_filled seen spans n longer c.as_mut_slice.ensures.value))
    (are_longer part s longer (is_longer s part is next) (longer_spelled s part is next) spans n are)
