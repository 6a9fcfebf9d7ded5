use Rattle.std.proofs.Common.{◌∙◌, ap, map, subst, sym}
use Rattle.std.specs.List.{AllByRecursion}
use Rattle.waitings.specs.InsideSpans.{IsSpan, all_spelled, span_with_xid}
use Rattle.waitings.specs.Waitings.{part_with_xid}
use Rattle.waitings.proofs.Spans.{all_numbered, are_numbered, numbered_filled}
use Rattle.waitings.proofs.parts.Parts.give_xid.Goals as goal

pub invariant_of-self : goal.invariant_of-self
invariant_of-self c =
    let new = c.give_all_xid.ensures ∙ ap (map (span_with_xid c.args.switch c.args.xid)) c.as_mut_slice.ensures.value in
    subst (AllByRecursion IsSpan)
    (sym (numbered_filled c.args.switch c.args.xid c.self.inside.spans.items c.give_all_xid.new.spans new))
    (are_numbered c.args.switch c.args.xid c.self.inside.spans.items c.self.invariant)

pub returns : goal.returns
returns c =
    let new = c.give_all_xid.ensures ∙ ap (map (span_with_xid c.args.switch c.args.xid)) c.as_mut_slice.ensures.value in
    ap all_spelled (numbered_filled c.args.switch c.args.xid c.self.inside.spans.items c.give_all_xid.new.spans new)
    ∙ (all_numbered c.args.switch c.args.xid c.self.inside.spans.items c.self.invariant
    ∙ ap (map (part_with_xid c.args.switch c.args.xid)) c.self.view_is)
