use Rattle.std.proofs.Common.{◌∙◌, ap, not}
use Rattle.std.specs.Prelude.{filter}
use Rattle.std.proofs.lemmas.List.{take_all}
use Rattle.waitings.specs.InsideSpans.{all_spelled}
use Rattle.waitings.specs.Waitings.{is_part}
use Rattle.waitings.specs.declared.state.Part.{Part}
use Rattle.waitings.proofs.Spans.{without_more}
use Rattle.waitings.proofs.parts.Parts.without.Goals as goal

pub loop-span-preserved : goal.loop-span-preserved
loop-span-preserved c = record {
  left = without_more (λ (part : Part). not (is_part c.args.switch c.args.number part)) c.as_slice-span-items.result.now
      c.loop-span.span-index _ c.loop-span.spans.items c.push_without.new.spans.items c.loop-span-test.true
      c.loop-span.invariant.left c.in_ok-push_without.ensures.left;
  spans = c.in_ok-push_without.ensures.spans c.loop-span.invariant.spans;
  given = c.loop-span.invariant.given;
}

pub invariant_of-result : goal.invariant_of-result
invariant_of-result c = c.loop-span.invariant.spans

pub returns : goal.returns
returns c =
    let stays : Part → _ = λ part. not (is_part c.args.switch c.args.number part) in
    c.loop-span.invariant.left
    ∙ ap (filter stays) (ap all_spelled (take_all c.loop-span.span-index c.as_slice-span-items.result.now
    c.loop-span-test.false ∙ c.as_slice-span-items.ensures) ∙ c.self.view_is)
