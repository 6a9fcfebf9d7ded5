use Rattle.std.proofs.Common.{◌≡◌, not, take}
use Rattle.std.specs.Prelude.{filter}
use Rattle.std.specs.List.{AllByRecursion}
use Rattle.waitings.specs.InsideSpans.{IsSpan, all_spelled}
use Rattle.waitings.specs.Waitings.{is_part}
use Rattle.waitings.specs.declared.state.Part.{Part}
use Rattle.waitings.proofs.parts.Parts.without.Given as goal

-- what is left of the spans so far
abbrev pub invariant-loop-span : goal.invariant-loop-span
invariant-loop-span l = record {
  left : all_spelled l.spans.items
      ≡ filter (λ (part : Part). not (is_part l.switch l.number part)) (all_spelled (take l.span-index l.span-items));
  spans : AllByRecursion IsSpan l.spans.items;
  given : AllByRecursion IsSpan l.span-items;
}
