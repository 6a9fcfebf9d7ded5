use Rattle.std.proofs.Common.{sym, ◌∙◌}
use Rattle.stats_map.specs.Counting.{of_switch}
use Rattle.stats_map.proofs.Switches.{first-is, later-is, none-is, other-is, same-is}
use Rattle.stats_map.proofs.cookies.first_of.Goals as goal

pub returns-in_default : goal.returns-in_default
returns-in_default c = none-is c.args.switch c.args.live.now.entries c.range.result (c.range.ensures.between tt)
    c.in_default.ensures.steps.0

pub returns-then-place-switch : goal.returns-then-place-switch
returns-then-place-switch c = (
  c.in-Some.field-0-1.now,
  of_switch c.args.switch c.next.new.self,
  first-is c.args.switch c.args.live.now.entries c.range.result c.next.new.self c.in-Some.place.now
      c.in-Some.field-0-1.now (c.range.ensures.between tt) c.in-Some.ensures.steps
      (same-is c.in-Some.place.now.0 c.args.switch c.if-place-switch.true),
)

pub returns-else-place-switch : goal.returns-else-place-switch
returns-else-place-switch c =
    later-is c.args.switch c.args.live.now.entries c.next.new.self c.in-Some.place.now c.in-Some.field-0-1.now
    c.range.ensures.ordered (sym (c.range.ensures.between tt) ∙ c.in-Some.ensures.steps)
    (other-is c.in-Some.place.now.0 c.args.switch c.if-place-switch.false)
