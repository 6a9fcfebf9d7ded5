use Rattle.std.proofs.Common.{◌≡◌, ◌≤◌, length, map}
use Rattle.machine_drafts.specs.Moving.{EachPart, IsSwitchPart, after_parts, standing_moved, switch_moved}
use Rattle.machine_drafts.specs.Views.{standing_of, switch_of}
use Rattle.event_ends.proofs.moving.move_switches.Given as goal

-- the parts that are left, moved in, give what all give
abbrev pub invariant-loop-part : goal.invariant-loop-part
invariant-loop-part l = record {
  sessions :
      after_parts switch_moved (map switch_of l.switches) l.parts.items
      ≡ after_parts switch_moved (map switch_of l.initial.switches) l.initial.parts.items;
  standing :
      after_parts standing_moved (map standing_of l.switches) l.parts.items
      ≡ after_parts standing_moved (map standing_of l.initial.switches) l.initial.parts.items;
  all : length l.parts.items ≤ length l.switches;
  each : EachPart IsSwitchPart l.switches l.parts.items;
}

abbrev pub decreases-loop-part : goal.decreases-loop-part
decreases-loop-part l = length l.parts.items
