use Rattle.std.proofs.Common.{◌≡◌, ◌≤◌, length, map}
use Rattle.machine_drafts.specs.Moving.{EachPart, IsMemberPart, after_parts, member_moved}
use Rattle.machine_drafts.specs.Views.{member_of}
use Rattle.event_ends.proofs.moving.move_members.Given as goal

-- the parts that are left, moved in, give what all give
abbrev pub invariant-loop-part : goal.invariant-loop-part
invariant-loop-part l = record {
  moved :
      after_parts member_moved (map member_of l.members) l.parts.items
      ≡ after_parts member_moved (map member_of l.initial.members) l.initial.parts.items;
  all : length l.parts.items ≤ length l.members;
  each : EachPart IsMemberPart l.members l.parts.items;
}

abbrev pub decreases-loop-part : goal.decreases-loop-part
decreases-loop-part l = length l.parts.items
