-- What an event leaves is moved in: the parts of members and switches, and all else.
use Rattle.std.specs.Prelude.{◌≡◌, ◌+◌, ◌<◌, ◌^◌, ◌++◌, length, map, unwrap_or}
use Rattle.stats_map.specs.Told.{told}
use Rattle.machine_drafts.specs.ExprsDrafts.{replaced_in}
use Rattle.machine_drafts.specs.Moving.{EachPart, IsMemberPart, IsSwitchPart, after_parts, member_moved}
use Rattle.machine_drafts.specs.Moving.{standing_moved, switch_moved}
use Rattle.machine_drafts.specs.Outcomes.{Bases}
use Rattle.machine_meaning.specs.States.{State}
use Rattle.machine_drafts.specs.Views.{member_of, standing_of, switch_of}
use Rattle.event_ends.specs.declared.moving.Parts.{Parts}

-- the parts can be moved into what stands
pub record AreParts (b : Bases) (parts : Parts) : Type 0 where
  pub all_members : length b.members ≡ length parts.members
  pub all_switches : length b.switches ≡ length parts.switches
  pub members : EachPart IsMemberPart b.members parts.members
  pub switches : EachPart IsSwitchPart b.switches parts.switches
  pub audit : length b.audit + length parts.lines < 2 ^ 63

-- the state after the parts of an event; what is counted is changed before
abbrev pub moved_in : Bases → Parts → State
moved_in b parts = record {
  moment = parts.moment;
  exprs = replaced_in parts.exprs b.exprs;
  members = after_parts member_moved (map member_of b.members) parts.members;
  switches = after_parts switch_moved (map switch_of b.switches) parts.switches;
  standing = after_parts standing_moved (map standing_of b.switches) parts.switches;
  counts = told b.counts;
  waiting = unwrap_or parts.waiting b.waiting;
  owed = unwrap_or parts.owed b.owed;
  next_cookie = parts.next_cookie;
  audit = b.audit ++ parts.lines;
}
