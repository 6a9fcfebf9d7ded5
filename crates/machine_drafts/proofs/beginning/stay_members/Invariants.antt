use Rattle.std.proofs.Common.{◌≡◌, map, take}
use Rattle.machine_drafts.specs.MemberDrafts.{standing_member}
use Rattle.machine_drafts.proofs.beginning.stay_members.Given as goal

abbrev pub invariant-loop-member : goal.invariant-loop-member
invariant-loop-member l = l.drafts ≡ map (standing_member l.now) (take l.member-index l.members)
