use Rattle.std.proofs.Common.{◌≡◌, map, take}
use Rattle.machine_meaning.specs.States.{new_member}
use Rattle.machine_drafts.specs.Views.{member_of}
use Rattle.hyper_core.proofs.starting.new_members.Given as goal

abbrev pub invariant-loop-item : goal.invariant-loop-item
invariant-loop-item l = map member_of l.members ≡ map new_member (take l.item-index l.items)
