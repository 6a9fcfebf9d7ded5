-- An accepted FLOW_MOD of a member.
use Rattle.std.specs.Prelude.{ℕ, ◌++◌}
use Rattle.member_state.specs.Changes.{accepted, removed_by}
use Rattle.of10_msgs.specs.declared.message.FlowMod.{FlowMod}
use Rattle.machine_meaning.specs.Drafts.{Draft}
use Rattle.machine_meaning.specs.Lists.{changed_at}
use Rattle.machine_meaning.specs.Removing.{owing, with_kept}
use Rattle.machine_meaning.specs.States.{MemberOf, State}

-- the member's table and levels are those after the message; removed entries are owed, with the reason DELETE
abbrev pub with_flow_mod : ℕ → MemberOf → FlowMod → State → State
with_flow_mod n x m s = record s {
  members = changed_at n (with_kept (accepted m s.moment)) s.members;
  owed = s.owed ++ owing n 2 s.moment (removed_by m x.kept);
}

abbrev pub flow_mod : ℕ → MemberOf → FlowMod → Draft → Draft
flow_mod n x m d = record d { state = with_flow_mod n x m d.state }
