-- The state of the machine: one record of plain data. Members and switches stand in it by their numbers in the policy.
use Rattle.std.specs.Prelude.{ℕ, List, [], Result, Ok, Err, map}
use Rattle.install_plan.specs.declared.written.Written.{Written}
use Rattle.member_state.specs.States.{MemberStateOf, opening as opening_state}
use Rattle.outbox.specs.Outboxes.{OutboxOf, unopened}
use Rattle.policy_expr.specs.Policy.{Policy}
use Rattle.policies.specs.Exprs.{exprs_of}
use Rattle.policies.specs.Policies.{PolicyOf}
use Rattle.policies.specs.declared.fault.PolicyFault.{PolicyFault}
use Rattle.policies.specs.declared.policy.MemberItem.{MemberItem}
use Rattle.stats_map.specs.Counting.{CountsOf, nothing}
use Rattle.switch_state.specs.Known.{KnownOf, nothing_known}
use Rattle.virtual_topology.specs.declared.plan.SwitchItem.{SwitchItem}
use Rattle.machine_meaning.specs.declared.state.Config.{Config}
use Rattle.machine_meaning.specs.declared.state.Owed.{Owed}
use Rattle.waitings.specs.declared.state.Waiting.{Waiting}

-- a member: its session, what SET_CONFIG gave, and its table with the levels of its ranks
pub record MemberOf : Type 0 where
  pub outbox : OutboxOf
  pub config : Config
  pub kept : MemberStateOf

-- a switch: its session, and what is known of it in this round
pub record SwitchOf : Type 0 where
  pub outbox : OutboxOf
  pub known : KnownOf

-- the greatest second told; the expressions of the virtual switches; members and switches; the entries that stand on
-- each switch, by rising key; what is counted: the cookies that stand or were deleted and not yet reported, and the
-- totals that all others left to entries that still matter; polls and members' barriers, as they began; removed entries
-- whose FLOW_REMOVED is owed; the cookie of the next entry that is written; the lines of the audit that wait
pub record State : Type 0 where
  pub moment : ℕ
  pub exprs : List Policy
  pub members : List MemberOf
  pub switches : List SwitchOf
  pub standing : List (List Written)
  pub counts : CountsOf
  pub waiting : List Waiting
  pub owed : List Owed
  pub next_cookie : ℕ
  pub audit : List (List ℕ)

-- the configuration that a round begins with
abbrev pub first_config : Config
first_config = record { flags = 0; miss_send_len = 128 }

-- a member that never came up
abbrev pub new_member : MemberItem → MemberOf
new_member m = record { outbox = unopened; config = first_config; kept = opening_state m.bits m.entries }

-- a switch that never came up
abbrev pub new_switch : SwitchItem → SwitchOf
new_switch s = record { outbox = unopened; known = nothing_known 0 }

-- nothing stands on a switch that never came up
abbrev pub nothing_stands : SwitchItem → List Written
nothing_stands s = []

-- the expressions that were read, if they were
abbrev pub exprs_read : Result (List Policy) PolicyFault → List Policy
exprs_read (Ok exprs) = exprs
exprs_read (Err fault) = []

-- nothing is up, tables are empty, the moment is 0, and each virtual switch has the expression of the policy
abbrev pub opening : PolicyOf → State
opening p = record {
  moment = 0;
  exprs = exprs_read (exprs_of p.virtuals p.members);
  members = map new_member p.members;
  switches = map new_switch p.switches;
  standing = map nothing_stands p.switches;
  counts = nothing;
  waiting = [];
  owed = [];
  next_cookie = 1;
  audit = [];
}
