-- What a machine holds, as contracts see it.
use Rattle.std.specs.Prelude.{◌≡◌, ℕ, ◌≤◌, Bool, List, length, map}
use Rattle.install_plan.specs.declared.written.Written.{Written}
use Rattle.policy_expr.specs.Policy.{Policy, policy_of}
use Rattle.policies.specs.Policies.{PolicyOf}
use Rattle.policies.specs.declared.policy.MemberItem.{MemberItem}
use Rattle.stats_map.specs.Told.{HeldOf, told}
use Rattle.waitings.specs.declared.state.Waiting.{Waiting}
use Rattle.machine_drafts.specs.Outcomes.{Bases}
use Rattle.machine_meaning.specs.States.{MemberOf, State, SwitchOf}
use Rattle.machine_drafts.specs.Views.{member_of, standing_of, switch_of}
use Rattle.machine_drafts.specs.declared.held.Held.{Held}
use Rattle.machine_meaning.specs.declared.state.Owed.{Owed}

-- what a machine holds: its state, of which what is counted stands as it is kept
pub record HoldingOf : Type 0 where
  pub moment : ℕ
  pub exprs : List Policy
  pub members : List MemberOf
  pub switches : List SwitchOf
  pub standing : List (List Written)
  pub counts : HeldOf
  pub waiting : List Waiting
  pub owed : List Owed
  pub next_cookie : ℕ
  pub audit : List (List ℕ)

-- the state that it tells
abbrev pub state_held : HoldingOf → State
state_held h = record {
  moment = h.moment;
  exprs = h.exprs;
  members = h.members;
  switches = h.switches;
  standing = h.standing;
  counts = told h.counts;
  waiting = h.waiting;
  owed = h.owed;
  next_cookie = h.next_cookie;
  audit = h.audit;
}

-- what is held, without where it lies in memory
abbrev pub holding_of : Held → HoldingOf
holding_of h = record {
  moment = h.moment;
  exprs = map policy_of h.exprs;
  members = map member_of h.members;
  switches = map switch_of h.switches;
  standing = map standing_of h.switches;
  counts = h.counts;
  waiting = h.waiting;
  owed = h.owed;
  next_cookie = h.next_cookie;
  audit = h.audit;
}

-- its state
abbrev pub state_in_held : Held → State
state_in_held h = state_held (holding_of h)

-- what stands beside the draft of an event at a moment
abbrev pub bases_of : ℕ → Held → Bases
bases_of now h = record {
  moment = now;
  moments = map (λ (x : MemberOf). now) (map member_of h.members);
  exprs = map policy_of h.exprs;
  members = h.members;
  switches = h.switches;
  counts = h.counts;
  waiting = h.waiting;
  owed = h.owed;
  audit = h.audit;
}

-- the state at another moment
abbrev pub at_moment : ℕ → State → State
at_moment now s = record s { moment = now }

-- a machine: its policy, what it holds, and whether the composed part of that is kept
pub record MachineOf : Type 0 where
  pub plan : PolicyOf
  pub holding : HoldingOf
  pub compiled : Bool

-- the state of a machine
abbrev pub state_of : MachineOf → State
state_of m = state_held m.holding

-- there is a member for each of the policy's, and a switch
pub record HasAll (p : PolicyOf) (h : Held) : Type 0 where
  pub members : length h.members ≡ length p.members
  pub switches : length h.switches ≡ length p.switches

-- the member's levels are 2 to the power of 2 to 15
pub record HasBits (m : MemberItem) : Type 0 where
  pub least : 2 ≤ m.bits
  pub most : m.bits ≤ 15
