-- A draft of the program is a draft of the definitions, beside what stands.
use Rattle.std.specs.Prelude.{◌≡◌, ℕ, ◌<◌, ◌^◌, List, length, map}
use Rattle.std.specs.List.{AllByRecursion}
use Rattle.install_plan.specs.declared.written.Written.{Written}
use Rattle.policy_expr.specs.Policy.{Policy}
use Rattle.stats_map.specs.Told.{HeldOf, told}
use Rattle.machine_meaning.specs.Drafts.{Draft}
use Rattle.machine_drafts.specs.MemberDrafts.{MemberDraftOf}
use Rattle.machine_meaning.specs.States.{MemberOf, State, SwitchOf}
use Rattle.machine_drafts.specs.SwitchDrafts.{SwitchDraftOf}
use Rattle.machine_drafts.specs.Views.{member_of, standing_of, switch_of}
use Rattle.machine_drafts.specs.declared.outcome.Outcome.{Outcome}
use Rattle.machine_drafts.specs.declared.session.Member.{Member}
use Rattle.machine_drafts.specs.declared.session.Switch.{Switch}
use Rattle.machine_meaning.specs.declared.state.Owed.{Owed}
use Rattle.waitings.specs.declared.state.Waiting.{Waiting}

-- members and switches as drafts leave them, and what stands on switches
abbrev pub members_in : List MemberDraftOf → List MemberOf
members_in members = map (λ (m : MemberDraftOf). m.now) members

abbrev pub switches_in : List SwitchDraftOf → List SwitchOf
switches_in switches = map (λ (x : SwitchDraftOf). x.now) switches

abbrev pub standing_in : List SwitchDraftOf → List (List Written)
standing_in switches = map (λ (x : SwitchDraftOf). x.standing) switches

-- the state as the event leaves it so far, without what the event says
abbrev pub state_in : Outcome → State
state_in o = record {
  moment = o.moment;
  exprs = o.exprs.now;
  members = members_in o.members;
  switches = switches_in o.switches;
  standing = standing_in o.switches;
  counts = told o.counts.now;
  waiting = o.waiting.now;
  owed = o.owed.now;
  next_cookie = o.next_cookie;
  audit = o.audit.now;
}

-- what the event changes and says so far
abbrev pub draft_in : Outcome → Draft
draft_in o = record {
  state = state_in o;
  reply = o.reply;
  begun = o.begun;
  asked = o.asked;
  sent = o.sent;
  answers = o.answers;
  ports = o.ports;
  settled = o.settled;
  removed = o.removed;
  told = o.told;
  batches = o.batches;
  polls = o.polls;
  packets = o.packets;
  echoes = o.echoes;
  policies = o.policies;
  denials = o.denials;
  downs = o.downs;
  slows = o.slows;
  notes = o.notes;
}

-- what no phase changes: the moment of the event, and what stands beside the draft
pub record Bases : Type 0 where
  pub moment : ℕ
  pub moments : List ℕ
  pub exprs : List Policy
  pub members : List Member
  pub switches : List Switch
  pub counts : HeldOf
  pub waiting : List Waiting
  pub owed : List Owed
  pub audit : List (List ℕ)

-- the moments that members' drafts know, and what stands of members and of switches
abbrev pub moments_of : List MemberDraftOf → List ℕ
moments_of members = map (λ (m : MemberDraftOf). m.moment) members

abbrev pub member_bases : List MemberDraftOf → List Member
member_bases members = map (λ (m : MemberDraftOf). m.base) members

abbrev pub switch_bases : List SwitchDraftOf → List Switch
switch_bases switches = map (λ (x : SwitchDraftOf). x.base) switches

abbrev pub bases : Outcome → Bases
bases o = record {
  moment = o.moment;
  moments = moments_of o.members;
  exprs = o.exprs.base;
  members = member_bases o.members;
  switches = switch_bases o.switches;
  counts = o.counts.base;
  waiting = o.waiting.base;
  owed = o.owed.base;
  audit = o.audit.now;
}

-- each member's draft knows the moment of the event
abbrev pub AreTimely : Bases → Type 0
AreTimely b = AllByRecursion (λ moment. moment ≡ b.moment) b.moments

-- the event began in this state: what phases look back at is as it stands
pub record IsBefore (b : Bases) (before : State) : Type 0 where
  pub members : before.members ≡ map member_of b.members
  pub switches : before.switches ≡ map switch_of b.switches
  pub standing : before.standing ≡ map standing_of b.switches
  pub counts : before.counts ≡ told b.counts
  pub owed : before.owed ≡ b.owed

-- members and switches have numbers
pub record HaveNumbers (b : Bases) : Type 0 where
  pub members : length b.members < 2 ^ 32
  pub switches : length b.switches < 2 ^ 32
