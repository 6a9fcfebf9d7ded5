use Rattle.std.proofs.Common.{◌∙◌, All, List, ap, map, refl, subst, sym}
use Rattle.policy_expr.specs.Policy.{policy_of}
use Rattle.policies.specs.Exprs.{exprs_of}
use Rattle.policies.specs.Policies.{PolicyOf}
use Rattle.policies.specs.declared.policy.MemberItem.{MemberItem}
use Rattle.stats_map.specs.Told.{told}
use Rattle.virtual_topology.specs.declared.plan.SwitchItem.{SwitchItem}
use Rattle.machine_meaning.specs.States.{State, exprs_read, new_member, new_switch, nothing_stands, opening}
use Rattle.machine_meaning.specs.Sound.{IsSoundState}
use Rattle.machine_meaning.proofs.Opening.{opening_sound}
use Rattle.machine_drafts.specs.Machines.{HasBits}
use Rattle.machine_drafts.specs.Views.{member_of, standing_of, switch_of}
use Rattle.hyper_core.proofs.Opened.{all_bits, as_many}
use Rattle.machine_drafts.proofs.SameStates.{state_same}
use Rattle.event_composes.proofs.StaysSettled.{opening_settled}
use Rattle.event_composes.specs.Settled.{IsSettledState}
use Rattle.hyper_core.proofs.starting.open.Goals as goal

pub new_members-requires : goal.new_members-requires
new_members-requires c =
    let items =
    c.as_slice.ensures ∙ ap (λ (p : PolicyOf). p.members) (c.policy.view_is ∙ c.policy-policy.ensures.policy) in
    subst (All HasBits) (sym items) (all_bits c.args.setup.now c.policy-policy.ensures.sound)

pub returns-clause-opening : goal.returns-clause-opening
returns-clause-opening c =
    let p = c.args.setup.now in
    let policy = c.policy-policy.ensures.policy in
    let inside = c.policy.view_is ∙ policy in
    let items = c.as_slice.ensures ∙ ap (λ (p : PolicyOf). p.members) inside in
    let plan = c.as_slice-2.ensures ∙ ap (λ (p : PolicyOf). p.switches) inside in
    let exprs =
    sym (ap exprs_read c.in_ok-exprs.ensures) ∙ ap (λ (p : PolicyOf). exprs_read (exprs_of p.virtuals p.members))
    policy in
    let t : State = record {
      moment = 0;
      exprs = map policy_of c.in_ok-exprs.exprs;
      members = map member_of c.in_ok-members.members;
      switches = map switch_of c.in_ok-switches.switches;
      standing = map standing_of c.in_ok-switches.switches;
      counts = told c.new-counts.result;
      waiting = c.new-waiting.result;
      owed = c.new-owed.result;
      next_cookie = 1;
      audit = c.new-audit.result;
    } in
    state_same (opening p) t refl exprs
    (c.in_ok-members.ensures ∙ ap (λ (ms : List MemberItem). map new_member ms) items)
    (c.in_ok-switches.ensures.sessions ∙ ap (λ (xs : List SwitchItem). map new_switch xs) plan)
    (c.in_ok-switches.ensures.standing ∙ ap (λ (xs : List SwitchItem). map nothing_stands xs) plan)
    c.new-counts.ensures c.new-waiting.ensures c.new-owed.ensures refl c.new-audit.ensures

pub returns-clause-settled : goal.returns-clause-settled
returns-clause-settled c =
    subst (IsSettledState c.args.setup.now) (sym (returns-clause-opening c)) (opening_settled c.args.setup.now)

pub returns-clause-sound : goal.returns-clause-sound
returns-clause-sound c =
    subst (IsSoundState c.args.setup.now) (sym (returns-clause-opening c))
    (opening_sound c.args.setup.now c.policy-policy.ensures.sound)

pub returns-clause-all : goal.returns-clause-all
returns-clause-all c =
    let p = c.args.setup.now in
    let policy = c.policy-policy.ensures.policy in
    let inside = c.policy.view_is ∙ policy in
    let items = c.as_slice.ensures ∙ ap (λ (p : PolicyOf). p.members) inside in
    let plan = c.as_slice-2.ensures ∙ ap (λ (p : PolicyOf). p.switches) inside in
    record {
      members = as_many member_of new_member c.in_ok-members.members p.members
          (c.in_ok-members.ensures ∙ ap (λ (ms : List MemberItem). map new_member ms) items);
      switches = as_many switch_of new_switch c.in_ok-switches.switches p.switches
          (c.in_ok-switches.ensures.sessions ∙ ap (λ (xs : List SwitchItem). map new_switch xs) plan);
    }
