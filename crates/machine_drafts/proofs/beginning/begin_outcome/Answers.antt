use Rattle.std.proofs.Common.{◌∙◌, None, map, refl, ap}
use Rattle.stats_map.specs.Told.{told}
use Rattle.machine_drafts.proofs.Begun.{bases_begun, bases_same, members_begun, moments_begun, standing_begun}
use Rattle.machine_drafts.proofs.Begun.{switch_bases_begun, switches_begun, untouched_is}
use Rattle.machine_drafts.proofs.SameStates.{state_same}
use Rattle.machine_meaning.specs.Drafts.{Draft}
use Rattle.machine_drafts.specs.Machines.{at_moment, bases_of, state_in_held}
use Rattle.machine_drafts.specs.MemberDrafts.{standing_member}
use Rattle.machine_drafts.specs.Outcomes.{Bases, member_bases, members_in, moments_of, standing_in, switch_bases}
use Rattle.machine_drafts.specs.Outcomes.{switches_in}
use Rattle.machine_meaning.specs.States.{State}
use Rattle.machine_drafts.specs.SwitchDrafts.{standing_switch}
use Rattle.events.specs.declared.event.Reply.TheVariants.{Done}
use Rattle.machine_drafts.proofs.beginning.begin_outcome.Goals as goal

pub returns-clause-draft : goal.returns-clause-draft
returns-clause-draft c =
    let h = c.args.held.now in
    let members = c.in_ok-members.ensures ∙ ap (map (standing_member c.args.now)) c.as_slice.ensures in
    let switches = c.in_ok-switches.ensures ∙ ap (map standing_switch) c.as_slice-2.ensures in
    let s = at_moment c.args.now (state_in_held h) in
    let t : State = record {
      moment = c.args.now;
      exprs = c.stay-exprs.result.now;
      members = members_in c.in_ok-members.members;
      switches = switches_in c.in_ok-switches.switches;
      standing = standing_in c.in_ok-switches.switches;
      counts = told c.of-counts.result.now;
      waiting = c.stay-waiting.result.now;
      owed = c.stay-owed.result.now;
      next_cookie = h.next_cookie;
      audit = h.audit;
    } in
    let d : Draft = record {
      state = t;
      reply = Done;
      begun = None;
      asked = c.new.result;
      sent = c.new-2.result;
      answers = c.new-3.result;
      ports = c.new-4.result;
      settled =
          c.new-5.result;
      removed = c.new-6.result;
      told = c.new-7.result;
      batches = c.new-8.result;
      polls =
          c.new-9.result;
      packets = c.new-10.result;
      echoes = c.new-11.result;
      policies = c.new-12.result;
      denials =
          c.new-13.result;
      downs = c.new-14.result;
      slows = c.new-15.result;
      notes = c.new-16.result;
    } in
    let same = state_same s t refl c.stay-exprs.ensures.now
    (ap members_in members ∙ members_begun c.args.now h.members)
    (ap switches_in switches ∙ switches_begun h.switches)
    (ap standing_in switches ∙ standing_begun h.switches)
    (ap told c.of-counts.ensures.now) c.stay-waiting.ensures.now c.stay-owed.ensures.now refl refl in
    untouched_is s d same refl refl
    c.new.ensures c.new-2.ensures c.new-3.ensures c.new-4.ensures c.new-5.ensures c.new-6.ensures
    c.new-7.ensures c.new-8.ensures c.new-9.ensures c.new-10.ensures c.new-11.ensures c.new-12.ensures
    c.new-13.ensures c.new-14.ensures c.new-15.ensures c.new-16.ensures

pub returns-clause-bases : goal.returns-clause-bases
returns-clause-bases c =
    let h = c.args.held.now in
    let members = c.in_ok-members.ensures ∙ ap (map (standing_member c.args.now)) c.as_slice.ensures in
    let switches = c.in_ok-switches.ensures ∙ ap (map standing_switch) c.as_slice-2.ensures in
    let b : Bases = record {
      moment = c.args.now;
      moments = moments_of c.in_ok-members.members;
      exprs = c.stay-exprs.result.base;
      members = member_bases c.in_ok-members.members;
      switches = switch_bases c.in_ok-switches.switches;
      counts = c.of-counts.result.base;
      waiting = c.stay-waiting.result.base;
      owed = c.stay-owed.result.base;
      audit = h.audit;
    } in
    bases_same (bases_of c.args.now h) b refl
    (ap moments_of members ∙ moments_begun c.args.now h.members)
    c.stay-exprs.ensures.base
    (ap member_bases members ∙ bases_begun c.args.now h.members)
    (ap switch_bases switches ∙ switch_bases_begun h.switches)
    c.of-counts.ensures.base c.stay-waiting.ensures.base c.stay-owed.ensures.base refl
