use Rattle.std.proofs.Common.{◌≡◌, ◌∙◌, List, ap, ap₂, length, sym}
use Rattle.std.specs.Prelude.{fold}
use Rattle.event_ends.proofs.Requesting.{as_many, packets_sent, written_back}
use Rattle.machine_drafts.specs.InsideRequests.{with_dispatched}
use Rattle.machine_drafts.specs.Outcomes.{draft_in, standing_in, switch_bases, switches_in}
use Rattle.machine_meaning.specs.Requests.{dispatch}
use Rattle.machine_drafts.specs.SwitchDrafts.{SwitchDraftOf}
use Rattle.machine_meaning.specs.declared.said.Sent.{Sent}
use Rattle.event_ends.proofs.requests.send_packets.Goals as goal

pub returns-clause-drafted : goal.returns-clause-drafted
returns-clause-drafted c =
    let o = c.args.draft.now in
    let d = draft_in o in
    let new = c.dispatch_all.new.switches in
    let switches : c.as_mut_slice.result.now ≡ o.switches = cc in
    let sent : c.as_slice.result.now ≡ o.sent = cc in
    let long : length new ≡ length o.switches =
    as_many new o.switches (c.in_ok-dispatch_all.ensures.bases ∙ ap switch_bases switches) in
    ap (λ (xs : List SwitchDraftOf). record d {
      state = record d.state { switches = switches_in xs; standing = standing_in xs };
      packets = c.dispatch_all.new.packets;
    }) (written_back o.switches new long)
    ∙ packets_sent d (switches_in new) c.dispatch_all.new.packets (standing_in new)
    (ap₂ (λ (xs : List SwitchDraftOf) (all : List Sent).
    fold dispatch (with_dispatched (switches_in xs) o.packets d) all) (sym switches) (sym sent)
    ∙ c.in_ok-dispatch_all.ensures.dispatched d)
    (c.in_ok-dispatch_all.ensures.standing ∙ ap standing_in switches)
