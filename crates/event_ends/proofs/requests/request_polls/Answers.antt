use Rattle.std.proofs.Common.{◌≡◌, ◌∙◌, List, ap, ap₂, length, sym}
use Rattle.std.specs.Prelude.{fold}
use Rattle.event_ends.proofs.Requesting.{as_many, polls_requested, written_back}
use Rattle.machine_drafts.specs.InsideRequests.{with_polled}
use Rattle.machine_drafts.specs.Outcomes.{draft_in, standing_in, switch_bases, switches_in}
use Rattle.machine_meaning.specs.Requests.{poll}
use Rattle.machine_drafts.specs.SwitchDrafts.{SwitchDraftOf}
use Rattle.machine_meaning.specs.declared.said.Asked.{Asked}
use Rattle.event_ends.proofs.requests.request_polls.Goals as goal

pub returns-clause-drafted : goal.returns-clause-drafted
returns-clause-drafted c =
    let o = c.args.draft.now in
    let p = c.args.setup.now in
    let d = draft_in o in
    let new = c.poll_all.new.switches in
    let switches : c.as_mut_slice.result.now ≡ o.switches = cc in
    let asked : c.as_slice.result.now ≡ o.asked = cc in
    let long : length new ≡ length o.switches =
    as_many new o.switches (c.in_ok-poll_all.ensures.bases ∙ ap switch_bases switches) in
    ap (λ (xs : List SwitchDraftOf). record d {
      state = record d.state {
        switches = switches_in xs;
        standing = standing_in xs;
        waiting = c.poll_all.new.waiting.now;
      };
      polls = c.poll_all.new.polls;
    }) (written_back o.switches new long)
    ∙ polls_requested p d (switches_in new) c.poll_all.new.waiting.now c.poll_all.new.polls (standing_in new)
    (ap₂ (λ (xs : List SwitchDraftOf) (all : List Asked).
    fold (poll p) (with_polled (switches_in xs) o.waiting.now o.polls d) all) (sym switches) (sym asked)
    ∙ c.in_ok-poll_all.ensures.polled d)
    (c.in_ok-poll_all.ensures.standing ∙ ap standing_in switches)
