use Rattle.std.proofs.Common.{◌∙◌, List, ap₂, subst, sym}
use Rattle.std.specs.Prelude.{fold}
use Rattle.machine_meaning.specs.Drafts.{Draft}
use Rattle.machine_drafts.specs.InsideRequests.{AreSendable}
use Rattle.machine_meaning.specs.Requests.{dispatch}
use Rattle.machine_meaning.specs.declared.said.Sent.{Sent}
use Rattle.event_ends.proofs.requests.request_all.Goals as goal

pub send_packets-requires : goal.send_packets-requires
send_packets-requires c = subst AreSendable (sym c.in_ok-request_polls.ensures.sent) c.requires

pub returns-clause-drafted : goal.returns-clause-drafted
returns-clause-drafted c =
    c.in_ok-send_packets.ensures.drafted
    ∙ ap₂ (λ (d : Draft) (sent : List Sent). fold dispatch d sent) c.in_ok-request_polls.ensures.drafted
    c.in_ok-request_polls.ensures.sent
