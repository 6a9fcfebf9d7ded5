use Rattle.std.proofs.Common.{◌≡◌, List, None, false, subst}
use Rattle.of10_actions.specs.declared.action.Action.{Action}
use Rattle.grants.specs.Rows.{action_rows, first_of, packet_rows}
use Rattle.grants.proofs.Accepted.{on_ok, packet_granted}
use Rattle.grants.proofs.check.check_out.Goals as goal

pub returns-clause-granted : goal.returns-clause-granted
returns-clause-granted c =
    let g = c.args.g.now in
    let v = c.args.v.now in
    let m = c.args.m.now in
    let A : List Action → Type 0 = λ list. first_of (action_rows false g v list) ≡ None in
    on_ok (first_of (packet_rows g m c.args.h.now)) c.check_packet.result _
    (packet_granted g v m c.args.h.now (subst A c.as_slice.ensures c.in_ok-check_actions.ensures))
    c.check_packet.ensures
