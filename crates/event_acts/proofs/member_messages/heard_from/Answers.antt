use Rattle.std.proofs.Common.{◌≡◌, ◌<◌, length, subst, sym, arith}
use Rattle.std.specs.Prelude.{OnOk}
use Rattle.std.proofs.lemmas.Result.{on_ok_weaker}
use Rattle.machine_meaning.specs.Drafts.{Draft}
use Rattle.machine_drafts.specs.InsideRequests.{AreSendable}
use Rattle.machine_meaning.specs.Names.{all_ports, virtual_of}
use Rattle.machine_drafts.specs.Outcomes.{draft_in}
use Rattle.machine_drafts.proofs.FewPorts.{member_few}
use Rattle.event_acts.proofs.Sendable.{serve_sends}
use Rattle.event_acts.proofs.Served.{denied_as, found_at, heard_refused, heard_served, member_in, refused_so}
use Rattle.event_acts.proofs.Served.{served_so}
use Rattle.event_acts.proofs.member_messages.heard_from.Goals as goal

pub serve-requires-clause-few : goal.serve-requires-clause-few
serve-requires-clause-few c = member_few c.args.setup.now c.args.n c.args.m.now c.policy.ensures.sound c.requires.item

pub serve-requires-clause-asked : goal.serve-requires-clause-asked
serve-requires-clause-asked c =
    let m = c.args.m.now in
    let o = c.args.draft.now in
    let lt : c.args.n < length o.members = omega arith in
    let f = found_at o.members c.args.n lt in
    let j = c.requires.judged m f.0 c.requires.item f.1 in
    let s = served_so m.grant (all_ports c.args.setup.now (virtual_of m)) f.0.base.kept o.moment c.args.frame.now
    c.args.judged c.in-Served.xid c.in-Served.request c.in-Served.is j.1 in
    record { x = f.0; stands = j.0; body = s.body; asks = s.asks }

pub returns-in-Refused-clause-drafted : goal.returns-in-Refused-clause-drafted
returns-in-Refused-clause-drafted c =
    let p = c.args.setup.now in
    let m = c.args.m.now in
    let o = c.args.draft.now in
    let lt : c.args.n < length o.members = omega arith in
    let f = found_at o.members c.args.n lt in
    let j = c.requires.judged m f.0 c.requires.item f.1 in
    let e = refused_so m.grant (all_ports p (virtual_of m)) f.0.base.kept o.moment c.args.frame.now c.args.judged
    c.in-Refused.denied c.in-Refused.is j.1 in
    subst (λ (d : Draft). OnOk c.refuse.result (draft_in c.refuse.new.draft ≡ d))
    (sym (heard_refused p c.args.n m f.0.now c.args.frame.now c.in-Refused.denied (draft_in o) c.requires.item
    (member_in o.members c.args.n f.0 f.1) (denied_as p m f.0 c.args.frame.now _ j.0.kept e)))
    c.refuse.ensures.drafted

pub returns-in-Served-clause-drafted : goal.returns-in-Served-clause-drafted
returns-in-Served-clause-drafted c =
    let p = c.args.setup.now in
    let m = c.args.m.now in
    let o = c.args.draft.now in
    let lt : c.args.n < length o.members = omega arith in
    let f = found_at o.members c.args.n lt in
    let j = c.requires.judged m f.0 c.requires.item f.1 in
    let s = served_so m.grant (all_ports p (virtual_of m)) f.0.base.kept o.moment c.args.frame.now c.args.judged
    c.in-Served.xid c.in-Served.request c.in-Served.is j.1 in
    subst (λ (d : Draft). OnOk c.serve.result (draft_in c.serve.new.draft ≡ d))
    (sym (heard_served p c.args.n m f.0.now c.args.frame.now c.in-Served.xid s.body (draft_in o) c.requires.item
    (member_in o.members c.args.n f.0 f.1) (denied_as p m f.0 c.args.frame.now _ j.0.kept s.accepted) s.read))
    (c.serve.ensures.drafted f.0 s.body f.1 s.asks)

pub returns-in-Refused-clause-sendable : goal.returns-in-Refused-clause-sendable
returns-in-Refused-clause-sendable c = λ all.
    on_ok_weaker c.refuse.result
    (λ e. subst (λ (d : Draft). AreSendable d.sent) (sym e) all)
    c.refuse.ensures.drafted

pub returns-in-Served-clause-sendable : goal.returns-in-Served-clause-sendable
returns-in-Served-clause-sendable c = λ all.
    let p = c.args.setup.now in
    let m = c.args.m.now in
    let o = c.args.draft.now in
    let lt : c.args.n < length o.members = omega arith in
    let f = found_at o.members c.args.n lt in
    let j = c.requires.judged m f.0 c.requires.item f.1 in
    let s = served_so m.grant (all_ports p (virtual_of m)) f.0.base.kept o.moment c.args.frame.now c.args.judged
    c.in-Served.xid c.in-Served.request c.in-Served.is j.1 in
    on_ok_weaker c.serve.result
    (λ e. subst (λ (d : Draft). AreSendable d.sent) (sym e)
    (serve_sends p c.args.n m f.0.now f.0.base.kept o.moment c.in-Served.xid s.body c.in-Served.request (draft_in o)
    s.asks all))
    (c.serve.ensures.drafted f.0 s.body f.1 s.asks)
