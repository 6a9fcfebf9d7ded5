use Rattle.std.proofs.Common.{◌++◌, List, ℕ, ap, ap₂, ◌∙◌}
use Rattle.std.specs.Prelude.{filter_map, map}
use Rattle.std.proofs.lemmas.Result.{on_ok_weaker}
use Rattle.machine_meaning.specs.Packets.{leaving, telling}
use Rattle.event_acts.proofs.PacketOuts.{packet_given}
use Rattle.event_acts.proofs.packets.packet_leaves.Goals as goal

pub returns-clause-drafted : goal.returns-clause-drafted
returns-clause-drafted c =
    let p = c.args.setup.now in
    let m = c.args.m.now in
    let o = c.args.draft.now in
    let w = c.in_ok-walked.walked in
    on_ok_weaker c.leave_walked.result
    (λ h. packet_given p c.args.n c.args.view.now m o c.tell_walked.new.letters c.leave_walked.new.sent w
    c.in_ok-walked.ensures
    (c.in_ok-tell_walked.ensures
    ∙ ap₂ (λ (k : ℕ) (bs : List ℕ). o.told ++ map (telling k bs) w.told) c.data_length-total_len.ensures.length
    c.as_slice-bytes.ensures)
    (h ∙ ap (λ (bs : List ℕ). o.sent ++ filter_map (leaving p bs) w.outs) c.as_slice-bytes.ensures))
    c.leave_walked.ensures
