use Rattle.std.proofs.Common.{◌≡◌, ap, ◌∙◌}
use Rattle.std.specs.Prelude.{option_map}
use Rattle.of10_match.specs.Fields.{HeaderOf}
use Rattle.packet_map.specs.Networks.{network_of}
use Rattle.pkt_bytes.specs.Headers.{header_in}
use Rattle.policy_meaning.specs.Networks.{ground_of}
use Rattle.policy_meaning.specs.Walk.{walk}
use Rattle.policy_meaning.specs.declared.walking.Walked.{Walked}
use Rattle.explain_path.specs.Traces.{trace}
use Rattle.explain_text.specs.Findings.{findings}
use Rattle.explain_text.specs.Using.{used_for}
use Rattle.explain_text.proofs.Saying.{all-said, came-by}
use Rattle.explain_text.proofs.answering.answer.Goals as goal

pub returns : goal.returns
returns c =
    let w = c.args.world.now in
    let at = c.args.at.now in
    let bytes = c.args.bytes.now in
    let came = ap (λ (h : HeaderOf). record h { in_port = at.by }) c.header_of-header.ensures ∙ came-by at.by bytes in
    let hops = c.in_ok-hops.ensures.hops ∙ ap (λ h. trace (network_of w) w.hops at.v h) came in
    let walked = c.in_ok-hops.ensures.walked ∙ ap (λ h. walk (ground_of (network_of w)) w.hops at.v h) came in
    let standing = option_map (λ entries. entries.now) c.args.standing in
    let said = all-said w.topology.now _ _ at.switch _ _ _ _ _ _ _ c.new-said.ensures c.in_ok-add_hops.ensures
    c.in_ok-add_outs.ensures c.in_ok-add_told.ensures c.of_standing-entry.ensures c.in_ok-push_some.ensures.pushed in
    let trace_is : c.as_slice.result.now ≡ trace (network_of w) w.hops at.v (header_in at.by bytes) =
    let read = c.as_slice.ensures in let kept = c.in_ok-hops.hops-is in cc in
    let outs_is : c.as_slice-2.result.now ≡ (walk (ground_of (network_of w)) w.hops at.v (header_in at.by bytes)).outs =
    let read = c.as_slice-2.ensures in let kept = c.in_ok-hops.walked-is in let out =
    ap (λ (x : Walked). x.outs) walked in cc in
    let told_is : c.as_slice-3.result.now ≡ (walk (ground_of (network_of w)) w.hops at.v (header_in at.by bytes)).told =
    let read = c.as_slice-3.ensures in let kept = c.in_ok-hops.walked-is in let tell =
    ap (λ (x : Walked). x.told) walked in cc in
    let entering : c.header_of.result ≡ header_in at.port bytes = c.header_of.ensures in
    said ∙ (λ i. findings w.topology.now (trace_is i) (record { outs = outs_is i; told = told_is i }) at.switch
    (option_map (used_for (entering i)) standing))
