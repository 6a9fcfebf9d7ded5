-- Each field that the wildcards name has the bits that count.
use Rattle.std.proofs.Common.{◌<◌, ◌^◌, ◌/◌, ◌∙◌, ap, arith}
use Rattle.std.specs.Bool.{then_some}
use Rattle.of10_match.specs.Ranges.{IsVlan, IsTos}
use Rattle.of10_match.specs.Wildcards.{prefix_by}
use Rattle.of10_match.proofs.Masks.{IsTos-mask, low-mask, tos-mask}
use Rattle.of10_match.proofs.Values.{if_some_then}
use Rattle.of10_match.proofs.ofp_match.OfpMatch.named.Goals as goal

pub invariant_of-result : goal.invariant_of-result
invariant_of-result c =
    let w = c.args.self in
    record {
      in_port = rw c.then_some.ensures (if_some_then (λ v. v < 2 ^ 16) c.is_clear.result _ (omega arith));
      dl_src = rw c.then_some-2.ensures (if_some_then (λ v. v < 2 ^ 48) c.is_clear-2.result _ (omega arith));
      dl_dst = rw c.then_some-3.ensures (if_some_then (λ v. v < 2 ^ 48) c.is_clear-3.result _ (omega arith));
      dl_vlan = rw c.then_some-4.ensures (if_some_then IsVlan c.is_clear-4.result _ c.vlan.ensures.in_range);
      dl_vlan_pcp = rw c.then_some-5.ensures
          (if_some_then (λ v. v < 8) c.is_clear-5.result _ (rw (low-mask w.dl_vlan_pcp 3) (omega arith)));
      dl_type = rw c.then_some-6.ensures (if_some_then (λ v. v < 2 ^ 16) c.is_clear-6.result _ (omega arith));
      nw_tos = rw c.then_some-7.ensures (if_some_then IsTos c.is_clear-7.result _ (IsTos-mask w.nw_tos (omega arith)));
      nw_proto = rw c.then_some-8.ensures (if_some_then (λ v. v < 2 ^ 8) c.is_clear-8.result _ (omega arith));
      nw_src = c.prefix.ensures.in_range;
      nw_dst = c.prefix-2.ensures.in_range;
      tp_src = rw c.then_some-9.ensures (if_some_then (λ v. v < 2 ^ 16) c.is_clear-9.result _ (omega arith));
      tp_dst = rw c.then_some-10.ensures (if_some_then (λ v. v < 2 ^ 16) c.is_clear-10.result _ (omega arith));
    }

pub returns : goal.returns
returns c =
    let w = c.args.self in
    λ i. record {
      in_port = (c.then_some.ensures ∙ (λ j. then_some (c.is_clear.ensures j) w.in_port)) i;
      dl_src = (c.then_some-2.ensures ∙ (λ j. then_some (c.is_clear-2.ensures j) w.dl_src)) i;
      dl_dst = (c.then_some-3.ensures ∙ (λ j. then_some (c.is_clear-3.ensures j) w.dl_dst)) i;
      dl_vlan = (c.then_some-4.ensures ∙ (λ j. then_some (c.is_clear-4.ensures j) ((c.vlan.ensures.value) j))) i;
      dl_vlan_pcp = (c.then_some-5.ensures ∙ (λ j. then_some (c.is_clear-5.ensures j) ((low-mask w.dl_vlan_pcp 3) j)))
          i;
      dl_type = (c.then_some-6.ensures ∙ (λ j. then_some (c.is_clear-6.ensures j) w.dl_type)) i;
      nw_tos = (c.then_some-7.ensures ∙ (λ j. then_some (c.is_clear-7.ensures j) ((tos-mask w.nw_tos (omega arith)) j)))
          i;
      nw_proto = (c.then_some-8.ensures ∙ (λ j. then_some (c.is_clear-8.ensures j) w.nw_proto)) i;
      nw_src = (c.prefix.ensures.value ∙ ap (λ n. prefix_by n w.nw_src) (low-mask (w.wildcards / 2 ^ 8) 6)) i;
      nw_dst = (c.prefix-2.ensures.value ∙ ap (λ n. prefix_by n w.nw_dst) (low-mask (w.wildcards / 2 ^ 14) 6)) i;
      tp_src = (c.then_some-9.ensures ∙ (λ j. then_some (c.is_clear-9.ensures j) w.tp_src)) i;
      tp_dst = (c.then_some-10.ensures ∙ (λ j. then_some (c.is_clear-10.ensures j) w.tp_dst)) i;
    }
