use Rattle.std.proofs.Common.{true, ◌<◌, ◌^◌}
use Rattle.of10_match.specs.Ranges.{IsPrefix, IsTos}
use Rattle.pull_back.proofs.Exactness.{kept}
use Rattle.pull_back.proofs.pulling.asked_before.Goals as goal

pub invariant_of-result : goal.invariant_of-result
invariant_of-result c = record {
  in_port = c.m.invariant.in_port;
  dl_src =
      rw c.unset.ensures (kept (λ v. v < 2 ^ 48) true c.rewrite.inside.dl_src c.m.inside.dl_src c.m.invariant.dl_src);
  dl_dst =
      rw c.unset-2.ensures (kept (λ v. v < 2 ^ 48) true c.rewrite.inside.dl_dst c.m.inside.dl_dst c.m.invariant.dl_dst);
  dl_vlan = c.m.invariant.dl_vlan;
  dl_vlan_pcp = c.m.invariant.dl_vlan_pcp;
  dl_type = c.m.invariant.dl_type;
  nw_tos = rw c.unset-3.ensures (kept IsTos _ _ _ c.m.invariant.nw_tos);
  nw_proto = c.m.invariant.nw_proto;
  nw_src = rw c.unset-4.ensures (kept IsPrefix _ _ _ c.m.invariant.nw_src);
  nw_dst = rw c.unset-5.ensures (kept IsPrefix _ _ _ c.m.invariant.nw_dst);
  tp_src = rw c.unset-6.ensures (kept (λ v. v < 2 ^ 16) _ _ _ c.m.invariant.tp_src);
  tp_dst = rw c.unset-7.ensures (kept (λ v. v < 2 ^ 16) _ _ _ c.m.invariant.tp_dst);
}
