use Rattle.std.proofs.Common.{true, ◌<◌, ◌^◌, rules}
use Rattle.of10_match.specs.Ranges.{IsPrefix, IsTos}
use Rattle.pull_back.specs.Pulling.{whole}
use Rattle.pull_back.proofs.Exactness.{known, tos, whole-prefix}
use Rattle.pull_back.proofs.imaging.known_after.Goals as goal

pub invariant_of-result : goal.invariant_of-result
invariant_of-result c = record {
  in_port = c.m.invariant.in_port;
  dl_src =
      rw c.set_in.ensures (known (λ v. v < 2 ^ 48) (λ v. v < 2 ^ 48) (λ v. v) (λ v l. l) true c.rewrite.inside.dl_src
      c.m.inside.dl_src c.rewrite.invariant.dl_src c.m.invariant.dl_src);
  dl_dst =
      rw c.set_in-2.ensures (known (λ v. v < 2 ^ 48) (λ v. v < 2 ^ 48) (λ v. v) (λ v l. l) true c.rewrite.inside.dl_dst
      c.m.inside.dl_dst c.rewrite.invariant.dl_dst c.m.invariant.dl_dst);
  dl_vlan = c.m.invariant.dl_vlan;
  dl_vlan_pcp = c.m.invariant.dl_vlan_pcp;
  dl_type = c.m.invariant.dl_type;
  nw_tos =
      rw c.set_in-3.ensures (known IsTos IsTos (λ v. v) (λ v l. l) _ c.rewrite.inside.nw_tos c.m.inside.nw_tos
      (tos _ (search rules) c.rewrite.invariant.nw_tos) c.m.invariant.nw_tos);
  nw_proto = c.m.invariant.nw_proto;
  nw_src =
      rw c.address_in.ensures
      (known IsPrefix (λ v. v < 2 ^ 32) whole whole-prefix _ c.rewrite.inside.nw_src c.m.inside.nw_src (search rules)
      c.m.invariant.nw_src);
  nw_dst = rw c.address_in-2.ensures
      (known IsPrefix (λ v. v < 2 ^ 32) whole whole-prefix _ c.rewrite.inside.nw_dst c.m.inside.nw_dst (search rules)
      c.m.invariant.nw_dst);
  tp_src = search rules;
  tp_dst = search rules;
}
