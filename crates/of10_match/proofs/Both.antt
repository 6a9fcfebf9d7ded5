-- The match of two matches, field by field.
use Rattle.std.proofs.Common.{◌<◌, ◌^◌}
use Rattle.of10_match.specs.Fields.{MatchOf}
use Rattle.of10_match.specs.Matching.{both}
use Rattle.of10_match.specs.Ranges.{IsMatch, IsVlan, IsTos, IsPrefix}
use Rattle.of10_match.proofs.Values.{if_some_or, if_some_longer}

-- its values are in range
pub IsMatch-both : (m n : MatchOf) → IsMatch m → IsMatch n → IsMatch (both m n)
IsMatch-both m n p q = record {
  in_port = if_some_or (λ v. v < 2 ^ 16) m.in_port n.in_port p.in_port q.in_port;
  dl_src = if_some_or (λ v. v < 2 ^ 48) m.dl_src n.dl_src p.dl_src q.dl_src;
  dl_dst = if_some_or (λ v. v < 2 ^ 48) m.dl_dst n.dl_dst p.dl_dst q.dl_dst;
  dl_vlan = if_some_or IsVlan m.dl_vlan n.dl_vlan p.dl_vlan q.dl_vlan;
  dl_vlan_pcp = if_some_or (λ v. v < 8) m.dl_vlan_pcp n.dl_vlan_pcp p.dl_vlan_pcp q.dl_vlan_pcp;
  dl_type = if_some_or (λ v. v < 2 ^ 16) m.dl_type n.dl_type p.dl_type q.dl_type;
  nw_tos = if_some_or IsTos m.nw_tos n.nw_tos p.nw_tos q.nw_tos;
  nw_proto = if_some_or (λ v. v < 2 ^ 8) m.nw_proto n.nw_proto p.nw_proto q.nw_proto;
  nw_src = if_some_longer IsPrefix m.nw_src n.nw_src p.nw_src q.nw_src;
  nw_dst = if_some_longer IsPrefix m.nw_dst n.nw_dst p.nw_dst q.nw_dst;
  tp_src = if_some_or (λ v. v < 2 ^ 16) m.tp_src n.tp_src p.tp_src q.tp_src;
  tp_dst = if_some_or (λ v. v < 2 ^ 16) m.tp_dst n.tp_dst p.tp_dst q.tp_dst;
}
