-- Normal matches of which little is asked.
use Rattle.std.specs.Prelude.{ℕ}
use Rattle.of10_match.specs.Fields.{MatchOf}
use Rattle.of10_match.specs.Matching.{at_port, everything}
use Rattle.of10_match.specs.Normal.{IsNormal}
use Rattle.policy_meaning.specs.Hops.{without_port}

pub normal-everything : IsNormal everything
normal-everything = record {
  dl_vlan_pcp = tt;
  nw_tos = tt;
  nw_proto = tt;
  nw_src = tt;
  nw_dst = tt;
  tp_src = tt;
  tp_dst = tt;
}

pub normal-at_port : (p : ℕ) → IsNormal (at_port p)
normal-at_port p = record {
  dl_vlan_pcp = tt;
  nw_tos = tt;
  nw_proto = tt;
  nw_src = tt;
  nw_dst = tt;
  tp_src = tt;
  tp_dst = tt;
}

pub normal-without_port : (m : MatchOf) → IsNormal m → IsNormal (without_port m)
normal-without_port m n = record {
  dl_vlan_pcp = n.dl_vlan_pcp;
  nw_tos = n.nw_tos;
  nw_proto = n.nw_proto;
  nw_src = n.nw_src;
  nw_dst = n.nw_dst;
  tp_src = n.tp_src;
  tp_dst = n.tp_dst;
}
