-- The one header that a match holds.
use Rattle.std.specs.Prelude.{ℕ, Option, None, Some, unwrap_or}
use Rattle.of10_match.specs.Fields.{HeaderOf, MatchOf}
use Rattle.of10_match.specs.declared.header.Prefix.{Prefix}

-- the address of a prefix, if there is one
abbrev pub address_of : Option Prefix → ℕ
address_of None = 0
address_of (Some p) = p.addr

-- the header of the values that a match names, and zeros
abbrev pub header_of : MatchOf → HeaderOf
header_of m = record {
  in_port = unwrap_or m.in_port 0;
  dl_src = unwrap_or m.dl_src 0;
  dl_dst = unwrap_or m.dl_dst 0;
  dl_vlan = unwrap_or m.dl_vlan 0;
  dl_vlan_pcp = unwrap_or m.dl_vlan_pcp 0;
  dl_type = unwrap_or m.dl_type 0;
  nw_tos = unwrap_or m.nw_tos 0;
  nw_proto = unwrap_or m.nw_proto 0;
  nw_src = address_of m.nw_src;
  nw_dst = address_of m.nw_dst;
  tp_src = unwrap_or m.tp_src 0;
  tp_dst = unwrap_or m.tp_dst 0;
}
