-- From the fields of the structs to what contracts see, and back; the ranges of fields.
use Rattle.std.specs.Prelude.{ℕ, ◌<◌, ◌≤◌, ◌^◌, ◌%◌, ◌-◌, ◌≡◌, IfSome, ◌⊎◌}
use Rattle.of10_match.specs.Fields.{HeaderOf, MatchOf}
use Rattle.of10_match.specs.Numbers.{UNTAGGED}
use Rattle.of10_match.specs.declared.header.Prefix.{Prefix}
use Rattle.of10_match.specs.declared.header.Header.TheInside as Header
use Rattle.of10_match.specs.declared.header.Match.TheInside as Match

abbrev pub header_view : Header.Inside → HeaderOf
header_view a = record {
  in_port = a.in_port;
  dl_src = a.dl_src;
  dl_dst = a.dl_dst;
  dl_vlan = a.dl_vlan;
  dl_vlan_pcp = a.dl_vlan_pcp;
  dl_type = a.dl_type;
  nw_tos = a.nw_tos;
  nw_proto = a.nw_proto;
  nw_src = a.nw_src;
  nw_dst = a.nw_dst;
  tp_src = a.tp_src;
  tp_dst = a.tp_dst;
}

abbrev pub header_inside : HeaderOf → Header.Inside
header_inside a = record {
  in_port = a.in_port;
  dl_src = a.dl_src;
  dl_dst = a.dl_dst;
  dl_vlan = a.dl_vlan;
  dl_vlan_pcp = a.dl_vlan_pcp;
  dl_type = a.dl_type;
  nw_tos = a.nw_tos;
  nw_proto = a.nw_proto;
  nw_src = a.nw_src;
  nw_dst = a.nw_dst;
  tp_src = a.tp_src;
  tp_dst = a.tp_dst;
}

abbrev pub match_view : Match.Inside → MatchOf
match_view a = record {
  in_port = a.in_port;
  dl_src = a.dl_src;
  dl_dst = a.dl_dst;
  dl_vlan = a.dl_vlan;
  dl_vlan_pcp = a.dl_vlan_pcp;
  dl_type = a.dl_type;
  nw_tos = a.nw_tos;
  nw_proto = a.nw_proto;
  nw_src = a.nw_src;
  nw_dst = a.nw_dst;
  tp_src = a.tp_src;
  tp_dst = a.tp_dst;
}

abbrev pub match_inside : MatchOf → Match.Inside
match_inside a = record {
  in_port = a.in_port;
  dl_src = a.dl_src;
  dl_dst = a.dl_dst;
  dl_vlan = a.dl_vlan;
  dl_vlan_pcp = a.dl_vlan_pcp;
  dl_type = a.dl_type;
  nw_tos = a.nw_tos;
  nw_proto = a.nw_proto;
  nw_src = a.nw_src;
  nw_dst = a.nw_dst;
  tp_src = a.tp_src;
  tp_dst = a.tp_dst;
}

-- a VLAN number of twelve bits, or that of packets without a tag
abbrev pub IsVlan : ℕ → Type 0
IsVlan v = (v < 4096) ⊎ (v ≡ UNTAGGED)

-- the numbers of a header are in their ranges
pub record HeaderInRange (a : Header.Inside) : Type 0 where
  pub dl_src : a.dl_src < 2 ^ 48
  pub dl_dst : a.dl_dst < 2 ^ 48
  pub dl_vlan : IsVlan a.dl_vlan
  pub dl_vlan_pcp : a.dl_vlan_pcp < 8
  pub nw_tos : a.nw_tos % 4 ≡ 0

-- a type of service: its upper six bits
abbrev pub IsTos : ℕ → Type 0
IsTos v = (v < 2 ^ 8) × (v % 4 ≡ 0)

-- 1 to 32 bits of an address, and the further bits are zero
abbrev pub IsPrefix : Prefix → Type 0
IsPrefix p = (0 < p.len) × (p.len ≤ 32) × (p.addr < 2 ^ 32) × (p.addr % 2 ^ (32 - p.len) ≡ 0)

-- twelve numbers that a header may have
pub record IsHeader (h : HeaderOf) : Type 0 where
  pub in_port : h.in_port < 2 ^ 16
  pub dl_src : h.dl_src < 2 ^ 48
  pub dl_dst : h.dl_dst < 2 ^ 48
  pub dl_vlan : IsVlan h.dl_vlan
  pub dl_vlan_pcp : h.dl_vlan_pcp < 8
  pub dl_type : h.dl_type < 2 ^ 16
  pub nw_tos : IsTos h.nw_tos
  pub nw_proto : h.nw_proto < 2 ^ 8
  pub nw_src : h.nw_src < 2 ^ 32
  pub nw_dst : h.nw_dst < 2 ^ 32
  pub tp_src : h.tp_src < 2 ^ 16
  pub tp_dst : h.tp_dst < 2 ^ 16

-- values that a match may ask for
pub record IsMatch (m : MatchOf) : Type 0 where
  pub in_port : IfSome m.in_port (λ v. v < 2 ^ 16)
  pub dl_src : IfSome m.dl_src (λ v. v < 2 ^ 48)
  pub dl_dst : IfSome m.dl_dst (λ v. v < 2 ^ 48)
  pub dl_vlan : IfSome m.dl_vlan IsVlan
  pub dl_vlan_pcp : IfSome m.dl_vlan_pcp (λ v. v < 8)
  pub dl_type : IfSome m.dl_type (λ v. v < 2 ^ 16)
  pub nw_tos : IfSome m.nw_tos IsTos
  pub nw_proto : IfSome m.nw_proto (λ v. v < 2 ^ 8)
  pub nw_src : IfSome m.nw_src IsPrefix
  pub nw_dst : IfSome m.nw_dst IsPrefix
  pub tp_src : IfSome m.tp_src (λ v. v < 2 ^ 16)
  pub tp_dst : IfSome m.tp_dst (λ v. v < 2 ^ 16)

-- the values of a match are in their ranges
abbrev pub MatchInRange : Match.Inside → Type 0
MatchInRange a = IsMatch (match_view a)
