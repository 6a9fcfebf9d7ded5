-- Normal matches: each field is named only beside those that it needs.
use Rattle.std.specs.Prelude.{ℕ, Bool, true, false, ◌==◌, ◌||◌, ◌&&◌, not, Option, Some, None, OnSome, IsTrue}
use Rattle.of10_match.specs.Fields.{MatchOf}
use Rattle.of10_match.specs.Numbers.{IPV4, ARP, UNTAGGED, ICMP, TCP, UDP}

-- a dl_type of IPv4
abbrev pub is_ip : Option ℕ → Bool
is_ip None = false
is_ip (Some t) = t == IPV4

-- a dl_type of IPv4 or ARP
abbrev pub is_ip_or_arp : Option ℕ → Bool
is_ip_or_arp None = false
is_ip_or_arp (Some t) = t == IPV4 || t == ARP

-- a protocol of which tp fields are read: ICMP, TCP or UDP
abbrev pub has_ports : Option ℕ → Bool
has_ports None = false
has_ports (Some p) = p == ICMP || (p == TCP || p == UDP)

-- a VLAN number, and not that of untagged packets
abbrev pub is_tagged : Option ℕ → Bool
is_tagged None = false
is_tagged (Some v) = not (v == UNTAGGED)

-- the field where its prerequisite stands, else nothing
abbrev pub kept : {A : Type 0} → Bool → Option A → Option A
kept true x = x
kept false x = None

-- a match without the fields whose prerequisite does not stand in it
abbrev pub normal : MatchOf → MatchOf
normal m = record {
  in_port = m.in_port;
  dl_src = m.dl_src;
  dl_dst = m.dl_dst;
  dl_vlan = m.dl_vlan;
  dl_vlan_pcp = kept (is_tagged m.dl_vlan) m.dl_vlan_pcp;
  dl_type = m.dl_type;
  nw_tos = kept (is_ip m.dl_type) m.nw_tos;
  nw_proto = kept (is_ip_or_arp m.dl_type) m.nw_proto;
  nw_src = kept (is_ip_or_arp m.dl_type) m.nw_src;
  nw_dst = kept (is_ip_or_arp m.dl_type) m.nw_dst;
  tp_src = kept (is_ip m.dl_type && has_ports m.nw_proto) m.tp_src;
  tp_dst = kept (is_ip m.dl_type && has_ports m.nw_proto) m.tp_dst;
}

-- no field is named without its prerequisite
pub record IsNormal (m : MatchOf) : Type 0 where
  pub dl_vlan_pcp : OnSome m.dl_vlan_pcp (IsTrue (is_tagged m.dl_vlan))
  pub nw_tos : OnSome m.nw_tos (IsTrue (is_ip m.dl_type))
  pub nw_proto : OnSome m.nw_proto (IsTrue (is_ip_or_arp m.dl_type))
  pub nw_src : OnSome m.nw_src (IsTrue (is_ip_or_arp m.dl_type))
  pub nw_dst : OnSome m.nw_dst (IsTrue (is_ip_or_arp m.dl_type))
  pub tp_src : OnSome m.tp_src (IsTrue (is_ip m.dl_type && has_ports m.nw_proto))
  pub tp_dst : OnSome m.tp_dst (IsTrue (is_ip m.dl_type && has_ports m.nw_proto))
