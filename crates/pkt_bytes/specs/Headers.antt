-- The header that a frame is read as: the twelve numbers that OpenFlow 1.0 matches (section 3.4 of the
-- OpenFlow Switch Specification 1.0.0). What a layer that is cut short would say is zero.
use Rattle.std.specs.Prelude.{ℕ, ◌+◌, ◌*◌, ◌/◌, ◌==◌, ◌&&◌, List, slice_index, Option, Some, None, if◌then◌else◌}
use Rattle.of10_match.specs.Fields.{HeaderOf}
use Rattle.of10_match.specs.Numbers.{IPV4, ARP, UNTAGGED}
use Rattle.pkt_bytes.specs.declared.ipv4.Ipv4.{Ipv4}
use Rattle.pkt_bytes.specs.declared.link.Link.{Link}
use Rattle.pkt_bytes.specs.declared.link.Payload.{Payload}
use Rattle.pkt_bytes.specs.Ipv4.{ipv4_at, ports_of}
use Rattle.pkt_bytes.specs.Link.{link_of}
use Rattle.pkt_bytes.specs.Numbers.{number_at, has}

-- a frame that has no whole Ethernet header
abbrev pub no_header : ℕ → HeaderOf
no_header in_port = record {
  in_port = in_port;
  dl_src = 0;
  dl_dst = 0;
  dl_vlan = UNTAGGED;
  dl_vlan_pcp = 0;
  dl_type = 0;
  nw_tos = 0;
  nw_proto = 0;
  nw_src = 0;
  nw_dst = 0;
  tp_src = 0;
  tp_dst = 0;
}

-- the Ethernet header alone
abbrev pub link_header : Link → ℕ → List ℕ → HeaderOf
link_header link in_port bytes = record (no_header in_port) {
  dl_dst = number_at 0 6 bytes;
  dl_src = number_at 6 6 bytes;
  dl_vlan = link.dl_vlan;
  dl_vlan_pcp = link.dl_vlan_pcp;
  dl_type = link.payload.dl_type;
}

-- with what IPv4 and its transport say, where the packet is there; of the type of service the upper six bits
abbrev pub with_ipv4 : Option Ipv4 → List ℕ → HeaderOf → HeaderOf
with_ipv4 None bytes h = h
with_ipv4 (Some ip) bytes h = record h {
  nw_tos = slice_index bytes (ip.place + 1) / 4 * 4;
  nw_proto = ip.protocol;
  nw_src = number_at (ip.place + 12) 4 bytes;
  nw_dst = number_at (ip.place + 16) 4 bytes;
  tp_src = (ports_of ip bytes).src;
  tp_dst = (ports_of ip bytes).dst;
}

-- with what ARP says (RFC 826): the lower byte of its operation and its two addresses of IPv4
abbrev pub with_arp : ℕ → List ℕ → HeaderOf → HeaderOf
with_arp place bytes h = record h {
  nw_proto = slice_index bytes (place + 7);
  nw_src = number_at (place + 14) 4 bytes;
  nw_dst = number_at (place + 24) 4 bytes;
}

-- with what the network layer says
abbrev pub with_payload : Payload → List ℕ → HeaderOf → HeaderOf
with_payload payload bytes h =
    if payload.dl_type == IPV4
    then with_ipv4 (ipv4_at payload.place bytes) bytes h
    else (if payload.dl_type == ARP && has (payload.place + 28) bytes then with_arp payload.place bytes h else h)

-- the header of a frame that came by a port
abbrev pub header_in : ℕ → List ℕ → HeaderOf
header_in in_port bytes =
    if has 14 bytes
    then with_payload (link_of bytes).payload bytes (link_header (link_of bytes) in_port bytes)
    else no_header in_port
