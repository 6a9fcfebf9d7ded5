-- An IPv4 packet (RFC 791): where its parts stand, whether it is a fragment, and its ports.
use Rattle.std.specs.Prelude.{ℕ, ◌+◌, ◌-◌, ◌*◌, ◌/◌, ◌%◌, ◌^◌, ◌==◌, ◌&&◌, Bool, true, false, nat_le, List, slice_index}
use Rattle.std.specs.Prelude.{Option, Some, None, if◌then◌else◌}
use Rattle.of10_match.specs.Numbers.{ICMP, IPV4}
use Rattle.of10_actions.specs.Rewriting.{is_tcp_udp}
use Rattle.pkt_bytes.specs.declared.ipv4.Fragment.{Fragment}
use Rattle.pkt_bytes.specs.declared.ipv4.Fragment.TheVariants.{Whole, First, Later}
use Rattle.pkt_bytes.specs.declared.ipv4.Ipv4.{Ipv4}
use Rattle.pkt_bytes.specs.declared.ipv4.Ports.{Ports}
use Rattle.pkt_bytes.specs.Link.{link_of}
use Rattle.pkt_bytes.specs.Numbers.{number_at, has}

-- what the word of flags and offset says: the offset is its low 13 bits, and the bit above is More Fragments
abbrev pub fragment_of : ℕ → Fragment
fragment_of word =
    if word % 2 ^ 14 == 0 then Whole else (if word % 2 ^ 13 == 0 then First else Later)

-- no fragment
abbrev pub is_whole : Fragment → Bool
is_whole Whole = true
is_whole First = false
is_whole Later = false

-- the transport header, if any, begins in this packet
abbrev pub is_start : Fragment → Bool
is_start Whole = true
is_start First = true
is_start Later = false

-- the place behind a header at a place, whose length is four times the lower half of its first byte
abbrev pub header_end : ℕ → List ℕ → ℕ
header_end place bytes = place + 4 * (slice_index bytes place % 16)

-- how many words of 16 bits a header has
abbrev pub header_words : Ipv4 → ℕ
header_words ip = (ip.transport - ip.place) / 2

-- the packet whose header begins at a place, if that header is 20 bytes or longer and is there with its options
unfoldable pub ipv4_at : ℕ → List ℕ → Option Ipv4
ipv4_at place bytes =
    if nat_le (place + 20) (header_end place bytes) && has (header_end place bytes) bytes
    then Some (record {
      place = place;
      transport = header_end place bytes;
      protocol = slice_index bytes (place + 9);
      fragment = fragment_of (number_at (place + 6) 2 bytes);
    })
    else None

-- the IPv4 packet that a frame carries
abbrev pub ipv4_of : List ℕ → Option Ipv4
ipv4_of bytes =
    if (link_of bytes).payload.dl_type == IPV4 then ipv4_at (link_of bytes).payload.place bytes else None

-- the ports of TCP or UDP are there
abbrev pub has_ports : Ipv4 → List ℕ → Bool
has_ports ip bytes = is_whole ip.fragment && (is_tcp_udp ip.protocol && has (ip.transport + 4) bytes)

-- the type and code of ICMP are there
abbrev pub has_icmp : Ipv4 → List ℕ → Bool
has_icmp ip bytes = is_whole ip.fragment && (ip.protocol == ICMP && has (ip.transport + 2) bytes)

-- the ports, or the type and code of ICMP, or zeros
unfoldable pub ports_of : Ipv4 → List ℕ → Ports
ports_of ip bytes =
    if has_ports ip bytes
    then record { src = number_at ip.transport 2 bytes; dst = number_at (ip.transport + 2) 2 bytes }
    else (if has_icmp ip bytes
    then record { src = slice_index bytes ip.transport; dst = slice_index bytes (ip.transport + 1) }
    else record { src = 0; dst = 0 })
