-- The numbers of the standard, each said here alone (sections 3.4 and 5.2.3); the code's constants meet them.
use Rattle.std.specs.Prelude.{ℕ, Bool, if◌then◌else◌}

-- the dl_type of IPv4
abbrev pub IPV4 : ℕ
IPV4 = 0x0800

-- the dl_type of ARP
abbrev pub ARP : ℕ
ARP = 0x0806

-- the dl_vlan of packets without a tag
abbrev pub UNTAGGED : ℕ
UNTAGGED = 65535

-- the nw_proto of ICMP
abbrev pub ICMP : ℕ
ICMP = 1

-- the nw_proto of TCP
abbrev pub TCP : ℕ
TCP = 6

-- the nw_proto of UDP
abbrev pub UDP : ℕ
UDP = 17

-- the rank of entries without a wildcard, above every priority
abbrev pub EXACT_RANK : ℕ
EXACT_RANK = 65536

-- the rank of an entry: its priority, unless it has no wildcard
abbrev pub rank_by : Bool → ℕ → ℕ
rank_by exact priority = if exact then EXACT_RANK else priority
