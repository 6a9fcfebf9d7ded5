-- The Ethernet header of a frame: addresses, at most one tag, and the type of what it carries, which a
-- frame with a length in its place has in a SNAP header.
use Rattle.std.specs.Prelude.{ℕ, ◌+◌, ◌/◌, ◌%◌, ◌==◌, ◌&&◌, Bool, nat_lt, List, if◌then◌else◌}
use Rattle.of10_match.specs.Numbers.{UNTAGGED}
use Rattle.pkt_bytes.specs.declared.link.Link.{Link}
use Rattle.pkt_bytes.specs.declared.link.Payload.{Payload}
use Rattle.pkt_bytes.specs.Numbers.{number_at, has}

-- aa aa 03 00 00 00, after which a type of Ethernet follows
abbrev pub is_snap : ℕ → List ℕ → Bool
is_snap place bytes = has (place + 6) bytes && number_at place 6 bytes == 0xaaaa03000000

-- what follows a length: the type of a SNAP header, which is zero where it is cut short, else 0x05ff
abbrev pub payload_behind_length : ℕ → List ℕ → Payload
payload_behind_length place bytes =
    if is_snap place bytes
    then (if has (place + 8) bytes
    then record { dl_type = number_at (place + 6) 2 bytes; place = place + 8 }
    else record { dl_type = 0; place = place + 6 })
    else record { dl_type = 0x05ff; place = place }

-- what follows the type or length at a place; it is a length below 0x0600
unfoldable pub payload_at : ℕ → List ℕ → Payload
payload_at place bytes =
    if nat_lt (number_at place 2 bytes) 0x0600
    then payload_behind_length (place + 2) bytes
    else record { dl_type = number_at place 2 bytes; place = place + 2 }

-- a tag of four bytes at 12; all is zero where it is cut short
abbrev pub tagged : List ℕ → Link
tagged bytes =
    if has 18 bytes
    then record {
      dl_vlan = number_at 14 2 bytes % 4096;
      dl_vlan_pcp = number_at 14 2 bytes / 8192;
      payload = payload_at 16 bytes;
    }
    else record { dl_vlan = 0; dl_vlan_pcp = 0; payload = record { dl_type = 0; place = 14 } }

-- a frame without a tag
abbrev pub untagged : List ℕ → Link
untagged bytes = record { dl_vlan = UNTAGGED; dl_vlan_pcp = 0; payload = payload_at 12 bytes }

-- what a frame of at least 14 bytes says in front of its network layer
unfoldable pub link_of : List ℕ → Link
link_of bytes = if number_at 12 2 bytes == 0x8100 then tagged bytes else untagged bytes
