-- A frame after a rewrite: fields replaced at their places, then the checksums that cover them mended.
use Rattle.std.specs.Prelude.{ℕ, ◌+◌, ◌*◌, ◌/◌, ◌%◌, ◌==◌, ◌&&◌, List, slice_index, Option, Some, None, if◌then◌else◌}
use Rattle.std.specs.Option.{option_map}
use Rattle.of10_match.specs.Numbers.{TCP, UDP}
use Rattle.of10_actions.specs.Fields.{RewriteOf}
use Rattle.pkt_bytes.specs.declared.ipv4.Ipv4.{Ipv4}
use Rattle.pkt_bytes.specs.declared.rewriting.Checksum.{Checksum}
use Rattle.pkt_bytes.specs.Checksums.{change, mended}
use Rattle.pkt_bytes.specs.Ipv4.{ipv4_of, is_start, has_ports}
use Rattle.pkt_bytes.specs.Numbers.{number_at, has, put, put_if}

-- the frame with the Ethernet addresses replaced
unfoldable pub with_dl : RewriteOf → List ℕ → List ℕ
with_dl r bytes = put_if 6 6 r.dl_src (put_if 0 6 r.dl_dst bytes)

-- the byte of the type of service, whose two low bits stay
abbrev pub tos_byte : Option ℕ → ℕ → Option ℕ
tos_byte tos old = option_map (λ upper. upper + old % 4) tos

-- with the type of service and the addresses of IPv4 replaced
unfoldable pub with_nw : Ipv4 → RewriteOf → List ℕ → List ℕ
with_nw ip r bytes =
    put_if (ip.place + 16) 4 r.nw_dst (put_if (ip.place + 12) 4 r.nw_src
    (put_if (ip.place + 1) 1 (tos_byte r.nw_tos (slice_index bytes (ip.place + 1))) bytes))

-- with the ports replaced
unfoldable pub with_tp : Ipv4 → RewriteOf → List ℕ → List ℕ
with_tp ip r bytes =
    if has_ports ip bytes
    then put_if (ip.transport + 2) 2 r.tp_dst (put_if ip.transport 2 r.tp_src bytes)
    else bytes

-- what a word at a place adds to a checksum where it is replaced
abbrev pub word_change : ℕ → Option ℕ → List ℕ → ℕ
word_change place None bytes = 0
word_change place (Some value) bytes = change (number_at place 2 bytes) value

-- the same of an address, which is two words
unfoldable pub address_change : ℕ → Option ℕ → List ℕ → ℕ
address_change place address bytes =
    word_change place (option_map (λ a. a / 65536) address) bytes
    + word_change (place + 2) (option_map (λ a. a % 65536) address) bytes

-- what the addresses add
unfoldable pub nw_change : Ipv4 → RewriteOf → List ℕ → ℕ
nw_change ip r bytes = address_change (ip.place + 12) r.nw_src bytes + address_change (ip.place + 16) r.nw_dst bytes

-- what the type of service adds, which is the lower byte of its word
unfoldable pub tos_change : Ipv4 → RewriteOf → List ℕ → ℕ
tos_change ip r bytes =
    let tos = tos_byte r.nw_tos (slice_index bytes (ip.place + 1)) in
    word_change ip.place (option_map (λ lower. slice_index bytes ip.place * 256 + lower) tos) bytes

-- what the ports add
unfoldable pub tp_change : Ipv4 → RewriteOf → List ℕ → ℕ
tp_change ip r bytes =
    if has_ports ip bytes
    then word_change ip.transport r.tp_src bytes + word_change (ip.transport + 2) r.tp_dst bytes
    else 0

-- the checksum of the header
unfoldable pub header_checksum : Ipv4 → RewriteOf → List ℕ → ℕ
header_checksum ip r bytes = mended (number_at (ip.place + 10) 2 bytes) (tos_change ip r bytes + nw_change ip r bytes)

-- the place of the checksum of TCP or UDP, if it is there
unfoldable pub checksum_place : Ipv4 → List ℕ → Option ℕ
checksum_place ip bytes =
    if is_start ip.fragment && (ip.protocol == TCP && has (ip.transport + 18) bytes)
    then Some (ip.transport + 16)
    else (if is_start ip.fragment && (ip.protocol == UDP && has (ip.transport + 8) bytes)
    then Some (ip.transport + 6)
    else None)

-- a checksum of UDP after changes (RFC 768): 0 says that there is none, and 0xffff stands for 0
abbrev pub udp_mended : ℕ → ℕ → ℕ
udp_mended checksum changes =
    if checksum == 0 then 0 else (if mended checksum changes == 0 then 65535 else mended checksum changes)

-- the checksum of TCP or UDP that stands at a place
unfoldable pub transport_checksum : ℕ → Ipv4 → RewriteOf → List ℕ → ℕ
transport_checksum place ip r bytes =
    if ip.protocol == UDP
    then udp_mended (number_at place 2 bytes) (nw_change ip r bytes + tp_change ip r bytes)
    else mended (number_at place 2 bytes) (nw_change ip r bytes + tp_change ip r bytes)

-- the checksum of TCP or UDP after the rewrite, if it is there
unfoldable pub new_checksum : Ipv4 → RewriteOf → List ℕ → Option Checksum
new_checksum ip r bytes =
    let checksum_at : ℕ → Checksum = λ place. record { place = place; value = transport_checksum place ip r bytes } in
    option_map checksum_at (checksum_place ip bytes)

-- with a checksum at its place
abbrev pub with_checksum : Option Checksum → List ℕ → List ℕ
with_checksum None bytes = bytes
with_checksum (Some checksum) bytes = put checksum.place 2 checksum.value bytes

-- with the fields of IPv4 and of its transport replaced, and then both checksums
unfoldable pub with_ip : Ipv4 → RewriteOf → List ℕ → List ℕ
with_ip ip r bytes =
    with_checksum (new_checksum ip r bytes)
    (put (ip.place + 10) 2 (header_checksum ip r bytes) (with_tp ip r (with_nw ip r bytes)))

-- the same where the frame carries IPv4
abbrev pub with_ip_if : Option Ipv4 → RewriteOf → List ℕ → List ℕ
with_ip_if None r bytes = bytes
with_ip_if (Some ip) r bytes = with_ip ip r bytes

-- the frame after a rewrite; in one below 14 bytes nothing is replaced
unfoldable pub rewritten : RewriteOf → List ℕ → List ℕ
rewritten r bytes = if has 14 bytes then with_ip_if (ipv4_of bytes) r (with_dl r bytes) else bytes
