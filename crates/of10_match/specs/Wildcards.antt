-- What the wildcards of an `ofp_match` leave of its fields, and what a match is written as.
use Rattle.std.specs.Prelude.{ℕ, Bool, ◌==◌, ◌+◌, ◌-◌, ◌*◌, ◌/◌, ◌%◌, ◌^◌, nat_lt, Option, Some, None, List, unwrap_or}
use Rattle.std.specs.Prelude.{if◌then◌else◌}
use Rattle.std.specs.Bool.{then_some}
use Rattle.of10_match.specs.Fields.{MatchOf}
use Rattle.of10_match.specs.OfpMatchFields.{fields_in, bytes_of}
use Rattle.of10_match.specs.Normal.{normal}
use Rattle.of10_match.specs.Numbers.{UNTAGGED}
use Rattle.of10_match.specs.declared.header.Prefix.{Prefix}
use Rattle.of10_match.specs.declared.ofp_match.OfpMatch.{OfpMatch}

-- the wildcard bit at a place is clear
abbrev pub is_clear : ℕ → ℕ → Bool
is_clear wildcards bit = (wildcards / 2 ^ bit) % 2 == 0

-- an address without its n low bits, or nothing where n is 32 or more
abbrev pub prefix_by : ℕ → ℕ → Option Prefix
prefix_by n addr = if nat_lt n 32 then Some (record { addr = addr / 2 ^ n * 2 ^ n; len = 32 - n }) else None

-- a VLAN number of twelve bits, or that of packets without a tag
abbrev pub vlan_of : ℕ → ℕ
vlan_of v = if v == UNTAGGED then v else v % 4096

-- the fields that the wildcards name, with the bits that count
abbrev pub named : OfpMatch → MatchOf
named w = record {
  in_port = then_some (is_clear w.wildcards 0) w.in_port;
  dl_src = then_some (is_clear w.wildcards 2) w.dl_src;
  dl_dst = then_some (is_clear w.wildcards 3) w.dl_dst;
  dl_vlan = then_some (is_clear w.wildcards 1) (vlan_of w.dl_vlan);
  dl_vlan_pcp = then_some (is_clear w.wildcards 20) (w.dl_vlan_pcp % 8);
  dl_type = then_some (is_clear w.wildcards 4) w.dl_type;
  nw_tos = then_some (is_clear w.wildcards 21) (w.nw_tos / 4 * 4);
  nw_proto = then_some (is_clear w.wildcards 5) w.nw_proto;
  nw_src = prefix_by ((w.wildcards / 2 ^ 8) % 64) w.nw_src;
  nw_dst = prefix_by ((w.wildcards / 2 ^ 14) % 64) w.nw_dst;
  tp_src = then_some (is_clear w.wildcards 6) w.tp_src;
  tp_dst = then_some (is_clear w.wildcards 7) w.tp_dst;
}

-- all 22 wildcard bits are clear
abbrev pub is_exact : OfpMatch → Bool
is_exact w = w.wildcards % 2 ^ 22 == 0

-- the match that 40 bytes are read as
abbrev pub normal_of : List ℕ → MatchOf
normal_of bs = normal (named (fields_in bs))

-- a wildcard bit, set where the field is absent
abbrev pub bit_of : {A : Type 0} → ℕ → Option A → ℕ
bit_of bit None = 2 ^ bit
bit_of bit (Some v) = 0

-- how many low bits of an address a prefix leaves out, 32 where it is absent
abbrev pub open_bits : Option Prefix → ℕ
open_bits None = 32
open_bits (Some p) = 32 - p.len

-- the address of a prefix, zero where it is absent
abbrev pub address_of : Option Prefix → ℕ
address_of None = 0
address_of (Some p) = p.addr

-- the wildcards of a match: each bit and each count in its place
abbrev pub wildcards_of : MatchOf → ℕ
wildcards_of m =
    bit_of 0 m.in_port + bit_of 1 m.dl_vlan + bit_of 2 m.dl_src + bit_of 3 m.dl_dst + bit_of 4 m.dl_type + bit_of 5
    m.nw_proto + bit_of 6 m.tp_src + bit_of 7 m.tp_dst + open_bits m.nw_src * 2 ^ 8 + open_bits m.nw_dst * 2 ^ 14 +
    bit_of 20 m.dl_vlan_pcp + bit_of 21 m.nw_tos

-- a match as it is written: absent fields have zero bytes
abbrev pub written : MatchOf → OfpMatch
written m = record {
  wildcards = wildcards_of m;
  in_port = unwrap_or m.in_port 0;
  dl_src = unwrap_or m.dl_src 0;
  dl_dst = unwrap_or m.dl_dst 0;
  dl_vlan = unwrap_or m.dl_vlan 0;
  dl_vlan_pcp = unwrap_or m.dl_vlan_pcp 0;
  dl_type = unwrap_or m.dl_type 0;
  nw_tos = unwrap_or m.nw_tos 0;
  nw_proto = unwrap_or m.nw_proto 0;
  nw_src = address_of m.nw_src;
  nw_dst = address_of m.nw_dst;
  tp_src = unwrap_or m.tp_src 0;
  tp_dst = unwrap_or m.tp_dst 0;
}

-- the 40 bytes that a match is written as
abbrev pub match_bytes : MatchOf → List ℕ
match_bytes m = bytes_of (written m)
