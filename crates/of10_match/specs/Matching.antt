-- What a match holds, when two matches overlap, and what both hold.
use Rattle.std.specs.Prelude.{ℕ, Bool, true, false, ◌==◌, ◌&&◌, ◌/◌, ◌^◌, ◌-◌, nat_le, Option, Some, None, is_some}
use Rattle.std.specs.Prelude.{if◌then◌else◌}
use Rattle.std.specs.Option.{option_or}
use Rattle.of10_match.specs.Fields.{HeaderOf, MatchOf}
use Rattle.of10_match.specs.declared.header.Prefix.{Prefix}

-- the number of the first `len` bits of an address
abbrev pub top_bits : ℕ → ℕ → ℕ
top_bits len addr = addr / 2 ^ (32 - len)

-- nothing is asked, or a value that equals this one
abbrev pub fits_by : {A : Type 0} → (A → A → Bool) → Option A → A → Bool
fits_by eq None x = true
fits_by eq (Some v) x = eq v x

-- a field that is absent, or has the header's value
abbrev pub fits : Option ℕ → ℕ → Bool
fits o x = fits_by ◌==◌ o x

-- an address that is not asked for, or whose first bits are the header's
abbrev pub fits_prefix : Option Prefix → ℕ → Bool
fits_prefix None x = true
fits_prefix (Some p) x = top_bits p.len p.addr == top_bits p.len x

-- all twelve tests
abbrev pub each : (a b c d e f g h i j k l : Bool) → Bool
each a b c d e f g h i j k l = a && (b && (c && (d && (e && (f && (g && (h && (i && (j && (k && l))))))))))

-- the match holds the header
abbrev pub holds : MatchOf → HeaderOf → Bool
holds m h =
    each (fits m.in_port h.in_port) (fits m.dl_src h.dl_src) (fits m.dl_dst h.dl_dst) (fits m.dl_vlan h.dl_vlan)
    (fits m.dl_vlan_pcp h.dl_vlan_pcp) (fits m.dl_type h.dl_type) (fits m.nw_tos h.nw_tos)
    (fits m.nw_proto h.nw_proto) (fits_prefix m.nw_src h.nw_src) (fits_prefix m.nw_dst h.nw_dst)
    (fits m.tp_src h.tp_src) (fits m.tp_dst h.tp_dst)

-- where both ask for a value, they are equal
abbrev pub agree_by : {A : Type 0} → (A → A → Bool) → Option A → Option A → Bool
agree_by eq None y = true
agree_by eq (Some v) None = true
agree_by eq (Some v) (Some w) = eq v w

-- a field that both name has one value
abbrev pub agree : Option ℕ → Option ℕ → Bool
agree x y = agree_by ◌==◌ x y

-- q leaves no more bits open than p
abbrev pub is_longer : Prefix → Prefix → Bool
is_longer q p = nat_le (32 - q.len) (32 - p.len)

-- the longer of two prefixes begins with the shorter
abbrev pub agree_prefix : Option Prefix → Option Prefix → Bool
agree_prefix None y = true
agree_prefix (Some p) None = true
agree_prefix (Some p) (Some q) = if is_longer q p then (top_bits p.len p.addr == top_bits p.len q.addr)
    else (top_bits q.len p.addr == top_bits q.len q.addr)

-- no field is asked to have two values
abbrev pub overlaps : MatchOf → MatchOf → Bool
overlaps m n =
    each (agree m.in_port n.in_port) (agree m.dl_src n.dl_src) (agree m.dl_dst n.dl_dst) (agree m.dl_vlan n.dl_vlan)
    (agree m.dl_vlan_pcp n.dl_vlan_pcp) (agree m.dl_type n.dl_type) (agree m.nw_tos n.nw_tos)
    (agree m.nw_proto n.nw_proto) (agree_prefix m.nw_src n.nw_src) (agree_prefix m.nw_dst n.nw_dst)
    (agree m.tp_src n.tp_src) (agree m.tp_dst n.tp_dst)

-- the value that either asks for, the first before the second
abbrev pub either : Option ℕ → Option ℕ → Option ℕ
either = option_or

-- the longer prefix of the two
abbrev pub longer : Option Prefix → Option Prefix → Option Prefix
longer None y = y
longer (Some p) None = Some p
longer (Some p) (Some q) = if is_longer q p then Some q else Some p

-- the match that holds what both hold, where they overlap
abbrev pub both : MatchOf → MatchOf → MatchOf
both m n = record {
  in_port = either m.in_port n.in_port;
  dl_src = either m.dl_src n.dl_src;
  dl_dst = either m.dl_dst n.dl_dst;
  dl_vlan = either m.dl_vlan n.dl_vlan;
  dl_vlan_pcp = either m.dl_vlan_pcp n.dl_vlan_pcp;
  dl_type = either m.dl_type n.dl_type;
  nw_tos = either m.nw_tos n.nw_tos;
  nw_proto = either m.nw_proto n.nw_proto;
  nw_src = longer m.nw_src n.nw_src;
  nw_dst = longer m.nw_dst n.nw_dst;
  tp_src = either m.tp_src n.tp_src;
  tp_dst = either m.tp_dst n.tp_dst;
}

-- the match of the headers that are in both, where there are any
abbrev pub meet : MatchOf → MatchOf → Option MatchOf
meet m n = if overlaps m n then Some (both m n) else None

-- the match that names no field
abbrev pub everything : MatchOf
everything = record {
  in_port = None;
  dl_src = None;
  dl_dst = None;
  dl_vlan = None;
  dl_vlan_pcp = None;
  dl_type = None;
  nw_tos = None;
  nw_proto = None;
  nw_src = None;
  nw_dst = None;
  tp_src = None;
  tp_dst = None;
}

-- the match of all headers that come by a port
abbrev pub at_port : ℕ → MatchOf
at_port port = record everything { in_port = Some port }

-- the whole address is named
abbrev pub is_address : Option Prefix → Bool
is_address None = false
is_address (Some p) = p.len == 32

-- all twelve fields are named, so that the match holds one header
abbrev pub is_one_header : MatchOf → Bool
is_one_header m =
    each (is_some m.in_port) (is_some m.dl_src) (is_some m.dl_dst) (is_some m.dl_vlan) (is_some m.dl_vlan_pcp)
    (is_some m.dl_type) (is_some m.nw_tos) (is_some m.nw_proto) (is_address m.nw_src) (is_address m.nw_dst)
    (is_some m.tp_src) (is_some m.tp_dst)

-- where the first asks for a value, the second asks for an equal one
abbrev pub asks_by : {A : Type 0} → (A → A → Bool) → Option A → Option A → Bool
asks_by eq None y = true
asks_by eq (Some v) None = false
asks_by eq (Some v) (Some w) = eq v w

-- the second asks for all that the first asks for
abbrev pub asks : Option ℕ → Option ℕ → Bool
asks x y = asks_by ◌==◌ x y

-- the second prefix begins with the first
abbrev pub asks_prefix : Option Prefix → Option Prefix → Bool
asks_prefix None y = true
asks_prefix (Some p) None = false
asks_prefix (Some p) (Some q) = is_longer q p && top_bits p.len p.addr == top_bits p.len q.addr

-- the first holds all that the second holds
abbrev pub covers : MatchOf → MatchOf → Bool
covers m n =
    each (asks m.in_port n.in_port) (asks m.dl_src n.dl_src) (asks m.dl_dst n.dl_dst) (asks m.dl_vlan n.dl_vlan)
    (asks m.dl_vlan_pcp n.dl_vlan_pcp) (asks m.dl_type n.dl_type) (asks m.nw_tos n.nw_tos)
    (asks m.nw_proto n.nw_proto) (asks_prefix m.nw_src n.nw_src) (asks_prefix m.nw_dst n.nw_dst)
    (asks m.tp_src n.tp_src) (asks m.tp_dst n.tp_dst)
