-- Which fields matches name, and how a match is found among those of one shape.
use Rattle.std.specs.Bool.{beq}
use Rattle.std.specs.Prelude.{ℕ, ◌-◌, ◌==◌, ◌||◌, not, nat_le, Bool, Option, Some, None, is_some, if◌then◌else◌}
use Rattle.of10_match.specs.Fields.{MatchOf}
use Rattle.of10_match.specs.Matching.{each}
use Rattle.of10_match.specs.Normal.{kept}
use Rattle.of10_match.specs.Wildcards.{prefix_by}
use Rattle.of10_match.specs.declared.header.Prefix.{Prefix}
use Rattle.match_index.specs.declared.shape.Shape.{Shape}

-- how many bits a prefix names
abbrev pub length_of : Option Prefix → ℕ
length_of None = 0
length_of (Some p) = p.len

-- the first bits of a prefix, as many as are asked for
abbrev pub shortened : ℕ → Option Prefix → Option Prefix
shortened len None = None
shortened len (Some p) = prefix_by (32 - len) p.addr

-- the fields that a match names
abbrev pub shape_of : MatchOf → Shape
shape_of m = record {
  in_port = is_some m.in_port;
  dl_src = is_some m.dl_src;
  dl_dst = is_some m.dl_dst;
  dl_vlan = is_some m.dl_vlan;
  dl_vlan_pcp = is_some m.dl_vlan_pcp;
  dl_type = is_some m.dl_type;
  nw_tos = is_some m.nw_tos;
  nw_proto = is_some m.nw_proto;
  nw_src = length_of m.nw_src;
  nw_dst = length_of m.nw_dst;
  tp_src = is_some m.tp_src;
  tp_dst = is_some m.tp_dst;
}

-- the same fields, and as many bits
abbrev pub same_shape : Shape → Shape → Bool
same_shape s t =
    each (beq s.in_port t.in_port) (beq s.dl_src t.dl_src) (beq s.dl_dst t.dl_dst) (beq s.dl_vlan t.dl_vlan)
    (beq s.dl_vlan_pcp t.dl_vlan_pcp) (beq s.dl_type t.dl_type) (beq s.nw_tos t.nw_tos) (beq s.nw_proto t.nw_proto)
    (s.nw_src == t.nw_src) (s.nw_dst == t.nw_dst) (beq s.tp_src t.tp_src) (beq s.tp_dst t.tp_dst)

-- the second where the first
abbrev pub implies : Bool → Bool → Bool
implies a b = not a || b

-- the match names all that the shape names
abbrev pub is_named_by : Shape → MatchOf → Bool
is_named_by s m =
    each (implies s.in_port (is_some m.in_port)) (implies s.dl_src (is_some m.dl_src))
    (implies s.dl_dst (is_some m.dl_dst)) (implies s.dl_vlan (is_some m.dl_vlan))
    (implies s.dl_vlan_pcp (is_some m.dl_vlan_pcp)) (implies s.dl_type (is_some m.dl_type))
    (implies s.nw_tos (is_some m.nw_tos)) (implies s.nw_proto (is_some m.nw_proto))
    (nat_le s.nw_src (length_of m.nw_src)) (nat_le s.nw_dst (length_of m.nw_dst))
    (implies s.tp_src (is_some m.tp_src)) (implies s.tp_dst (is_some m.tp_dst))

-- the match without what the shape doesn't name
abbrev pub kept_by : Shape → MatchOf → MatchOf
kept_by s m = record {
  in_port = kept s.in_port m.in_port;
  dl_src = kept s.dl_src m.dl_src;
  dl_dst = kept s.dl_dst m.dl_dst;
  dl_vlan = kept s.dl_vlan m.dl_vlan;
  dl_vlan_pcp = kept s.dl_vlan_pcp m.dl_vlan_pcp;
  dl_type = kept s.dl_type m.dl_type;
  nw_tos = kept s.nw_tos m.nw_tos;
  nw_proto = kept s.nw_proto m.nw_proto;
  nw_src = shortened s.nw_src m.nw_src;
  nw_dst = shortened s.nw_dst m.nw_dst;
  tp_src = kept s.tp_src m.tp_src;
  tp_dst = kept s.tp_dst m.tp_dst;
}

-- the one match of the shape that can overlap, where the other names all of the shape
abbrev pub place_in : Shape → MatchOf → Option MatchOf
place_in s m = if is_named_by s m then Some (kept_by s m) else None
