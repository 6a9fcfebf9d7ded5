-- Equality of matches as a test.
use Rattle.std.specs.Prelude.{Bool, ◌==◌, ◌&&◌}
use Rattle.std.specs.Option.{option_eq}
use Rattle.of10_match.specs.Fields.{MatchOf}
use Rattle.of10_match.specs.Matching.{each}
use Rattle.of10_match.specs.declared.header.Prefix.{Prefix}

-- two prefixes have the same bits
abbrev pub same_prefix : Prefix → Prefix → Bool
same_prefix p q = (p.addr == q.addr) && (p.len == q.len)

-- two matches ask for the same
abbrev pub same_match : MatchOf → MatchOf → Bool
same_match m n =
    each (option_eq ◌==◌ m.in_port n.in_port) (option_eq ◌==◌ m.dl_src n.dl_src) (option_eq ◌==◌ m.dl_dst n.dl_dst)
    (option_eq ◌==◌ m.dl_vlan n.dl_vlan) (option_eq ◌==◌ m.dl_vlan_pcp n.dl_vlan_pcp)
    (option_eq ◌==◌ m.dl_type n.dl_type) (option_eq ◌==◌ m.nw_tos n.nw_tos) (option_eq ◌==◌ m.nw_proto n.nw_proto)
    (option_eq same_prefix m.nw_src n.nw_src) (option_eq same_prefix m.nw_dst n.nw_dst)
    (option_eq ◌==◌ m.tp_src n.tp_src) (option_eq ◌==◌ m.tp_dst n.tp_dst)
