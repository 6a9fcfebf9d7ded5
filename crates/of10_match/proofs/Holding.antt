-- What a match holds.
use Rattle.std.proofs.Common.{◌≡◌, ℕ, ◌&&◌, Option, Some, None, refl, ◌∙◌, sym, eqb-true}
use Rattle.std.specs.Prelude.{◌==◌}
use Rattle.std.proofs.Math.Bool.{and-true}
use Rattle.of10_match.specs.Fields.{HeaderOf, MatchOf}
use Rattle.of10_match.specs.Matching.{holds, fits, fits_prefix, agree, agree_prefix, either, longer, both, overlaps}
use Rattle.of10_match.proofs.Twelve.{and_under, each-and, each-same}
use Rattle.of10_match.proofs.Prefixes.{eqb-flip, fits_prefix-longer}

-- the value that both ask, where they agree, fits what both fit
pub fits-either : (x y : Option ℕ) (v : ℕ) → (fits (either x y) v && agree x y) ≡ (fits x v && fits y v)
fits-either None y v = and-true (fits y v)
fits-either (Some w) None v = refl
fits-either (Some w) (Some u) v = and_under (w == v) (w == u) (u == v) (λ e. rw (eqb-true w v e) (eqb-flip v u))

-- the meet holds exactly what both hold
pub holds-both : (m n : MatchOf) (h : HeaderOf) → (holds (both m n) h && overlaps m n) ≡ (holds m h && holds n h)
holds-both m n h =
    each-and (fits (either m.in_port n.in_port) h.in_port) (fits (either m.dl_src n.dl_src) h.dl_src)
    (fits (either m.dl_dst n.dl_dst) h.dl_dst) (fits (either m.dl_vlan n.dl_vlan) h.dl_vlan)
    (fits (either m.dl_vlan_pcp n.dl_vlan_pcp) h.dl_vlan_pcp) (fits (either m.dl_type n.dl_type) h.dl_type)
    (fits (either m.nw_tos n.nw_tos) h.nw_tos) (fits (either m.nw_proto n.nw_proto) h.nw_proto)
    (fits_prefix (longer m.nw_src n.nw_src) h.nw_src) (fits_prefix (longer m.nw_dst n.nw_dst) h.nw_dst)
    (fits (either m.tp_src n.tp_src) h.tp_src) (fits (either m.tp_dst n.tp_dst) h.tp_dst)
    (agree m.in_port n.in_port) (agree m.dl_src n.dl_src) (agree m.dl_dst n.dl_dst) (agree m.dl_vlan n.dl_vlan)
    (agree m.dl_vlan_pcp n.dl_vlan_pcp) (agree m.dl_type n.dl_type) (agree m.nw_tos n.nw_tos)
    (agree m.nw_proto n.nw_proto) (agree_prefix m.nw_src n.nw_src) (agree_prefix m.nw_dst n.nw_dst)
    (agree m.tp_src n.tp_src) (agree m.tp_dst n.tp_dst)
    ∙ (each-same (fits-either m.in_port n.in_port h.in_port) (fits-either m.dl_src n.dl_src h.dl_src)
    (fits-either m.dl_dst n.dl_dst h.dl_dst) (fits-either m.dl_vlan n.dl_vlan h.dl_vlan)
    (fits-either m.dl_vlan_pcp n.dl_vlan_pcp h.dl_vlan_pcp) (fits-either m.dl_type n.dl_type h.dl_type)
    (fits-either m.nw_tos n.nw_tos h.nw_tos) (fits-either m.nw_proto n.nw_proto h.nw_proto)
    (fits_prefix-longer m.nw_src n.nw_src h.nw_src) (fits_prefix-longer m.nw_dst n.nw_dst h.nw_dst)
    (fits-either m.tp_src n.tp_src h.tp_src) (fits-either m.tp_dst n.tp_dst h.tp_dst)
    ∙ sym (each-and (fits m.in_port h.in_port) (fits m.dl_src h.dl_src) (fits m.dl_dst h.dl_dst)
    (fits m.dl_vlan h.dl_vlan) (fits m.dl_vlan_pcp h.dl_vlan_pcp) (fits m.dl_type h.dl_type)
    (fits m.nw_tos h.nw_tos) (fits m.nw_proto h.nw_proto) (fits_prefix m.nw_src h.nw_src)
    (fits_prefix m.nw_dst h.nw_dst) (fits m.tp_src h.tp_src) (fits m.tp_dst h.tp_dst)
    (fits n.in_port h.in_port) (fits n.dl_src h.dl_src) (fits n.dl_dst h.dl_dst) (fits n.dl_vlan h.dl_vlan)
    (fits n.dl_vlan_pcp h.dl_vlan_pcp) (fits n.dl_type h.dl_type) (fits n.nw_tos h.nw_tos)
    (fits n.nw_proto h.nw_proto) (fits_prefix n.nw_src h.nw_src) (fits_prefix n.nw_dst h.nw_dst)
    (fits n.tp_src h.tp_src) (fits n.tp_dst h.tp_dst)))
