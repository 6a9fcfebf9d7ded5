-- A match meets itself in itself.
use Rattle.std.proofs.Common.{◌≡◌, ℕ, Bool, true, false, Option, Some, None, refl, ◌∙◌, ap, eq-eqb}
use Rattle.std.specs.Prelude.{◌==◌, if◌then◌else◌}
use Rattle.of10_match.specs.Fields.{MatchOf}
use Rattle.of10_match.specs.Matching.{agree, agree_prefix, either, longer, is_longer, top_bits, overlaps, both, meet}
use Rattle.of10_match.specs.declared.header.Prefix.{Prefix}
use Rattle.of10_match.proofs.FieldTests.{overlaps-intro}

agree_self : (x : Option ℕ) → agree x x ≡ true
agree_self None = refl
agree_self (Some v) = eq-eqb v v refl

either_self : (x : Option ℕ) → either x x ≡ x
either_self None = refl
either_self (Some v) = refl

agree_prefix-cases : (p : Prefix) (b : Bool)
    → (if b then (top_bits p.len p.addr == top_bits p.len p.addr) else (top_bits p.len p.addr == top_bits p.len p.addr))
    ≡ true
agree_prefix-cases p true = eq-eqb (top_bits p.len p.addr) (top_bits p.len p.addr) refl
agree_prefix-cases p false = eq-eqb (top_bits p.len p.addr) (top_bits p.len p.addr) refl

agree_prefix_self : (x : Option Prefix) → agree_prefix x x ≡ true
agree_prefix_self None = refl
agree_prefix_self (Some p) = agree_prefix-cases p (is_longer p p)

longer-cases : (p : Prefix) (b : Bool) → (if b then Some p else Some p) ≡ Some p
longer-cases p true = refl
longer-cases p false = refl

longer_self : (x : Option Prefix) → longer x x ≡ x
longer_self None = refl
longer_self (Some p) = longer-cases p (is_longer p p)

pub overlaps_self : (m : MatchOf) → overlaps m m ≡ true
overlaps_self m = overlaps-intro m m (record {
  in_port = agree_self m.in_port;
  dl_src = agree_self m.dl_src;
  dl_dst = agree_self m.dl_dst;
  dl_vlan = agree_self m.dl_vlan;
  dl_vlan_pcp = agree_self m.dl_vlan_pcp;
  dl_type = agree_self m.dl_type;
  nw_tos = agree_self m.nw_tos;
  nw_proto = agree_self m.nw_proto;
  nw_src = agree_prefix_self m.nw_src;
  nw_dst = agree_prefix_self m.nw_dst;
  tp_src = agree_self m.tp_src;
  tp_dst = agree_self m.tp_dst;
})

both_self : (m : MatchOf) → both m m ≡ m
both_self m = λ i. record {
  in_port = either_self m.in_port i;
  dl_src = either_self m.dl_src i;
  dl_dst = either_self m.dl_dst i;
  dl_vlan = either_self m.dl_vlan i;
  dl_vlan_pcp = either_self m.dl_vlan_pcp i;
  dl_type = either_self m.dl_type i;
  nw_tos = either_self m.nw_tos i;
  nw_proto = either_self m.nw_proto i;
  nw_src = longer_self m.nw_src i;
  nw_dst = longer_self m.nw_dst i;
  tp_src = either_self m.tp_src i;
  tp_dst = either_self m.tp_dst i;
}

pub meet_self : (m : MatchOf) → meet m m ≡ Some m
meet_self m =
    ap (λ (b : Bool). if b then Some (both m m) else None) (overlaps_self m)
    ∙ ap (λ (r : MatchOf). Some r) (both_self m)
