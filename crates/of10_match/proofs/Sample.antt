-- Headers that a match holds.
use Rattle.std.proofs.Common.{◌≡◌, ◌<◌, ◌^◌, ℕ, true, Option, Some, None, refl, arith, inl, eq-eqb}
use Rattle.std.specs.Prelude.{IfSome, unwrap_or}
use Rattle.of10_match.specs.Fields.{HeaderOf, MatchOf}
use Rattle.of10_match.specs.Matching.{fits, fits_prefix}
use Rattle.of10_match.specs.Ranges.{IsHeader, IsMatch, IsVlan, IsTos, IsPrefix}
use Rattle.of10_match.specs.declared.header.Prefix.{Prefix}
use Rattle.of10_match.proofs.FieldTests.{Fits}

-- the values that a match asks for; where it asks for none, those of another header, and addresses of prefixes as they
-- are picked
abbrev pub sample : (Option Prefix → ℕ) → HeaderOf → MatchOf → HeaderOf
sample address d m = record {
  in_port = unwrap_or m.in_port d.in_port;
  dl_src = unwrap_or m.dl_src d.dl_src;
  dl_dst = unwrap_or m.dl_dst d.dl_dst;
  dl_vlan = unwrap_or m.dl_vlan d.dl_vlan;
  dl_vlan_pcp = unwrap_or m.dl_vlan_pcp d.dl_vlan_pcp;
  dl_type = unwrap_or m.dl_type d.dl_type;
  nw_tos = unwrap_or m.nw_tos d.nw_tos;
  nw_proto = unwrap_or m.nw_proto d.nw_proto;
  nw_src = address m.nw_src;
  nw_dst = address m.nw_dst;
  tp_src = unwrap_or m.tp_src d.tp_src;
  tp_dst = unwrap_or m.tp_dst d.tp_dst;
}

-- an address is picked within each prefix
pub record Picks (address : Option Prefix → ℕ) : Type 0 where
  pub within : (o : Option Prefix) → IfSome o IsPrefix → fits_prefix o (address o) ≡ true
  pub in_range : (o : Option Prefix) → IfSome o IsPrefix → address o < 2 ^ 32

fits-value : (o : Option ℕ) (d : ℕ) → fits o (unwrap_or o d) ≡ true
fits-value None d = refl
fits-value (Some v) d = eq-eqb v v refl

value_in : (P : ℕ → Type 0) (o : Option ℕ) (d : ℕ) → P d → IfSome o P → P (unwrap_or o d)
value_in P None d z p = z
value_in P (Some v) d z p = p

pub Fits-sample : (address : Option Prefix → ℕ) (d : HeaderOf) (m : MatchOf) → Picks address → IsMatch m
    → Fits m (sample address d m)
Fits-sample address d m picks p = record {
  in_port = fits-value m.in_port d.in_port;
  dl_src = fits-value m.dl_src d.dl_src;
  dl_dst = fits-value m.dl_dst d.dl_dst;
  dl_vlan = fits-value m.dl_vlan d.dl_vlan;
  dl_vlan_pcp = fits-value m.dl_vlan_pcp d.dl_vlan_pcp;
  dl_type = fits-value m.dl_type d.dl_type;
  nw_tos = fits-value m.nw_tos d.nw_tos;
  nw_proto = fits-value m.nw_proto d.nw_proto;
  nw_src = picks.within m.nw_src p.nw_src;
  nw_dst = picks.within m.nw_dst p.nw_dst;
  tp_src = fits-value m.tp_src d.tp_src;
  tp_dst = fits-value m.tp_dst d.tp_dst;
}

pub IsHeader-sample : (address : Option Prefix → ℕ) (d : HeaderOf) (m : MatchOf) → Picks address → IsHeader d
    → IsMatch m → IsHeader (sample address d m)
IsHeader-sample address d m picks z p = record {
  in_port = value_in (λ v. v < 2 ^ 16) m.in_port d.in_port z.in_port p.in_port;
  dl_src = value_in (λ v. v < 2 ^ 48) m.dl_src d.dl_src z.dl_src p.dl_src;
  dl_dst = value_in (λ v. v < 2 ^ 48) m.dl_dst d.dl_dst z.dl_dst p.dl_dst;
  dl_vlan = value_in IsVlan m.dl_vlan d.dl_vlan z.dl_vlan p.dl_vlan;
  dl_vlan_pcp = value_in (λ v. v < 8) m.dl_vlan_pcp d.dl_vlan_pcp z.dl_vlan_pcp p.dl_vlan_pcp;
  dl_type = value_in (λ v. v < 2 ^ 16) m.dl_type d.dl_type z.dl_type p.dl_type;
  nw_tos = value_in IsTos m.nw_tos d.nw_tos z.nw_tos p.nw_tos;
  nw_proto = value_in (λ v. v < 2 ^ 8) m.nw_proto d.nw_proto z.nw_proto p.nw_proto;
  nw_src = picks.in_range m.nw_src p.nw_src;
  nw_dst = picks.in_range m.nw_dst p.nw_dst;
  tp_src = value_in (λ v. v < 2 ^ 16) m.tp_src d.tp_src z.tp_src p.tp_src;
  tp_dst = value_in (λ v. v < 2 ^ 16) m.tp_dst d.tp_dst z.tp_dst p.tp_dst;
}

-- all zeros
abbrev pub zeros : HeaderOf
zeros = record {
  in_port = 0;
  dl_src = 0;
  dl_dst = 0;
  dl_vlan = 0;
  dl_vlan_pcp = 0;
  dl_type = 0;
  nw_tos = 0;
  nw_proto = 0;
  nw_src = 0;
  nw_dst = 0;
  tp_src = 0;
  tp_dst = 0;
}

pub IsHeader-zeros : IsHeader zeros
IsHeader-zeros = record {
  in_port = omega arith;
  dl_src = omega arith;
  dl_dst = omega arith;
  dl_vlan = inl (omega arith);
  dl_vlan_pcp = omega arith;
  dl_type = omega arith;
  nw_tos = (omega arith, refl);
  nw_proto = omega arith;
  nw_src = omega arith;
  nw_dst = omega arith;
  tp_src = omega arith;
  tp_dst = omega arith;
}

-- other numbers than zero
abbrev pub ones : HeaderOf
ones = record {
  in_port = 1;
  dl_src = 1;
  dl_dst = 1;
  dl_vlan = 1;
  dl_vlan_pcp = 1;
  dl_type = 1;
  nw_tos = 4;
  nw_proto = 1;
  nw_src = 1;
  nw_dst = 1;
  tp_src = 1;
  tp_dst = 1;
}

pub IsHeader-ones : IsHeader ones
IsHeader-ones = record {
  in_port = omega arith;
  dl_src = omega arith;
  dl_dst = omega arith;
  dl_vlan = inl (omega arith);
  dl_vlan_pcp = omega arith;
  dl_type = omega arith;
  nw_tos = (omega arith, refl);
  nw_proto = omega arith;
  nw_src = omega arith;
  nw_dst = omega arith;
  tp_src = omega arith;
  tp_dst = omega arith;
}
