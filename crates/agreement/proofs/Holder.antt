-- Each match holds some header.
use Rattle.std.proofs.Common.{◌≡◌, ℕ, true, Option, Some, None, refl, eq-eqb}
use Rattle.std.specs.Prelude.{IfSome, List, unwrap_or}
use Rattle.of10_match.specs.Fields.{HeaderOf, MatchOf}
use Rattle.of10_match.specs.Matching.{fits, fits_prefix, holds, top_bits}
use Rattle.of10_match.specs.declared.header.Prefix.{Prefix}
use Rattle.of10_match.proofs.FieldTests.{holds-intro}
use Rattle.policy_meaning.specs.Leaf.{has_port}
use Rattle.agreement.specs.Premises.{NamesOne}

address : Option Prefix → ℕ
address None = 0
address (Some p) = p.addr

-- the header of what the match names, of a port where it names none, and of zeros
pub holder : ℕ → MatchOf → HeaderOf
holder q m = record {
  in_port = unwrap_or m.in_port q;
  dl_src = unwrap_or m.dl_src 0;
  dl_dst = unwrap_or m.dl_dst 0;
  dl_vlan = unwrap_or m.dl_vlan 0;
  dl_vlan_pcp = unwrap_or m.dl_vlan_pcp 0;
  dl_type = unwrap_or m.dl_type 0;
  nw_tos = unwrap_or m.nw_tos 0;
  nw_proto = unwrap_or m.nw_proto 0;
  nw_src = address m.nw_src;
  nw_dst = address m.nw_dst;
  tp_src = unwrap_or m.tp_src 0;
  tp_dst = unwrap_or m.tp_dst 0;
}

fits-named : (o : Option ℕ) (d : ℕ) → fits o (unwrap_or o d) ≡ true
fits-named None d = refl
fits-named (Some v) d = eq-eqb v v refl

fits-address : (o : Option Prefix) → fits_prefix o (address o) ≡ true
unfolding address
fits-address None = refl
fits-address (Some p) = eq-eqb (top_bits p.len p.addr) (top_bits p.len p.addr) refl

pub holder-held : (q : ℕ) (m : MatchOf) → holds m (holder q m) ≡ true
unfolding holder
holder-held q m = holds-intro m (holder q m) (record {
  in_port = fits-named m.in_port q;
  dl_src = fits-named m.dl_src 0;
  dl_dst = fits-named m.dl_dst 0;
  dl_vlan = fits-named m.dl_vlan 0;
  dl_vlan_pcp = fits-named m.dl_vlan_pcp 0;
  dl_type = fits-named m.dl_type 0;
  nw_tos = fits-named m.nw_tos 0;
  nw_proto = fits-named m.nw_proto 0;
  nw_src = fits-address m.nw_src;
  nw_dst = fits-address m.nw_dst;
  tp_src = fits-named m.tp_src 0;
  tp_dst = fits-named m.tp_dst 0;
})

pub holder-port : (q : ℕ) (m : MatchOf) (p : ℕ) → m.in_port ≡ Some p → (holder q m).in_port ≡ p
unfolding holder
holder-port q m p e = rw e refl

pub holder-tag : (q : ℕ) (m : MatchOf) (t : ℕ) → m.dl_vlan ≡ Some t → (holder q m).dl_vlan ≡ t
unfolding holder
holder-tag q m t e = rw e refl

one-port : (ports : List ℕ) (q : ℕ) (o : Option ℕ) → has_port ports q ≡ true → IfSome o (λ p. has_port ports p ≡ true)
    → has_port ports (unwrap_or o q) ≡ true
one-port ports q None e n = e
one-port ports q (Some p) e n = n

-- it comes by one of some ports, where the match names one of them
pub holder-ports : (ports : List ℕ) (q : ℕ) (m : MatchOf) → has_port ports q ≡ true → NamesOne ports m
    → has_port ports (holder q m).in_port ≡ true
unfolding holder
holder-ports ports q m e n = one-port ports q m.in_port e n
