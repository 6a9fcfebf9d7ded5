-- Reading what was written of a match gives the match.
use Rattle.std.proofs.Common.{◌≡◌, ◌<◌, ◌-◌, ◌*◌, ◌/◌, ◌%◌, ◌^◌, ℕ, Bool, true, false, ◌&&◌, List, Option, Some, None}
use Rattle.std.proofs.Common.{refl, ◌∙◌, ap, sym, arith, inl, inr}
use Rattle.std.specs.Bool.{then_some}
use Rattle.std.specs.Prelude.{◌==◌, IfSome, OnSome, unwrap_or, nat_lt, if◌then◌else◌}
use Rattle.std.proofs.Math.Nat.{div-add-mod', mod-eq_of_lt}
use Rattle.of10_match.specs.Fields.{MatchOf}
use Rattle.of10_match.specs.Normal.{IsNormal, kept, normal, is_ip, is_ip_or_arp, is_tagged, has_ports}
use Rattle.of10_match.specs.OfpMatchFields.{FitsBytes, fields_in}
use Rattle.of10_match.specs.Ranges.{IsMatch, IsVlan, IsTos, IsPrefix}
use Rattle.of10_match.specs.Wildcards.{is_clear, prefix_by, vlan_of, named, normal_of, open_bits, address_of}
use Rattle.of10_match.specs.Wildcards.{wildcards_of, written, match_bytes}
use Rattle.of10_match.specs.declared.header.Prefix.{Prefix}
use Rattle.of10_match.specs.declared.ofp_match.OfpMatch.{OfpMatch}
use Rattle.of10_match.proofs.Commuting.{same_prefix}
use Rattle.of10_match.proofs.Digits.{digit, digits_of, wildcards_of-lt}
use Rattle.of10_match.proofs.FieldBytes.{fields_in-bytes_of}

-- a field is named where its digit is zero
value_back : (n : ℕ) (o : Option ℕ) → n ≡ digit o → then_some (n == 0) (unwrap_or o 0) ≡ o
value_back n None e = ap (λ k. then_some (k == 0) 0) e
value_back n (Some v) e = ap (λ k. then_some (k == 0) v) e

-- the bits that count are all bits of a value in range
counted : (P : ℕ → Type 0) (f : ℕ → ℕ) → f 0 ≡ 0 → ((v : ℕ) → P v → f v ≡ v) → (o : Option ℕ) → IfSome o P
    → f (unwrap_or o 0) ≡ unwrap_or o 0
counted P f zero_same same None p = zero_same
counted P f zero_same same (Some v) p = same v p

vlan_cases : (v : ℕ) → v < 4096 → (b : Bool) → (if b then v else v % 4096) ≡ v
vlan_cases v small true = refl
vlan_cases v small false = mod-eq_of_lt small

vlan_same : (v : ℕ) → IsVlan v → vlan_of v ≡ v
vlan_same v (inl small) = vlan_cases v small (v == 65535)
vlan_same v (inr none) = ap vlan_of none ∙ sym none

tos_same : (v : ℕ) → IsTos v → v / 4 * 4 ≡ v
tos_same v t = let multiple = t.1 in omega arith

prefix_back : (n : ℕ) (o : Option Prefix) → IfSome o IsPrefix → n ≡ open_bits o → prefix_by n (address_of o) ≡ o
prefix_back n None p e = ap (λ k. prefix_by k 0) e
prefix_back n (Some q) p e =
    let k = 32 - q.len in
    let r : Prefix = record { addr = q.addr / 2 ^ k * 2 ^ k; len = 32 - k } in
    let fewer : nat_lt k 32 ≡ true = grind arith in
    let whole : q.addr / 2 ^ k * 2 ^ k ≡ q.addr = let split = div-add-mod' q.addr (2 ^ k) in let rest = p.3 in
    omega arith in
    let length : 32 - k ≡ q.len = omega arith in
    let counted : prefix_by n q.addr ≡ prefix_by k q.addr = ap (λ n. prefix_by n q.addr) e in
    let some : prefix_by k q.addr ≡ Some r = ap (λ b. if b then Some r else None) fewer in
    let same : Some r ≡ Some q = ap (λ (s : Prefix). Some s) (same_prefix r q whole length) in
    counted ∙ (some ∙ same)

pub named-written : (m : MatchOf) → IsMatch m → named (written m) ≡ m
named-written m p =
    let d = digits_of m in
    let w = wildcards_of m in
    λ i. record {
      in_port = value_back ((w / 2 ^ 0) % 2) m.in_port d.in_port i;
      dl_src = value_back ((w / 2 ^ 2) % 2) m.dl_src d.dl_src i;
      dl_dst = value_back ((w / 2 ^ 3) % 2) m.dl_dst d.dl_dst i;
      dl_vlan = (ap (then_some (is_clear w 1)) (counted IsVlan vlan_of refl vlan_same m.dl_vlan p.dl_vlan)
          ∙ value_back ((w / 2 ^ 1) % 2) m.dl_vlan d.dl_vlan) i;
      dl_vlan_pcp =
          (ap (then_some (is_clear w 20))
          (counted (λ v. v < 8) (λ v. v % 8) refl (λ v small. mod-eq_of_lt small) m.dl_vlan_pcp p.dl_vlan_pcp)
          ∙ value_back ((w / 2 ^ 20) % 2) m.dl_vlan_pcp d.dl_vlan_pcp) i;
      dl_type = value_back ((w / 2 ^ 4) % 2) m.dl_type d.dl_type i;
      nw_tos = (ap (then_some (is_clear w 21)) (counted IsTos (λ v. v / 4 * 4) refl tos_same m.nw_tos p.nw_tos)
          ∙ value_back ((w / 2 ^ 21) % 2) m.nw_tos d.nw_tos) i;
      nw_proto = value_back ((w / 2 ^ 5) % 2) m.nw_proto d.nw_proto i;
      nw_src = prefix_back ((w / 2 ^ 8) % 64) m.nw_src p.nw_src d.nw_src i;
      nw_dst = prefix_back ((w / 2 ^ 14) % 64) m.nw_dst p.nw_dst d.nw_dst i;
      tp_src = value_back ((w / 2 ^ 6) % 2) m.tp_src d.tp_src i;
      tp_dst = value_back ((w / 2 ^ 7) % 2) m.tp_dst d.tp_dst i;
    }

fits_byte : (n : ℕ) (o : Option ℕ) → 0 < n → IfSome o (λ v. v < n) → unwrap_or o 0 < n
fits_byte n None positive p = positive
fits_byte n (Some v) positive p = p

vlan_fits : (o : Option ℕ) → IfSome o IsVlan → unwrap_or o 0 < 2 ^ 16
vlan_fits None p = omega arith
vlan_fits (Some v) (inl small) = omega arith
vlan_fits (Some v) (inr none) = omega arith

address_fits : (o : Option Prefix) → IfSome o IsPrefix → address_of o < 2 ^ 32
address_fits None p = omega arith
address_fits (Some q) p = p.2

FitsBytes-written : (m : MatchOf) → IsMatch m → FitsBytes (written m)
FitsBytes-written m p = record {
  wildcards = let small = wildcards_of-lt m in omega arith;
  in_port = fits_byte (2 ^ 16) m.in_port (omega arith) p.in_port;
  dl_src = fits_byte (2 ^ 48) m.dl_src (omega arith) p.dl_src;
  dl_dst = fits_byte (2 ^ 48) m.dl_dst (omega arith) p.dl_dst;
  dl_vlan = vlan_fits m.dl_vlan p.dl_vlan;
  dl_type = fits_byte (2 ^ 16) m.dl_type (omega arith) p.dl_type;
  nw_src = address_fits m.nw_src p.nw_src;
  nw_dst = address_fits m.nw_dst p.nw_dst;
  tp_src = fits_byte (2 ^ 16) m.tp_src (omega arith) p.tp_src;
  tp_dst = fits_byte (2 ^ 16) m.tp_dst (omega arith) p.tp_dst;
}

pub fields_in-match_bytes : (m : MatchOf) → IsMatch m → fields_in (match_bytes m) ≡ written m
fields_in-match_bytes m p = fields_in-bytes_of (written m) (FitsBytes-written m p)

-- whatever the match, its bytes name its fields
pub named-match_bytes : (m : MatchOf) → IsMatch m → named (fields_in (match_bytes m)) ≡ m
named-match_bytes m p = ap named (fields_in-match_bytes m p) ∙ named-written m p

kept_same : {A : Type 0} (b : Bool) (o : Option A) → OnSome o (b ≡ true) → kept b o ≡ o
kept_same true o e = refl
kept_same false None e = refl
kept_same false (Some x) e = cc

pub normal_same : (m : MatchOf) → IsNormal m → normal m ≡ m
normal_same m p = λ i. record {
  in_port = m.in_port;
  dl_src = m.dl_src;
  dl_dst = m.dl_dst;
  dl_vlan = m.dl_vlan;
  dl_vlan_pcp = kept_same (is_tagged m.dl_vlan) m.dl_vlan_pcp p.dl_vlan_pcp i;
  dl_type = m.dl_type;
  nw_tos = kept_same (is_ip m.dl_type) m.nw_tos p.nw_tos i;
  nw_proto = kept_same (is_ip_or_arp m.dl_type) m.nw_proto p.nw_proto i;
  nw_src = kept_same (is_ip_or_arp m.dl_type) m.nw_src p.nw_src i;
  nw_dst = kept_same (is_ip_or_arp m.dl_type) m.nw_dst p.nw_dst i;
  tp_src = kept_same (is_ip m.dl_type && has_ports m.nw_proto) m.tp_src p.tp_src i;
  tp_dst = kept_same (is_ip m.dl_type && has_ports m.nw_proto) m.tp_dst p.tp_dst i;
}

-- a normal match is read of its bytes
pub normal_of-match_bytes : (m : MatchOf) → IsMatch m → IsNormal m → normal_of (match_bytes m) ≡ m
normal_of-match_bytes m p q = ap normal (named-match_bytes m p) ∙ normal_same m q

-- two matches with the same bytes are the same
pub match_bytes-injective : (m n : MatchOf) → IsMatch m → IsMatch n → match_bytes m ≡ match_bytes n → m ≡ n
match_bytes-injective m n p q e =
    sym (named-match_bytes m p) ∙ (ap (λ bytes. named (fields_in bytes)) e ∙ named-match_bytes n q)

-- the same of bytes that are known to be those of a match
pub bytes_wildcards : (bytes : List ℕ) (m : MatchOf) → IsMatch m → bytes ≡ match_bytes m
    → (fields_in bytes).wildcards ≡ wildcards_of m
bytes_wildcards bytes m p e =
    ap (λ bs. (fields_in bs).wildcards) e ∙ ap (λ (w : OfpMatch). w.wildcards) (fields_in-match_bytes m p)

pub bytes_name : (bytes : List ℕ) (m : MatchOf) → IsMatch m → bytes ≡ match_bytes m → named (fields_in bytes) ≡ m
bytes_name bytes m p e = ap (λ bs. named (fields_in bs)) e ∙ named-match_bytes m p

pub bytes_read : (bytes : List ℕ) (m : MatchOf) → IsMatch m → bytes ≡ match_bytes m → IsNormal m → normal_of bytes ≡ m
bytes_read bytes m p e q = ap normal_of e ∙ normal_of-match_bytes m p q
