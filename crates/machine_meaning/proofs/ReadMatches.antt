-- What is read of bytes as a match has its values in their ranges.
use Rattle.std.proofs.Common.{◌≡◌, ◌∙◌, ℕ, zero, suc, ◌-◌, ◌*◌, ◌/◌, ◌%◌, ◌<◌, ◌^◌, Bool, true, false, List, [], ◌∷◌}
use Rattle.std.proofs.Common.{◌++◌}
use Rattle.std.proofs.Common.{Option, Some, None, inl, inr, refl, ap, arith}
use Rattle.std.specs.Prelude.{◌==◌, ◌&&◌, IfSome, if◌then◌else◌, nat_lt}
use Rattle.std.specs.List.{slice_set}
use Rattle.std.proofs.Math.Nat.{div-mul-le_self, mod-lt, mul-mod_left}
use Rattle.std.proofs.lemmas.Bool.{eqb-true, ltb-true}
use Rattle.of10_actions.specs.Spelling.{IsBytes}
use Rattle.of10_match.specs.Normal.{has_ports, is_ip, is_ip_or_arp, is_tagged, kept}
use Rattle.of10_match.specs.OfpMatchFields.{fields_in}
use Rattle.of10_match.specs.Ranges.{IsMatch, IsPrefix, IsTos, IsVlan}
use Rattle.of10_match.specs.Wildcards.{is_clear, named, normal_of, prefix_by, vlan_of}
use Rattle.of10_match.proofs.Numbers.{number_at-fits}
use Rattle.of10_match.proofs.Values.{if_some_then}
use Rattle.of10_msgs.specs.Spelling.{clear_match}

vlan-in : (v : ℕ) → IsVlan (vlan_of v)
vlan-in v = by (v == 65535) refl
  where
    by : (b : Bool) → (v == 65535) ≡ b → IsVlan (if b then v else v % 4096)
    by true e = inr (eqb-true v 65535 e)
    by false e = inl (mod-lt v (omega arith))

prefix-in : (n addr : ℕ) → addr < 2 ^ 32 → IfSome (prefix_by n addr) IsPrefix
prefix-in n addr lt = by (nat_lt n 32) refl
  where
    by : (b : Bool) → nat_lt n 32 ≡ b
        → IfSome (if b then Some (record { addr = addr / 2 ^ n * 2 ^ n; len = 32 - n }) else None) IsPrefix
    by true e =
        let few : n < 32 = ltb-true n 32 e in
        let least = div-mul-le_self addr (2 ^ n) in
        let same : 32 - (32 - n) ≡ n = omega (arith, few) in (
          omega (arith, few),
          omega arith,
          omega (arith, least, lt),
          ap (λ k. addr / 2 ^ n * 2 ^ n % 2 ^ k) same ∙ mul-mod_left (addr / 2 ^ n) (2 ^ n),
        )
    by false e = tt

tos-in : (v : ℕ) → v < 2 ^ 8 → IsTos (v / 4 * 4)
tos-in v lt = (omega (arith, lt), mul-mod_left (v / 4) 4)

kept-in : {A : Type 0} (P : A → Type 0) (b : Bool) (o : Option A) → IfSome o P → IfSome (kept b o) P
kept-in P true o h = h
kept-in P false o h = tt

-- what is read of bytes
pub read-ranged : (bs : List ℕ) → IsBytes bs → IsMatch (normal_of bs)
read-ranged bs h =
    let w = fields_in bs in
    let m = named w in
    let ports = is_ip m.dl_type && has_ports m.nw_proto in
    let short : ℕ → Type 0 = λ v. v < 2 ^ 16 in
    let value : (i : ℕ) (P : ℕ → Type 0) (v : ℕ) → P v → IfSome _ P =
    λ i P v. if_some_then P (is_clear w.wildcards i) v in
    record {
      in_port = value 0 short w.in_port (number_at-fits 4 2 w.in_port bs h refl);
      dl_src = value 2 (λ v. v < 2 ^ 48) w.dl_src (number_at-fits 6 6 w.dl_src bs h refl);
      dl_dst = value 3 (λ v. v < 2 ^ 48) w.dl_dst (number_at-fits 12 6 w.dl_dst bs h refl);
      dl_vlan = value 1 IsVlan (vlan_of w.dl_vlan) (vlan-in w.dl_vlan);
      dl_vlan_pcp =
          kept-in (λ v. v < 8) (is_tagged m.dl_vlan) m.dl_vlan_pcp
          (value 20 (λ v. v < 8) (w.dl_vlan_pcp % 8) (mod-lt w.dl_vlan_pcp (omega arith)));
      dl_type = value 4 short w.dl_type (number_at-fits 22 2 w.dl_type bs h refl);
      nw_tos = kept-in IsTos (is_ip m.dl_type) m.nw_tos (value 21 IsTos (w.nw_tos / 4 * 4) (tos-in w.nw_tos (h 24)));
      nw_proto =
          kept-in (λ v. v < 2 ^ 8) (is_ip_or_arp m.dl_type) m.nw_proto (value 5 (λ v. v < 2 ^ 8) w.nw_proto (h 25));
      nw_src =
          kept-in IsPrefix (is_ip_or_arp m.dl_type) m.nw_src
          (prefix-in ((w.wildcards / 2 ^ 8) % 64) w.nw_src (number_at-fits 28 4 w.nw_src bs h refl));
      nw_dst =
          kept-in IsPrefix (is_ip_or_arp m.dl_type) m.nw_dst
          (prefix-in ((w.wildcards / 2 ^ 14) % 64) w.nw_dst (number_at-fits 32 4 w.nw_dst bs h refl));
      tp_src = kept-in short ports m.tp_src (value 6 short w.tp_src (number_at-fits 36 2 w.tp_src bs h refl));
      tp_dst = kept-in short ports m.tp_dst (value 7 short w.tp_dst (number_at-fits 38 2 w.tp_dst bs h refl));
    }

-- bytes of parts ----------------------------------------------------------------------------------------------------

pub after-part : (xs ys : List ℕ) → IsBytes (xs ++ ys) → IsBytes ys
after-part [] ys h = h
after-part (x ∷ xs) ys h = after-part xs ys (λ i. h (suc i))

pub front-part : (xs ys : List ℕ) → IsBytes (xs ++ ys) → IsBytes xs
front-part [] ys h i = omega arith
front-part (x ∷ xs) ys h zero = h 0
front-part (x ∷ xs) ys h (suc i) = front-part xs ys (λ k. h (suc k)) i

set-zero : (k : ℕ) (xs : List ℕ) → IsBytes xs → IsBytes (slice_set xs k 0)
set-zero k [] h i = omega arith
set-zero zero (x ∷ xs) h zero = omega arith
set-zero zero (x ∷ xs) h (suc i) = h (suc i)
set-zero (suc k) (x ∷ xs) h zero = h 0
set-zero (suc k) (x ∷ xs) h (suc i) = set-zero k xs (λ j. h (suc j)) i

-- a match without its padding
pub clear-bytes : (m : List ℕ) → IsBytes m → IsBytes (clear_match m)
clear-bytes m h =
    let one = set-zero 21 m h in
    let two = set-zero 26 (slice_set m 21 0) one in
    set-zero 27 (slice_set (slice_set m 21 0) 26 0) two
