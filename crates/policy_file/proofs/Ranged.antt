-- The values that are read of the fields of a box are in their ranges.
use Rattle.std.proofs.Common.{◌≡◌, sym, ap, subst, refl, ℕ, ◌+◌, ◌-◌, ◌*◌, ◌%◌, ◌^◌, ◌≤◌, ◌<◌, ◌==◌, ◌||◌, Bool, true}
use Rattle.std.proofs.Common.{false, List, Option, Some, None, IfSome, codes, arith, eqb-true, inl, inr}
use Rattle.std.specs.Prelude.{option_and_then, option_map, if◌then◌else◌, nat_le, slice_index}
use Rattle.std.proofs.lemmas.Bool.Decides.{nat_tests}
use Rattle.toml.specs.Data.{Data, Members, as_str, get_member}
use Rattle.of10_match.specs.Fields.{MatchOf}
use Rattle.of10_match.specs.Matching.{everything}
use Rattle.of10_match.specs.Ranges.{IsMatch, IsPrefix, IsTos, IsVlan}
use Rattle.of10_match.specs.declared.header.Prefix.{Prefix}
use Rattle.policy_file.specs.Regions.{at, ether, ether_text, fields_named, half_at, if_there, ip_text, is_ether_form}
use Rattle.policy_file.specs.Regions.{link_fields, next_octet, pair_at, pair_of, prefix, prefix_if, prefix_of}
use Rattle.policy_file.specs.Regions.{prefix_text, tos, vlan, with_network_fields, with_transport_fields}
use Rattle.policy_file.specs.Values.{decimal_of, decimal_within, digit, number, split_at_first, within}
use Rattle.policy_file.proofs.Kept.{IsWithin, number_within, within_bounds}
use Rattle.policy_file.proofs.Options.{mapped, through}

-- numbers -----------------------------------------------------------------------------------------------------------

byte : (d : Data) (n : ℕ) → number 0 255 d ≡ Some n → n < 2 ^ 8
byte d n e = let k = (number_within 0 255 d n e).greatest_is in omega (arith, k)

two_bytes : (d : Data) (n : ℕ) → number 0 65535 d ≡ Some n → n < 2 ^ 16
two_bytes d n e = let k = (number_within 0 65535 d n e).greatest_is in omega (arith, k)

-- a number that passes a test
if_true : (b : Bool) (n m : ℕ) → (if b then Some n else None) ≡ Some m → (b ≡ true) × (n ≡ m)
if_true true n m e = (refl, cc)
if_true false n m e = absurd (cc)

vlan_is : (n : ℕ) (a b : Bool) → nat_le n 4095 ≡ a → (n == 65535) ≡ b → (a || b) ≡ true → IsVlan n
vlan_is n true b t u e = inl (grind (arith, nat_tests))
vlan_is n false true t u e = inr (eqb-true n 65535 u)
vlan_is n false false t u e = absurd (cc)

vlan_in_range : (d : Data) (n : ℕ) → vlan d ≡ Some n → IsVlan n
vlan_in_range d n e =
    let a = through _ (number 0 65535 d) n e in
    let t = if_true (nat_le a.via 4095 || (a.via == 65535)) a.via n a.second in
    subst IsVlan t.1 (vlan_is a.via (nat_le a.via 4095) (a.via == 65535) refl refl t.0)

tos_in_range : (d : Data) (n : ℕ) → tos d ≡ Some n → IsTos n
tos_in_range d n e =
    let a = through _ (number 0 255 d) n e in
    let t = if_true (a.via % 4 == 0) a.via n a.second in
    subst IsTos t.1 (byte d a.via a.first, eqb-true (a.via % 4) 0 t.0)

-- addresses of Ethernet -----------------------------------------------------------------------------------------------

digit_in_range : (b n : ℕ) → digit b ≡ Some n → n < 16
digit_in_range b n e = grind (arith, nat_tests)

pair_in_range : (a b n : ℕ) → pair_of a b ≡ Some n → n < 256
pair_in_range a b n e =
    let high = through _ (digit a) n e in
    let low = mapped _ (digit b) n high.second in
    let h = digit_in_range a high.via high.first in
    let l = digit_in_range b low.via low.first in
    let is = low.second in
    omega (arith, h, l, is)

half_in_range : (s : List ℕ) (i n : ℕ) → half_at s i ≡ Some n → n < 2 ^ 24
half_in_range s i n e =
    let a = through _ (pair_at s i) n e in
    let b = through _ (pair_at s (i + 3)) n a.second in
    let c = mapped _ (pair_at s (i + 6)) n b.second in
    let x = pair_in_range (slice_index s i) (slice_index s (i + 1)) a.via a.first in
    let y = pair_in_range (slice_index s (i + 3)) (slice_index s (i + 3 + 1)) b.via b.first in
    let z = pair_in_range (slice_index s (i + 6)) (slice_index s (i + 6 + 1)) c.via c.first in
    let is = c.second in
    omega (arith, x, y, z, is)

ether_if : (s : List ℕ) (n : ℕ) (b : Bool)
    → (if b then option_and_then (λ high. option_map (λ low. high * 16777216 + low) (half_at s 9)) (half_at s 0)
    else None) ≡ Some n
    → n < 2 ^ 48
ether_if s n false e = absurd (cc)
ether_if s n true e =
    let high = through _ (half_at s 0) n e in
    let low = mapped _ (half_at s 9) n high.second in
    let h = half_in_range s 0 high.via high.first in
    let l = half_in_range s 9 low.via low.first in
    let is = low.second in
    omega (arith, h, l, is)

ether_in_range : (d : Data) (n : ℕ) → ether d ≡ Some n → n < 2 ^ 48
ether_in_range d n e = let t = through ether_text (as_str d) n e in ether_if t.via n (is_ether_form t.via) t.second

-- prefixes ------------------------------------------------------------------------------------------------------------

decimal_in_range : (least greatest : ℕ) (s : List ℕ) (n : ℕ) → decimal_within least greatest s ≡ Some n
    → IsWithin least greatest n
decimal_in_range least greatest s n e =
    let read = through (within least greatest) (decimal_of s) n e in
    within_bounds least greatest read.via n read.second

octet_in_range : (s : List ℕ) (o : ℕ × List ℕ) → next_octet s ≡ Some o → o.0 < 256
octet_in_range s o e =
    let cut = through _ (split_at_first 46 s) o e in
    let read = mapped _ (decimal_within 0 255 cut.via.0) o cut.second in
    let k = (decimal_in_range 0 255 cut.via.0 read.via read.first).greatest_is in
    subst (λ (x : ℕ × List ℕ). x.0 < 256) read.second (omega (arith, k))

address_in_range : (s : List ℕ) (n : ℕ) → ip_text s ≡ Some n → n < 2 ^ 32
address_in_range s n e =
    let a = through _ (next_octet s) n e in
    let b = through _ (next_octet a.via.1) n a.second in
    let c = through _ (next_octet b.via.1) n b.second in
    let d = mapped _ (decimal_within 0 255 c.via.1) n c.second in
    let x = octet_in_range s a.via a.first in
    let y = octet_in_range a.via.1 b.via b.first in
    let z = octet_in_range b.via.1 c.via c.first in
    let w = (decimal_in_range 0 255 c.via.1 d.via d.first).greatest_is in
    let is = d.second in
    omega (arith, x, y, z, w, is)

prefix_if_is : (addr len : ℕ) (p : Prefix) (b : Bool) → (addr % (2 ^ (32 - len)) == 0) ≡ b → addr < 2 ^ 32
    → IsWithin 1 32 len → (if b then Some (prefix_of addr len) else None) ≡ Some p → IsPrefix p
prefix_if_is addr len p false t a k e = absurd (cc)
prefix_if_is addr len p true t a k e =
    let same : prefix_of addr len ≡ p = cc in
    let least = k.least_is in
    subst IsPrefix same (omega (arith, least), k.greatest_is, a, eqb-true (addr % (2 ^ (32 - len))) 0 t)

prefix_text_is : (s : List ℕ) (p : Prefix) → prefix_text s ≡ Some p → IsPrefix p
prefix_text_is s p e =
    let cut = through _ (split_at_first 47 s) p e in
    let addr = through _ (ip_text cut.via.0) p cut.second in
    let len = through (prefix_if addr.via) (decimal_within 1 32 cut.via.1) p addr.second in
    prefix_if_is addr.via len.via p (addr.via % (2 ^ (32 - len.via)) == 0) refl
    (address_in_range cut.via.0 addr.via addr.first)
    (decimal_in_range 1 32 cut.via.1 len.via len.first) len.second

prefix_in_range : (d : Data) (p : Prefix) → prefix d ≡ Some p → IsPrefix p
prefix_in_range d p e = let t = through prefix_text (as_str d) p e in prefix_text_is t.via p t.second

-- fields --------------------------------------------------------------------------------------------------------------

read_in_range : {A : Type 0} (read : Data → Option A) (P : A → Type 0) → ((d : Data) (x : A) → read d ≡ Some x → P x)
    → (d : Data) (y : Option A) → option_map Some (read d) ≡ Some y → IfSome y P
read_in_range read P f d y e =
    let x = mapped Some (read d) y e in
    subst (λ (z : Option _). IfSome z P) x.second (f d x.via x.first)

there_in_range : {A : Type 0} (read : Data → Option A) (P : A → Type 0) → ((d : Data) (x : A) → read d ≡ Some x → P x)
    → (o : Option Data) (y : Option A) → if_there read o ≡ Some y → IfSome y P
there_in_range read P f None None e = tt
there_in_range read P f None (Some x) e = absurd (cc)
there_in_range read P f (Some d) y e = read_in_range read P f d y e

at_in_range : {A : Type 0} (read : Data → Option A) (P : A → Type 0) → ((d : Data) (x : A) → read d ≡ Some x → P x)
    → (key : List ℕ) (ms : Members) (y : Option A) → at read key ms ≡ Some y → IfSome y P
at_in_range read P f key ms y e = there_in_range read P f (get_member key ms) y e

link_in_range : (ms : Members) (m : MatchOf) → link_fields ms ≡ Some m → IsMatch m
link_in_range ms m e =
    let src = through _ (at ether (codes "dl_src") ms) m e in
    let dst = through _ (at ether (codes "dl_dst") ms) m src.second in
    let tag = through _ (at vlan (codes "dl_vlan") ms) m dst.second in
    let kind = mapped _ (at (number 0 65535) (codes "dl_type") ms) m tag.second in
    subst IsMatch kind.second (record {
      in_port = tt;
      dl_src = at_in_range ether (λ v. v < 2 ^ 48) ether_in_range (codes "dl_src") ms src.via src.first;
      dl_dst = at_in_range ether (λ v. v < 2 ^ 48) ether_in_range (codes "dl_dst") ms dst.via dst.first;
      dl_vlan = at_in_range vlan IsVlan vlan_in_range (codes "dl_vlan") ms tag.via tag.first;
      dl_vlan_pcp = tt;
      dl_type = at_in_range (number 0 65535) (λ v. v < 2 ^ 16) two_bytes (codes "dl_type") ms kind.via kind.first;
      nw_tos = tt;
      nw_proto = tt;
      nw_src = tt;
      nw_dst = tt;
      tp_src = tt;
      tp_dst = tt;
    })

network_in_range : (l : MatchOf) (ms : Members) (m : MatchOf) → IsMatch l → with_network_fields l ms ≡ Some m
    → IsMatch m
network_in_range l ms m h e =
    let service = through _ (at tos (codes "nw_tos") ms) m e in
    let proto = through _ (at (number 0 255) (codes "nw_proto") ms) m service.second in
    let src = through _ (at prefix (codes "nw_src") ms) m proto.second in
    let dst = mapped _ (at prefix (codes "nw_dst") ms) m src.second in
    subst IsMatch dst.second (record {
      in_port = h.in_port;
      dl_src = h.dl_src;
      dl_dst = h.dl_dst;
      dl_vlan = h.dl_vlan;
      dl_vlan_pcp = h.dl_vlan_pcp;
      dl_type = h.dl_type;
      nw_tos = at_in_range tos IsTos tos_in_range (codes "nw_tos") ms service.via service.first;
      nw_proto = at_in_range (number 0 255) (λ v. v < 2 ^ 8) byte (codes "nw_proto") ms proto.via proto.first;
      nw_src = at_in_range prefix IsPrefix prefix_in_range (codes "nw_src") ms src.via src.first;
      nw_dst = at_in_range prefix IsPrefix prefix_in_range (codes "nw_dst") ms dst.via dst.first;
      tp_src = h.tp_src;
      tp_dst = h.tp_dst;
    })

transport_in_range : (l : MatchOf) (ms : Members) (m : MatchOf) → IsMatch l → with_transport_fields l ms ≡ Some m
    → IsMatch m
transport_in_range l ms m h e =
    let src = through _ (at (number 0 65535) (codes "tp_src") ms) m e in
    let dst = mapped _ (at (number 0 65535) (codes "tp_dst") ms) m src.second in
    subst IsMatch dst.second (record {
      in_port = h.in_port;
      dl_src = h.dl_src;
      dl_dst = h.dl_dst;
      dl_vlan = h.dl_vlan;
      dl_vlan_pcp = h.dl_vlan_pcp;
      dl_type = h.dl_type;
      nw_tos = h.nw_tos;
      nw_proto = h.nw_proto;
      nw_src = h.nw_src;
      nw_dst = h.nw_dst;
      tp_src = at_in_range (number 0 65535) (λ v. v < 2 ^ 16) two_bytes (codes "tp_src") ms src.via src.first;
      tp_dst = at_in_range (number 0 65535) (λ v. v < 2 ^ 16) two_bytes (codes "tp_dst") ms dst.via dst.first;
    })

pub named_in_range : (ms : Members) (m : MatchOf) → fields_named ms ≡ Some m → IsMatch m
named_in_range ms m e =
    let link = through _ (link_fields ms) m e in
    let network = through _ (with_network_fields link.via ms) m link.second in
    transport_in_range network.via ms m
    (network_in_range link.via ms network.via (link_in_range ms link.via link.first) network.first) network.second
