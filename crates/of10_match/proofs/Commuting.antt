-- The meet does not depend on the order of the two matches.
use Rattle.std.proofs.Common.{◌≡◌, ◌-◌, ◌*◌, ◌/◌, ◌%◌, ◌^◌, ℕ, Bool, true, false, Option, Some, None, refl, ◌∙◌, ap}
use Rattle.std.proofs.Common.{sym, arith, eqb-true, leb-true, leb-false}
use Rattle.std.specs.Prelude.{◌==◌, IfSome, if◌then◌else◌}
use Rattle.std.proofs.Math.Nat.{div-add-mod'}
use Rattle.std.proofs.lemmas.Bool.{false≢true}
use Rattle.of10_match.specs.Fields.{MatchOf}
use Rattle.of10_match.specs.Matching.{agree, agree_prefix, either, longer, is_longer, top_bits, overlaps, both, meet}
use Rattle.of10_match.specs.Ranges.{IsMatch, IsPrefix}
use Rattle.of10_match.specs.declared.header.Prefix.{Prefix}
use Rattle.of10_match.proofs.Twelve.{each-same}
use Rattle.of10_match.proofs.Prefixes.{eqb-flip}
use Rattle.of10_match.proofs.FieldTests.{Agrees, overlaps-fields}

agree-comm : (x y : Option ℕ) → agree x y ≡ agree y x
agree-comm None None = refl
agree-comm None (Some w) = refl
agree-comm (Some v) None = refl
agree-comm (Some v) (Some w) = eqb-flip v w

either-comm : (x y : Option ℕ) → agree x y ≡ true → either x y ≡ either y x
either-comm None None e = refl
either-comm None (Some w) e = refl
either-comm (Some v) None e = refl
either-comm (Some v) (Some w) e = ap (λ (n : ℕ). Some n) (eqb-true v w e)

-- two prefixes of which each is as long as the other leave as many bits open
same_open : (p q : Prefix) → is_longer q p ≡ true → is_longer p q ≡ true → 32 - p.len ≡ 32 - q.len
same_open p q s t =
    let le = leb-true (32 - q.len) (32 - p.len) s in
    let ge = leb-true (32 - p.len) (32 - q.len) t in
    omega arith

-- one of two prefixes is as long as the other
longer_or : (p q : Prefix) → is_longer q p ≡ false → is_longer p q ≡ false → ⊥
longer_or p q s t =
    let lt = leb-false (32 - q.len) (32 - p.len) s in
    let gt = leb-false (32 - p.len) (32 - q.len) t in
    absurd (omega arith)

agree_prefix-cases : (p q : Prefix) (b c : Bool) → is_longer q p ≡ b → is_longer p q ≡ c
    → (if b then (top_bits p.len p.addr == top_bits p.len q.addr) else (top_bits q.len p.addr == top_bits q.len q.addr))
    ≡ (if c then (top_bits q.len q.addr == top_bits q.len p.addr) else (top_bits p.len q.addr == top_bits p.len p.addr))
agree_prefix-cases p q true true s t =
    ap (λ k. p.addr / 2 ^ k == q.addr / 2 ^ k) (same_open p q s t)
    ∙ eqb-flip (top_bits q.len p.addr) (top_bits q.len q.addr)
agree_prefix-cases p q true false s t = eqb-flip (top_bits p.len p.addr) (top_bits p.len q.addr)
agree_prefix-cases p q false true s t = eqb-flip (top_bits q.len p.addr) (top_bits q.len q.addr)
agree_prefix-cases p q false false s t = absurd (longer_or p q s t)

agree_prefix-comm : (x y : Option Prefix) → agree_prefix x y ≡ agree_prefix y x
agree_prefix-comm None None = refl
agree_prefix-comm None (Some q) = refl
agree_prefix-comm (Some p) None = refl
agree_prefix-comm (Some p) (Some q) = agree_prefix-cases p q (is_longer q p) (is_longer p q) refl refl

-- a number whose low bits are zero is told by the others
same_address : (k x y : ℕ) → x % 2 ^ k ≡ 0 → y % 2 ^ k ≡ 0 → x / 2 ^ k ≡ y / 2 ^ k → x ≡ y
same_address k x y mx my e =
    let low = div-add-mod' x (2 ^ k) in
    let high = div-add-mod' y (2 ^ k) in
    let quotient = ap (λ n. n * 2 ^ k) e in
    omega arith

pub same_prefix : (p q : Prefix) → p.addr ≡ q.addr → p.len ≡ q.len → p ≡ q
same_prefix p q a l = λ i. record { addr = a i; len = l i }

longer-cases : (p q : Prefix) → IsPrefix p → IsPrefix q → (b c : Bool) → is_longer q p ≡ b → is_longer p q ≡ c
    → (if b then (top_bits p.len p.addr == top_bits p.len q.addr) else (top_bits q.len p.addr == top_bits q.len q.addr))
    ≡ true
    → (if b then Some q else Some p) ≡ (if c then Some p else Some q)
longer-cases p q ip iq true true s t e =
    let open_bits = same_open p q s t in
    let multiple : q.addr % 2 ^ (32 - p.len) ≡ 0 = ap (λ k. q.addr % 2 ^ k) open_bits ∙ iq.3 in
    let addresses = same_address (32 - p.len) p.addr q.addr ip.3 multiple
    (eqb-true (top_bits p.len p.addr) (top_bits p.len q.addr) e) in
    ap (λ (r : Prefix). Some r) (sym (same_prefix p q addresses (omega arith)))
longer-cases p q ip iq true false s t e = refl
longer-cases p q ip iq false true s t e = refl
longer-cases p q ip iq false false s t e = absurd (longer_or p q s t)

longer-comm : (x y : Option Prefix) → IfSome x IsPrefix → IfSome y IsPrefix → agree_prefix x y ≡ true
    → longer x y ≡ longer y x
longer-comm None None p q e = refl
longer-comm None (Some w) p q e = refl
longer-comm (Some v) None p q e = refl
longer-comm (Some v) (Some w) p q e = longer-cases v w p q (is_longer w v) (is_longer v w) refl refl e

pub overlaps-comm : (m n : MatchOf) → overlaps m n ≡ overlaps n m
overlaps-comm m n =
    each-same (agree-comm m.in_port n.in_port) (agree-comm m.dl_src n.dl_src) (agree-comm m.dl_dst n.dl_dst)
    (agree-comm m.dl_vlan n.dl_vlan) (agree-comm m.dl_vlan_pcp n.dl_vlan_pcp) (agree-comm m.dl_type n.dl_type)
    (agree-comm m.nw_tos n.nw_tos) (agree-comm m.nw_proto n.nw_proto) (agree_prefix-comm m.nw_src n.nw_src)
    (agree_prefix-comm m.nw_dst n.nw_dst) (agree-comm m.tp_src n.tp_src) (agree-comm m.tp_dst n.tp_dst)

pub both-comm : (m n : MatchOf) → IsMatch m → IsMatch n → Agrees m n → both m n ≡ both n m
both-comm m n p q a = λ i. record {
  in_port = either-comm m.in_port n.in_port a.in_port i;
  dl_src = either-comm m.dl_src n.dl_src a.dl_src i;
  dl_dst = either-comm m.dl_dst n.dl_dst a.dl_dst i;
  dl_vlan = either-comm m.dl_vlan n.dl_vlan a.dl_vlan i;
  dl_vlan_pcp = either-comm m.dl_vlan_pcp n.dl_vlan_pcp a.dl_vlan_pcp i;
  dl_type = either-comm m.dl_type n.dl_type a.dl_type i;
  nw_tos = either-comm m.nw_tos n.nw_tos a.nw_tos i;
  nw_proto = either-comm m.nw_proto n.nw_proto a.nw_proto i;
  nw_src = longer-comm m.nw_src n.nw_src p.nw_src q.nw_src a.nw_src i;
  nw_dst = longer-comm m.nw_dst n.nw_dst p.nw_dst q.nw_dst a.nw_dst i;
  tp_src = either-comm m.tp_src n.tp_src a.tp_src i;
  tp_dst = either-comm m.tp_dst n.tp_dst a.tp_dst i;
}

meet-cases : (m n : MatchOf) → IsMatch m → IsMatch n → (b c : Bool) → overlaps m n ≡ b → b ≡ c
    → (if b then Some (both m n) else None) ≡ (if c then Some (both n m) else None)
meet-cases m n p q true true s e = ap (λ (r : MatchOf). Some r) (both-comm m n p q (overlaps-fields m n s))
meet-cases m n p q true false s e = absurd (false≢true (sym e))
meet-cases m n p q false true s e = absurd (false≢true e)
meet-cases m n p q false false s e = refl

pub meet-comm : (m n : MatchOf) → IsMatch m → IsMatch n → meet m n ≡ meet n m
meet-comm m n p q = meet-cases m n p q (overlaps m n) (overlaps n m) refl (overlaps-comm m n)
