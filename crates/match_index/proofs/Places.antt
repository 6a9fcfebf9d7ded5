-- Of the matches of one shape that a match names all of, one alone can overlap it.
use Rattle.std.proofs.Common.{◌≡◌, ℕ, ◌-◌, ◌*◌, ◌/◌, ◌%◌, ◌^◌, ◌≤◌, ◌<◌, Bool, true, false, Option, Some, None, IfSome}
use Rattle.std.proofs.Common.{refl, sym, ap, subst, ◌∙◌, arith, nat_le, eqb-true, leb-true, lt-ltb, true≢false, is_some}
use Rattle.std.proofs.Common.{if◌then◌else◌}
use Rattle.std.specs.Prelude.{◌==◌}
use Rattle.std.proofs.Math.Nat.{mod-eq-sub-div-mul, div-mul-le_self}
use Rattle.of10_match.specs.Fields.{MatchOf}
use Rattle.of10_match.specs.Matching.{agree, agree_prefix, overlaps, is_longer, top_bits}
use Rattle.of10_match.specs.Normal.{kept}
use Rattle.of10_match.specs.Ranges.{IsMatch, IsPrefix}
use Rattle.of10_match.specs.Wildcards.{prefix_by}
use Rattle.of10_match.specs.declared.header.Prefix.{Prefix}
use Rattle.of10_match.proofs.FieldTests.{overlaps-fields}
use Rattle.of10_match.proofs.Twelve.{each-fields}
use Rattle.match_index.specs.InsideShapes.{implies, is_named_by, kept_by, length_of, shape_of, shortened}
use Rattle.match_index.specs.Questions as spec
use Rattle.match_index.specs.declared.item.Item.{Item}
use Rattle.match_index.specs.declared.question.Question.{Question}
use Rattle.match_index.proofs.Meets.{meets-probe}

-- x is named by the match, y by the question
kept-agreed : (x y : Option ℕ) → implies (is_some x) (is_some y) ≡ true → agree y x ≡ true → kept (is_some x) y ≡ x
kept-agreed None y i a = refl
kept-agreed (Some v) None i a = absurd (true≢false (sym i))
kept-agreed (Some v) (Some w) i a = ap Some (eqb-true w v a)

-- where both have the same first bits, the prefix is cut out of the address
prefix-is : (p : Prefix) (addr : ℕ) → IsPrefix p → top_bits p.len addr ≡ top_bits p.len p.addr
    → prefix_by (32 - p.len) addr ≡ Some p
prefix-is p addr r e =
    let some_open : 32 - p.len < 32 = let low = r.0 in omega arith in
    let lent : 32 - (32 - p.len) ≡ p.len = let high = r.1 in omega arith in
    let whole : addr / 2 ^ (32 - p.len) * 2 ^ (32 - p.len) ≡ p.addr = ap (λ t. t * 2 ^ (32 - p.len)) e
    ∙ whole_quotient p.addr (2 ^ (32 - p.len)) r.3 in
    ap (λ b. if b then Some (record { addr = addr / 2 ^ (32 - p.len) * 2 ^ (32 - p.len); len = 32 - (32 - p.len) })
    else None) (lt-ltb (32 - p.len) 32 some_open)
    ∙ (λ i. Some (record { addr = whole i; len = lent i }))
  where
    whole_quotient : (a d : ℕ) → a % d ≡ 0 → a / d * d ≡ a
    whole_quotient a d h = let s = mod-eq-sub-div-mul a d in let l = div-mul-le_self a d in omega (arith, s, l, h)

shorter_agreed : (p q : Prefix) (b : Bool) → is_longer p q ≡ b → p.len ≤ q.len
    → (if b then (top_bits q.len q.addr == top_bits q.len p.addr) else (top_bits p.len q.addr == top_bits p.len p.addr))
    ≡ true
    → top_bits p.len q.addr ≡ top_bits p.len p.addr
shorter_agreed p q true l le e =
    let same : 32 - q.len ≡ 32 - p.len = let h = leb-true (32 - p.len) (32 - q.len) l in omega arith in
    let P : ℕ → Type 0 = λ k. q.addr / 2 ^ k ≡ p.addr / 2 ^ k in
    subst P same (eqb-true _ _ e)
shorter_agreed p q false l le e = eqb-true _ _ e

shortened_none : (y : Option Prefix) → shortened 0 y ≡ None
shortened_none None = refl
shortened_none (Some q) = refl

shortened-agreed : (x y : Option Prefix) → IfSome x IsPrefix → nat_le (length_of x) (length_of y) ≡ true
    → agree_prefix y x ≡ true → shortened (length_of x) y ≡ x
shortened-agreed None y r i a = shortened_none y
shortened-agreed (Some p) None r i a = let le = leb-true p.len 0 i in let low = r.0 in absurd (omega arith)
shortened-agreed (Some p) (Some q) r i a =
    prefix-is p q.addr r (shorter_agreed p q (is_longer p q) refl (leb-true p.len q.len i) a)

pub kept_by-is : (m n : MatchOf) → IsMatch m → is_named_by (shape_of m) n ≡ true → overlaps n m ≡ true
    → kept_by (shape_of m) n ≡ m
kept_by-is m n r i o =
    let t = each-fields (implies (is_some m.in_port) (is_some n.in_port))
    (implies (is_some m.dl_src) (is_some n.dl_src)) (implies (is_some m.dl_dst) (is_some n.dl_dst))
    (implies (is_some m.dl_vlan) (is_some n.dl_vlan)) (implies (is_some m.dl_vlan_pcp) (is_some n.dl_vlan_pcp))
    (implies (is_some m.dl_type) (is_some n.dl_type)) (implies (is_some m.nw_tos) (is_some n.nw_tos))
    (implies (is_some m.nw_proto) (is_some n.nw_proto)) (nat_le (length_of m.nw_src) (length_of n.nw_src))
    (nat_le (length_of m.nw_dst) (length_of n.nw_dst)) (implies (is_some m.tp_src) (is_some n.tp_src))
    (implies (is_some m.tp_dst) (is_some n.tp_dst)) i in
    let a = overlaps-fields n m o in
    λ k. record {
      in_port = kept-agreed m.in_port n.in_port t.at_a a.in_port k;
      dl_src = kept-agreed m.dl_src n.dl_src t.at_b a.dl_src k;
      dl_dst = kept-agreed m.dl_dst n.dl_dst t.at_c a.dl_dst k;
      dl_vlan = kept-agreed m.dl_vlan n.dl_vlan t.at_d a.dl_vlan k;
      dl_vlan_pcp = kept-agreed m.dl_vlan_pcp n.dl_vlan_pcp t.at_e a.dl_vlan_pcp k;
      dl_type = kept-agreed m.dl_type n.dl_type t.at_f a.dl_type k;
      nw_tos = kept-agreed m.nw_tos n.nw_tos t.at_g a.nw_tos k;
      nw_proto = kept-agreed m.nw_proto n.nw_proto t.at_h a.nw_proto k;
      nw_src = shortened-agreed m.nw_src n.nw_src r.nw_src t.at_i a.nw_src k;
      nw_dst = shortened-agreed m.nw_dst n.nw_dst r.nw_dst t.at_j a.nw_dst k;
      tp_src = kept-agreed m.tp_src n.tp_src t.at_k a.tp_src k;
      tp_dst = kept-agreed m.tp_dst n.tp_dst t.at_l a.tp_dst k;
    }

pub place-is : (q : Question) (e : Item) → IsMatch e.normal → spec.asks q e ≡ true
    → is_named_by (shape_of e.normal) (spec.probe q) ≡ true → kept_by (shape_of e.normal) (spec.probe q) ≡ e.normal
place-is q e r a n = kept_by-is e.normal (spec.probe q) r n (meets-probe q e a)
