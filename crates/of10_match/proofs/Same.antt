-- The test of equality of matches decides it.
use Rattle.std.proofs.Common.{◌≡◌, Bool, Option, Some, None, refl, ap, Decides}
use Rattle.std.specs.Prelude.{◌==◌}
use Rattle.std.specs.Option.{option_eq}
use Rattle.std.proofs.lemmas.Bool.Decides.{Decides-eqb, Decides-and, Decides-like}
use Rattle.of10_match.specs.Fields.{MatchOf}
use Rattle.of10_match.specs.Same.{same_match, same_prefix}
use Rattle.of10_match.specs.declared.header.Prefix.{Prefix}

some_injective : {A : Type 0} {x y : A} → Some x ≡ Some y → x ≡ y
some_injective e = cc

option_decides : {A : Type 0} (E : A → A → Bool) → ((x y : A) → Decides (E x y) (x ≡ y)) → (o p : Option A)
    → Decides (option_eq E o p) (o ≡ p)
option_decides E d None None = (λ _. refl, λ _. refl)
option_decides E d None (Some y) = (λ e. cc, λ e. cc)
option_decides E d (Some x) None = (λ e. cc, λ e. cc)
option_decides E d (Some x) (Some y) = (λ e. ap Some ((d x y).0 e), λ e. (d x y).1 (some_injective e))

prefix_decides : (p q : Prefix) → Decides (same_prefix p q) (p ≡ q)
prefix_decides p q =
    Decides-like (same_prefix p q) (λ t. λ i. record { addr = t.0 i; len = t.1 i })
    (λ e. (ap (λ (z : Prefix). z.addr) e, ap (λ (z : Prefix). z.len) e))
    (Decides-and (p.addr == q.addr) (p.len == q.len) (Decides-eqb p.addr q.addr) (Decides-eqb p.len q.len))

pub match_decides : (m n : MatchOf) → Decides (same_match m n) (m ≡ n)
match_decides m n =
    let number = option_decides ◌==◌ Decides-eqb in
    let address = option_decides same_prefix prefix_decides in
    Decides-like (same_match m n)
    (λ (t : ((m.in_port ≡ n.in_port)
    × ((m.dl_src ≡ n.dl_src)
    × ((m.dl_dst ≡ n.dl_dst)
    × ((m.dl_vlan ≡ n.dl_vlan)
    × ((m.dl_vlan_pcp ≡ n.dl_vlan_pcp)
    × ((m.dl_type ≡ n.dl_type)
    × ((m.nw_tos ≡ n.nw_tos)
    × ((m.nw_proto ≡ n.nw_proto)
    × ((m.nw_src ≡ n.nw_src) × ((m.nw_dst ≡ n.nw_dst) × ((m.tp_src ≡ n.tp_src) × (m.tp_dst ≡ n.tp_dst))))))))))))).
    λ i. record {
      in_port = (t.0) i;
      dl_src = (t.1.0) i;
      dl_dst = (t.1.1.0) i;
      dl_vlan = (t.1.1.1.0) i;
      dl_vlan_pcp = (t.1.1.1.1.0) i;
      dl_type = (t.1.1.1.1.1.0) i;
      nw_tos = (t.1.1.1.1.1.1.0) i;
      nw_proto = (t.1.1.1.1.1.1.1.0) i;
      nw_src = (t.1.1.1.1.1.1.1.1.0) i;
      nw_dst = (t.1.1.1.1.1.1.1.1.1.0) i;
      tp_src = (t.1.1.1.1.1.1.1.1.1.1.0) i;
      tp_dst = (t.1.1.1.1.1.1.1.1.1.1.1) i;
    })
    (λ e. (
      ap (λ (z : MatchOf). z.in_port) e,
      (
        ap (λ (z : MatchOf). z.dl_src) e,
        (
          ap (λ (z : MatchOf). z.dl_dst) e,
          (
            ap (λ (z : MatchOf). z.dl_vlan) e,
            (
              ap (λ (z : MatchOf). z.dl_vlan_pcp) e,
              (
                ap (λ (z : MatchOf). z.dl_type) e,
                (
                  ap (λ (z : MatchOf). z.nw_tos) e,
                  (
                    ap (λ (z : MatchOf). z.nw_proto) e,
                    (
                      ap (λ (z : MatchOf). z.nw_src) e,
                      (
                        ap (λ (z : MatchOf). z.nw_dst) e,
                        (ap (λ (z : MatchOf). z.tp_src) e, ap (λ (z : MatchOf). z.tp_dst) e),
                      ),
                    ),
                  ),
                ),
              ),
            ),
          ),
        ),
      ),
    ))
    (Decides-and _ _ (number m.in_port n.in_port)
    (Decides-and _ _ (number m.dl_src n.dl_src)
    (Decides-and _ _ (number m.dl_dst n.dl_dst)
    (Decides-and _ _ (number m.dl_vlan n.dl_vlan)
    (Decides-and _ _ (number m.dl_vlan_pcp n.dl_vlan_pcp)
    (Decides-and _ _ (number m.dl_type n.dl_type)
    (Decides-and _ _ (number m.nw_tos n.nw_tos)
    (Decides-and _ _ (number m.nw_proto n.nw_proto)
    (Decides-and _ _ (address m.nw_src n.nw_src)
    (Decides-and _ _ (address m.nw_dst n.nw_dst)
    (Decides-and _ _ (number m.tp_src n.tp_src) (number m.tp_dst n.tp_dst))))))))))))
