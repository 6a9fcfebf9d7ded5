-- The test of equality of rules decides it.
use Rattle.std.proofs.Common.{◌≡◌, ◌==◌, ◌&&◌, ℕ, Bool, true, false, Option, Some, None, refl, ap, sym, ◌∙◌, eqb-true}
use Rattle.std.proofs.Common.{Decides}
use Rattle.std.specs.Bool.{beq}
use Rattle.std.specs.Option.{option_eq}
use Rattle.std.specs.Cmp.Lexicographic.{pointwise, pointwise_decides}
use Rattle.std.proofs.lemmas.Bool.Decides.{Decides-and, Decides-eqb, Decides-like}
use Rattle.std.proofs.lemmas.Bool.{and_parts}
use Rattle.cv_io.specs.contracts.leaf.LeafPartialEq.TheImpl.{ghosts as derived_leaf}
use Rattle.cv_io.specs.declared.leaf.Leaf.{Leaf}
use Rattle.of10_match.specs.Same.{same_match}
use Rattle.of10_match.proofs.Same.{match_decides}
use Rattle.of10_actions.specs.Fields.{RewriteOf}
use Rattle.of10_actions.specs.contracts.rewrite.RewritePartialEq.TheImpl.{ghosts as derived_rewrite}
use Rattle.of10_actions.specs.contracts.effects.DestPartialEq.TheImpl.{ghosts as derived_dest}
use Rattle.of10_actions.specs.contracts.effects.OutPartialEq.TheImpl.{ghosts as derived_out}
use Rattle.of10_actions.specs.contracts.effects.TailPartialEq.TheImpl.{ghosts as derived_tail}
use Rattle.of10_actions.specs.declared.effects.Dest.{Dest}
use Rattle.of10_actions.specs.declared.effects.Dest.TheVariants.{Port, Flood, Ingress, Tell}
use Rattle.of10_actions.specs.declared.effects.Out.{Out}
use Rattle.of10_actions.specs.declared.effects.Tail.{Tail}
use Rattle.of10_actions.specs.declared.effects.Tail.TheVariants.{Nothing, Pass, Link}
use Rattle.policy_meaning.specs.contracts.rule.RulePartialEq.TheImpl.{ghosts as derived_rule}
use Rattle.policy_meaning.specs.declared.rule.Rule.{Rule}

some_injective : {A : Type 0} {x y : A} → Some x ≡ Some y → x ≡ y
some_injective e = cc

number : (o p : Option ℕ) → Decides (option_eq ◌==◌ o p) (o ≡ p)
number None None = (λ _. refl, λ _. refl)
number None (Some y) = (λ e. cc, λ e. cc)
number (Some x) None = (λ e. cc, λ e. cc)
number (Some x) (Some y) = (λ e. ap Some (eqb-true x y e), λ e. (Decides-eqb x y).1 (some_injective e))

bit : (a b : Bool) → Decides (beq a b) (a ≡ b)
bit true true = (λ _. refl, λ _. refl)
bit true false = (λ e. cc, λ e. cc)
bit false true = (λ e. cc, λ e. cc)
bit false false = (λ _. refl, λ _. refl)

rewrite_decides : (r s : RewriteOf) → Decides (derived_rewrite.eq r s) (r ≡ s)
rewrite_decides r s =
    Decides-like _
    (λ t. λ i. record {
      dl_src = t.0 i;
      dl_dst = t.1.0 i;
      nw_src = t.1.1.0 i;
      nw_dst = t.1.1.1.0 i;
      nw_tos = t.1.1.1.1.0 i;
      tp_src = t.1.1.1.1.1.0 i;
      tp_dst = t.1.1.1.1.1.1 i;
    })
    (λ e. (
      ap (λ (z : RewriteOf). z.dl_src) e,
      (
        ap (λ (z : RewriteOf). z.dl_dst) e,
        (
          ap (λ (z : RewriteOf). z.nw_src) e,
          (
            ap (λ (z : RewriteOf). z.nw_dst) e,
            (
              ap (λ (z : RewriteOf). z.nw_tos) e,
              (ap (λ (z : RewriteOf). z.tp_src) e, ap (λ (z : RewriteOf). z.tp_dst) e),
            ),
          ),
        ),
      ),
    ))
    (Decides-and _ _ (number r.dl_src s.dl_src)
    (Decides-and _ _ (number r.dl_dst s.dl_dst)
    (Decides-and _ _ (number r.nw_src s.nw_src)
    (Decides-and _ _ (number r.nw_dst s.nw_dst)
    (Decides-and _ _ (number r.nw_tos s.nw_tos)
    (Decides-and _ _ (number r.tp_src s.tp_src) (number r.tp_dst s.tp_dst)))))))

dest-is : (a b : Dest) → derived_dest.eq a b ≡ true → a ≡ b
dest-is (Port v p) (Port w q) e = let s = and_parts (v == w) (p == q) e in
    λ i. Port (eqb-true v w s.0 i) (eqb-true p q s.1 i)
dest-is (Flood v p) (Flood w q) e = let s = and_parts (v == w) (p == q) e in
    λ i. Flood (eqb-true v w s.0 i) (eqb-true p q s.1 i)
dest-is Ingress Ingress e = refl
dest-is (Tell m r) (Tell n s) e = let t = and_parts (m == n) (r == s) e in
    λ i. Tell (eqb-true m n t.0 i) (eqb-true r s t.1 i)
dest-is _ _ e = cc

dest-self : (a : Dest) → derived_dest.eq a a ≡ true
dest-self (Port v p) = (Decides-and (v == v) (p == p) (Decides-eqb v v) (Decides-eqb p p)).1 (refl, refl)
dest-self (Flood v p) = (Decides-and (v == v) (p == p) (Decides-eqb v v) (Decides-eqb p p)).1 (refl, refl)
dest-self Ingress = refl
dest-self (Tell m r) = (Decides-and (m == m) (r == r) (Decides-eqb m m) (Decides-eqb r r)).1 (refl, refl)

dest_decides : (a b : Dest) → Decides (derived_dest.eq a b) (a ≡ b)
dest_decides a b = (dest-is a b, λ e. ap (derived_dest.eq a) (sym e) ∙ dest-self a)

out_decides : (a b : Out) → Decides (derived_out.eq a b) (a ≡ b)
out_decides a b =
    Decides-like _ (λ t. λ i. record { rewrite = t.0 i; dest = t.1 i })
    (λ e. (ap (λ (z : Out). z.rewrite) e, ap (λ (z : Out). z.dest) e))
    (Decides-and (derived_rewrite.eq a.rewrite b.rewrite) _ (rewrite_decides a.rewrite b.rewrite)
    (dest_decides a.dest b.dest))

tail-is : (a b : Tail) → derived_tail.eq a b ≡ true → a ≡ b
tail-is Nothing Nothing e = refl
tail-is (Pass r) (Pass s) e = ap Pass ((rewrite_decides r s).0 e)
tail-is (Link r p) (Link s q) e = let t = and_parts (derived_rewrite.eq r s) (p == q) e in
    λ i. Link ((rewrite_decides r s).0 t.0 i) (eqb-true p q t.1 i)
tail-is _ _ e = cc

tail-self : (a : Tail) → derived_tail.eq a a ≡ true
tail-self Nothing = refl
tail-self (Pass r) = (rewrite_decides r r).1 refl
tail-self (Link r p) = (Decides-and (derived_rewrite.eq r r) (p == p) (rewrite_decides r r) (Decides-eqb p p)).1
    (refl, refl)

tail_decides : (a b : Tail) → Decides (derived_tail.eq a b) (a ≡ b)
tail_decides a b = (tail-is a b, λ e. ap (derived_tail.eq a) (sym e) ∙ tail-self a)

leaf_decides : (a b : Leaf) → Decides (derived_leaf.eq a b) (a ≡ b)
leaf_decides a b =
    Decides-like _ (λ t. λ i. record { member = t.0 i; kind = t.1 i })
    (λ e. (ap (λ (z : Leaf). z.member) e, ap (λ (z : Leaf). z.kind) e))
    (Decides-and (a.member == b.member) (a.kind == b.kind) (Decides-eqb a.member b.member) (Decides-eqb a.kind b.kind))

pub rule_decides : (a b : Rule) → Decides (derived_rule.eq a b) (a ≡ b)
rule_decides a b =
    Decides-like _
    (λ t. λ i. record {
      m = t.0 i;
      level = t.1.0 i;
      touched = t.1.1.0 i;
      outs = t.1.1.1.0 i;
      tail = t.1.1.1.1.0 i;
      ancestry = t.1.1.1.1.1 i;
    })
    (λ e. (
      ap (λ (z : Rule). z.m) e,
      (
        ap (λ (z : Rule). z.level) e,
        (
          ap (λ (z : Rule). z.touched) e,
          (ap (λ (z : Rule). z.outs) e, (ap (λ (z : Rule). z.tail) e, ap (λ (z : Rule). z.ancestry) e)),
        ),
      ),
    ))
    (Decides-and (same_match a.m b.m) _ (match_decides a.m b.m)
    (Decides-and (a.level == b.level) _ (Decides-eqb a.level b.level)
    (Decides-and (beq a.touched b.touched) _ (bit a.touched b.touched)
    (Decides-and (pointwise derived_out.eq a.outs b.outs) _ (pointwise_decides out_decides a.outs b.outs)
    (Decides-and (derived_tail.eq a.tail b.tail) _ (tail_decides a.tail b.tail)
    (pointwise_decides leaf_decides a.ancestry b.ancestry))))))
