-- The meet of two normal matches is normal.
use Rattle.std.proofs.Common.{◌≡◌, ℕ, Bool, true, false, ◌&&◌, Option, Some, None, refl, ap, ◌∙◌, sym, eqb-true}
use Rattle.std.specs.Prelude.{OnSome}
use Rattle.std.proofs.lemmas.Bool.{false≢true}
use Rattle.of10_match.specs.Fields.{MatchOf}
use Rattle.of10_match.specs.Matching.{agree, either, longer, both, overlaps}
use Rattle.of10_match.specs.Normal.{IsNormal, is_ip, is_ip_or_arp, is_tagged, has_ports}
use Rattle.of10_match.proofs.FieldTests.{Agrees, overlaps-fields}
use Rattle.of10_match.proofs.Twelve.{and-first, and-second, and-intro}

-- what the first field passes, the two together pass
test-either_left : (test : Option ℕ → Bool) → test None ≡ false → (t u : Option ℕ) → test t ≡ true
    → test (either t u) ≡ true
test-either_left test none None u e = absurd (false≢true (sym none ∙ e))
test-either_left test none (Some v) u e = e

-- and what the second passes, where they agree
test-either_right : (test : Option ℕ → Bool) → test None ≡ false → (t u : Option ℕ) → agree t u ≡ true → test u ≡ true
    → test (either t u) ≡ true
test-either_right test none None u a e = e
test-either_right test none (Some v) None a e = absurd (false≢true (sym none ∙ e))
test-either_right test none (Some v) (Some w) a e = ap (λ n. test (Some n)) (eqb-true v w a) ∙ e

on_some : {A : Type 0} (o : Option A) (b : Bool) → b ≡ true → OnSome o (b ≡ true)
on_some None b e = tt
on_some (Some x) b e = e

-- a field of either match stands beside what it needs
named_both : {A : Type 0} (c : Option A → Option A → Option A) → c None None ≡ None → (x y : Option A) (b d r : Bool)
    → OnSome x (b ≡ true) → OnSome y (d ≡ true) → (b ≡ true → r ≡ true) → (d ≡ true → r ≡ true)
    → OnSome (c x y) (r ≡ true)
named_both c none None None b d r p q f g = rw none tt
named_both c none None (Some y) b d r p q f g = on_some (c None (Some y)) r (g q)
named_both c none (Some x) y b d r p q f g = on_some (c (Some x) y) r (f p)

ports_left : (m n : MatchOf) → (is_ip m.dl_type && has_ports m.nw_proto) ≡ true
    → (is_ip (both m n).dl_type && has_ports (both m n).nw_proto) ≡ true
ports_left m n e =
    and-intro (is_ip (both m n).dl_type) (has_ports (both m n).nw_proto)
    (test-either_left is_ip refl m.dl_type n.dl_type (and-first (is_ip m.dl_type) (has_ports m.nw_proto) e))
    (test-either_left has_ports refl m.nw_proto n.nw_proto (and-second (is_ip m.dl_type) (has_ports m.nw_proto) e))

ports_right : (m n : MatchOf) → Agrees m n → (is_ip n.dl_type && has_ports n.nw_proto) ≡ true
    → (is_ip (both m n).dl_type && has_ports (both m n).nw_proto) ≡ true
ports_right m n a e =
    and-intro (is_ip (both m n).dl_type) (has_ports (both m n).nw_proto)
    (test-either_right is_ip refl m.dl_type n.dl_type a.dl_type
    (and-first (is_ip n.dl_type) (has_ports n.nw_proto) e))
    (test-either_right has_ports refl m.nw_proto n.nw_proto a.nw_proto
    (and-second (is_ip n.dl_type) (has_ports n.nw_proto) e))

pub IsNormal-both : (m n : MatchOf) → overlaps m n ≡ true → IsNormal m → IsNormal n → IsNormal (both m n)
IsNormal-both m n e p q =
    let a = overlaps-fields m n e in
    record {
      dl_vlan_pcp = named_both either refl m.dl_vlan_pcp n.dl_vlan_pcp (is_tagged m.dl_vlan) (is_tagged n.dl_vlan)
          (is_tagged (both m n).dl_vlan) p.dl_vlan_pcp q.dl_vlan_pcp
          (test-either_left is_tagged refl m.dl_vlan n.dl_vlan)
          (test-either_right is_tagged refl m.dl_vlan n.dl_vlan a.dl_vlan);
      nw_tos = named_both either refl m.nw_tos n.nw_tos (is_ip m.dl_type) (is_ip n.dl_type) (is_ip (both m n).dl_type)
          p.nw_tos q.nw_tos (test-either_left is_ip refl m.dl_type n.dl_type)
          (test-either_right is_ip refl m.dl_type n.dl_type a.dl_type);
      nw_proto = named_both either refl m.nw_proto n.nw_proto (is_ip_or_arp m.dl_type) (is_ip_or_arp n.dl_type)
          (is_ip_or_arp (both m n).dl_type) p.nw_proto q.nw_proto
          (test-either_left is_ip_or_arp refl m.dl_type n.dl_type)
          (test-either_right is_ip_or_arp refl m.dl_type n.dl_type a.dl_type);
      nw_src = named_both longer refl m.nw_src n.nw_src (is_ip_or_arp m.dl_type) (is_ip_or_arp n.dl_type)
          (is_ip_or_arp (both m n).dl_type) p.nw_src q.nw_src (test-either_left is_ip_or_arp refl m.dl_type n.dl_type)
          (test-either_right is_ip_or_arp refl m.dl_type n.dl_type a.dl_type);
      nw_dst = named_both longer refl m.nw_dst n.nw_dst (is_ip_or_arp m.dl_type) (is_ip_or_arp n.dl_type)
          (is_ip_or_arp (both m n).dl_type) p.nw_dst q.nw_dst (test-either_left is_ip_or_arp refl m.dl_type n.dl_type)
          (test-either_right is_ip_or_arp refl m.dl_type n.dl_type a.dl_type);
      tp_src = named_both either refl m.tp_src n.tp_src (is_ip m.dl_type && has_ports m.nw_proto)
          (is_ip n.dl_type && has_ports n.nw_proto) (is_ip (both m n).dl_type && has_ports (both m n).nw_proto) p.tp_src
          q.tp_src (ports_left m n) (ports_right m n a);
      tp_dst = named_both either refl m.tp_dst n.tp_dst (is_ip m.dl_type && has_ports m.nw_proto)
          (is_ip n.dl_type && has_ports n.nw_proto) (is_ip (both m n).dl_type && has_ports (both m n).nw_proto) p.tp_dst
          q.tp_dst (ports_left m n) (ports_right m n a);
    }
