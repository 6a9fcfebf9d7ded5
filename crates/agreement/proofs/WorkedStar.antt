-- The setting with everything at once is sound.
use Rattle.std.proofs.Common.{◌≡◌, ℕ, zero, suc, ◌+◌, ◌<◌, ◌⊎◌, inl, inr, true, false, ◌&&◌, ◌==◌, Some}
use Rattle.std.proofs.Common.{None, refl, ap, ◌∙◌, sym, subst, arith, eqb-true, lit≤}
use Rattle.std.specs.Prelude.{◌≢◌, IfSome, is_some, slice_get}
use Rattle.std.specs.List.{AllByRecursion}
use Rattle.of10_match.specs.Normal.{IsNormal}
use Rattle.of10_actions.specs.Numbers.{MAX}
use Rattle.policy_meaning.specs.EveryNode.{IsSoundSwitch}
use Rattle.policy_meaning.specs.Hops.{peer_of}
use Rattle.policy_meaning.specs.Leaf.{has_port}
use Rattle.policy_meaning.specs.LeafFact.{IsSoundTable}
use Rattle.policy_meaning.specs.Networks.{switch_links, switch_spread}
use Rattle.policy_meaning.specs.WorkedTables.{second_balancer, teller, to_net}
use Rattle.policy_meaning.specs.declared.network.Place.{Place}
use Rattle.policy_meaning.specs.declared.network.VirtualSwitch.{VirtualSwitch}
use Rattle.policy_meaning.proofs.Booleans.{fails, some_injective, split_and}
use Rattle.policy_meaning.proofs.Normality.{normal-everything}
use Rattle.switch_meaning.specs.FiringLaw.{IsSoundWiring}
use Rattle.switch_meaning.specs.Wirings.{far_end, next_hop, outside_at}
use Rattle.switch_meaning.specs.declared.wiring.Outside.{Outside}
use Rattle.agreement.specs.Fitting.{SizesFit}
use Rattle.agreement.specs.Premises.{HasWay, IsSoundPlacing, IsSoundSetting, IsSoundVirtual, outside_ports}
use Rattle.agreement.specs.WorkedStar.{StarAgrees, flooder, queries, star, star_wiring}
use Rattle.agreement.proofs.Agreed.{agreed}
use Rattle.agreement.proofs.Finding.{find-gives, if-found, is_some-find, only}
use Rattle.agreement.proofs.WorkedRouter.{none-set, normal-net}

-- a switch with outside ports
abbrev IsSpoke : ℕ → Type 0
IsSpoke n = (n ≡ 0) ⊎ ((n ≡ 1) ⊎ (n ≡ 2))

-- where an outside port lies
record IsInStar (o : Outside) : Type 0 where
  v : o.v ≡ 0
  port : o.port ≡ o.at.switch + o.at.port
  number : o.at.port < MAX
  tag : o.tag ≡ Some o.port
  alone : far_end star_wiring o.at ≡ None
  switch : IsSpoke o.at.switch

all-in-star : AllByRecursion IsInStar star_wiring.outside
all-in-star = (
  record { v = refl; port = refl; number = omega arith; tag = refl; alone = refl; switch = inl refl },
  (
    record { v = refl; port = refl; number = omega arith; tag = refl; alone = refl; switch = inr (inl refl) },
    (
      record { v = refl; port = refl; number = omega arith; tag = refl; alone = refl; switch = inr (inr refl) },
      (record { v = refl; port = refl; number = omega arith; tag = refl; alone = refl; switch = inr (inr refl) }, tt),
    ),
  ),
)

found : (v p : ℕ) (o : Outside) → outside_at star_wiring v p ≡ Some o → IsInStar o × (o.v ≡ v) × (o.port ≡ p)
found v p o e =
    let f = find-gives IsInStar (λ (o : Outside). (o.v == v) && (o.port == p)) star_wiring.outside o all-in-star e in
    let t = split_and (o.v == v) (o.port == p) f.1 in
    (f.0, eqb-true o.v v t.0, eqb-true o.port p t.1)

sound-wiring : IsSoundWiring star_wiring
sound-wiring = record {
  numbers = λ v p. if-found (λ (o : Outside). o.at.port < MAX) (outside_at star_wiring v p)
      (λ o e. (found v p o e).0.number);
  apart = λ v p u q a b e f s t. let x = found v p a e in let y = found u q b f in (
    sym x.1 ∙ (x.0.v ∙ (sym y.0.v ∙ y.1)),
    let g = x.0.port in let h = y.0.port in let i = x.2 in let j = y.2
        in omega arith,
  );
}

sound-teller : IsSoundTable teller
sound-teller = record {
  apart = (tt, tt);
  entries = (
    record {
      above = omega arith;
      below = omega arith;
      is_normal = normal-everything;
      builds = record { outs = (none-set, tt); tail = (tt, tt) };
    },
    tt,
  );
  room = omega arith;
  boxes = (normal-everything, tt);
  disjoint = (tt, tt);
  visible = ((refl, (refl, (refl, tt))), ((refl, (refl, tt)), ((refl, tt), (tt, tt))));
}

normal-address : IsNormal (to_net 0x01020304 32)
normal-address = record {
  dl_vlan_pcp = tt;
  nw_tos = tt;
  nw_proto = tt;
  nw_src = tt;
  nw_dst = refl;
  tp_src = tt;
  tp_dst = tt;
}

sound-balancer : IsSoundTable second_balancer
sound-balancer = record {
  apart = (tt, tt);
  entries = (
    record {
      above = omega arith;
      below = omega arith;
      is_normal = normal-address;
      builds = record { outs = tt; tail = tt };
    },
    tt,
  );
  room = omega arith;
  boxes = (normal-everything, tt);
  disjoint = (tt, tt);
  visible = ((refl, (refl, (refl, tt))), ((refl, (refl, tt)), ((refl, tt), (tt, tt))));
}

normal-queries : IsNormal queries
normal-queries = record {
  dl_vlan_pcp = tt;
  nw_tos = tt;
  nw_proto = refl;
  nw_src = tt;
  nw_dst = refl;
  tp_src = tt;
  tp_dst = refl;
}

normal-box : (a : ℕ) → IsNormal (to_net a 8)
normal-box a = record {
  dl_vlan_pcp = tt;
  nw_tos = tt;
  nw_proto = tt;
  nw_src = tt;
  nw_dst = refl;
  tp_src = tt;
  tp_dst = tt;
}

two-ranks : ◌≡◌ {A = ℕ} 100 200 → ⊥
two-ranks e = omega arith

sound-flooder : IsSoundTable flooder
sound-flooder = record {
  apart = (
    (
      record {
        disjoint = λ t. absurd (two-ranks t);
        up = λ lt. omega arith;
        down = λ lt. omega arith;
      },
      tt,
    ),
    (tt, tt),
  );
  entries = (
    record {
      above = omega arith;
      below = omega arith;
      is_normal = normal-net;
      builds = record {
        outs =
            (none-set, tt);
        tail = (tt, tt);
      };
    },
    (
      record {
        above = omega arith;
        below = omega arith;
        is_normal = normal-queries;
        builds = record {
          outs =
              (none-set, (none-set, (none-set, tt)));
          tail = (tt, (tt, (tt, tt)));
        };
      },
      tt,
    ),
  );
  room = omega arith;
  boxes = (normal-box 0x02000000, (normal-box 0x03000000, tt));
  disjoint = ((refl, tt), (tt, tt));
  visible = ((refl, (refl, tt)), ((refl, tt), (tt, tt)));
}

sound-switch : (v : ℕ) (x : VirtualSwitch) → slice_get star.network.switches v ≡ Some x
    → IsSoundSwitch star.network.tables x
sound-switch =
    only (λ v x. IsSoundSwitch star.network.tables x) _
    (record {
      members = (sound-teller, (sound-balancer, sound-flooder));
      lefts =
          ((record { sets = (refl, tt); ends = refl }, tt), tt, (tt, tt));
    })

no-peer : (v p : ℕ) (q : Place) → peer_of (switch_links (slice_get star.network.switches v)) p ≡ Some q → ⊥
no-peer zero p q e = cc
no-peer (suc v) p q e = cc

sound-virtual : (v : ℕ) (x : VirtualSwitch) → slice_get star.network.switches v ≡ Some x → IsSoundVirtual star v x
sound-virtual =
    only (λ v x. IsSoundVirtual star v x) _
    (record {
      distinct = ((refl, (refl, (refl, tt))), ((refl, (refl, tt)), ((refl, tt), (tt, tt))));
      within = (((tt, tt), tt), ((tt, tt), ((refl, tt), ((refl, (refl, (refl, tt))), tt))));
      unlinked = λ _. refl;
      whole = λ t. cc;
    })

same-ports : (v p : ℕ) → is_some (outside_at star_wiring v p) ≡ has_port
    (outside_ports (slice_get star.network.switches v)) p
same-ports zero p = is_some-find (λ (o : Outside). (o.v == 0) && (o.port == p)) star_wiring.outside
same-ports (suc v) p =
    is_some-find (λ (o : Outside). (o.v == suc v) && (o.port == p)) star_wiring.outside
    ∙ (let n : (0 == suc v) ≡ false = fails (0 == suc v)
    (λ t. let e : 0 ≡ suc v = eqb-true 0 (suc v) t in omega arith) in rw n refl)

stays : (n : ℕ) → HasWay star n n
stays n = record { steps = 0; way = refl; cables = omega arith; switches = omega arith }

-- over the switch between
across :
    (a b c d : ℕ) → next_hop star_wiring a b ≡ Some 9 → far_end star_wiring (record { switch = a; port = 9 }) ≡ Some
    (record { switch = 3; port = c })
    → IfSome (next_hop star_wiring 3 b) (λ q. q ≢ c) → next_hop star_wiring 3 b ≡ Some d → d < MAX
    → far_end star_wiring (record { switch = 3; port = d }) ≡ Some (record { switch = b; port = 9 }) → IfSome
    (next_hop star_wiring b b) (λ q. q ≢ 9) → HasWay star a b
across a b c d out up forth hop number down ends = record {
  steps = 2;
  way = inr (record {
    port = 9;
    peer = record { switch = 3; port = c };
    hop = out;
    number = omega arith;
    cable = up;
    onward = forth;
    rest = inr (record {
      port = d;
      peer = record { switch = b; port = 9 };
      hop = hop;
      number = number;
      cable = down;
      onward = ends;
      rest = refl;
    });
  });
  cables = omega arith;
  switches = omega arith;
}

from-spoke : (P : ℕ → Type 0) → P 0 → P 1 → P 2 → (n : ℕ) → IsSpoke n → P n
from-spoke P x y z n (inl e) = subst P (sym e) x
from-spoke P x y z n (inr (inl e)) = subst P (sym e) y
from-spoke P x y z n (inr (inr e)) = subst P (sym e) z

way : (a b : ℕ) → IsSpoke a → IsSpoke b → HasWay star a b
way a b p q =
    from-spoke (λ (n : ℕ). HasWay star n b)
    (from-spoke (λ (m : ℕ). HasWay star 0 m) (stays 0)
    (across 0 1 1 2 refl refl (λ e. cc) refl (omega arith) refl tt)
    (across 0 2 1 3 refl refl (λ e. cc) refl (omega arith) refl tt) b q)
    (from-spoke (λ (m : ℕ). HasWay star 1 m) (across 1 0 2 1 refl refl (λ e. cc) refl (omega arith) refl tt)
    (stays 1) (across 1 2 2 3 refl refl (λ e. cc) refl (omega arith) refl tt) b q)
    (from-spoke (λ (m : ℕ). HasWay star 2 m) (across 2 0 3 1 refl refl (λ e. cc) refl (omega arith) refl tt)
    (across 2 1 3 2 refl refl (λ e. cc) refl (omega arith) refl tt) (stays 2) b q)
    a p

-- it is spread
never : {A : Type 0} (v : ℕ) → v ≡ 0 → switch_spread (slice_get star.network.switches v) ≡ false → A
never v e n = let m : true ≡ false = ap (λ (z : ℕ). switch_spread (slice_get star.network.switches z)) (sym e) ∙ n in cc

sound-placing : IsSoundPlacing star
sound-placing = record {
  wiring = sound-wiring;
  same = same-ports;
  once = ((refl, (refl, (refl, tt))), ((refl, (refl, tt)), ((refl, tt), (tt, tt))));
  tags = (refl, (refl, (refl, (refl, tt))));
  own_tags = λ v p u q t a b e f c d. let x = found v p a e in let y = found u q b f in (
    sym x.1 ∙ (x.0.v ∙ (sym y.0.v ∙ y.1)),
    sym x.2 ∙
        (some_injective (sym x.0.tag ∙ (c ∙ (sym d ∙ y.0.tag))) ∙ y.2),
  );
  one_cable = (
    (refl, (refl, (refl, (refl, (refl, tt))))),
    ((refl, (refl, (refl, (refl, tt)))), ((refl, (refl, (refl, tt))), ((refl, (refl, tt)), ((refl, tt), (tt, tt))))),
  );
  ways = λ v p q a b e f. way a.at.switch b.at.switch (found v p a e).0.switch (found v q b f).0.switch;
  open_ends = λ v p. if-found (λ (o : Outside). far_end star_wiring o.at ≡ None) (outside_at star_wiring v p)
      (λ o e. (found v p o e).0.alone);
  together = λ v u p q a b n _ e f. let x = found v p a e in never v (sym x.1 ∙ x.0.v) n;
}

sound-sizes : SizesFit star
sound-sizes zero = lit≤ tt
sound-sizes (suc v) = lit≤ tt

pub sound-star : IsSoundSetting star
sound-star = record {
  network = record { switches = sound-switch; peers = λ v p q e. absurd (no-peer v p q e) };
  virtuals = sound-virtual;
  placing = sound-placing;
  hops = omega arith;
  sizes = sound-sizes;
}

pub star-agrees : StarAgrees
star-agrees tables installed = agreed star sound-star tables installed
