-- The setting of two virtual switches that split one switch is sound.
use Rattle.std.proofs.Common.{◌≡◌, ℕ, zero, suc, ◌+◌, ◌*◌, ◌<◌, Bool, true, false, ◌&&◌, ◌==◌, [], ◌∷◌, Some, None}
use Rattle.std.proofs.Common.{refl, ◌∙◌, sym, subst, arith, eqb-true, lit≤}
use Rattle.std.specs.Prelude.{if◌then◌else◌, is_some, slice_get}
use Rattle.std.specs.List.{AllByRecursion}
use Rattle.of10_actions.specs.Numbers.{MAX}
use Rattle.policy_meaning.specs.EveryNode.{IsSoundSwitch}
use Rattle.policy_meaning.specs.Hops.{peer_of}
use Rattle.policy_meaning.specs.Leaf.{has_port}
use Rattle.policy_meaning.specs.LeafFact.{IsSoundTable}
use Rattle.policy_meaning.specs.Networks.{switch_has, switch_links, switch_spread}
use Rattle.policy_meaning.specs.WorkedHops.{first_member, second_member}
use Rattle.policy_meaning.specs.declared.network.Place.{Place}
use Rattle.policy_meaning.specs.declared.network.VirtualSwitch.{VirtualSwitch}
use Rattle.policy_meaning.proofs.Booleans.{fails, some_injective, split_and}
use Rattle.policy_meaning.proofs.Normality.{normal-at_port, normal-everything}
use Rattle.switch_meaning.specs.FiringLaw.{IsSoundWiring}
use Rattle.switch_meaning.specs.Wirings.{far_end, outside_at}
use Rattle.switch_meaning.specs.declared.wiring.Outside.{Outside}
use Rattle.agreement.specs.Fitting.{SizesFit}
use Rattle.agreement.specs.Premises.{IsSoundPlacing, IsSoundSetting, IsSoundVirtual, outside_ports}
use Rattle.agreement.specs.Worked.{SplitAgrees, split}
use Rattle.agreement.proofs.Agreed.{agreed}
use Rattle.agreement.proofs.Finding.{find-gives, if-found, is_some-find}
use Rattle.agreement.proofs.WorkedRouter.{none-set}

-- where an outside port lies
record IsSplit (o : Outside) : Type 0 where
  switch : o.at.switch ≡ 0
  port : o.at.port ≡ 2 * o.v + o.port
  v : o.v < 2
  low : 0 < o.port
  high : o.port < 3
  tag : o.tag ≡ None

all-split : AllByRecursion IsSplit split.wiring.outside
all-split = (
  record { switch = refl; port = refl; v = omega arith; low = omega arith; high = omega arith; tag = refl },
  (
    record { switch = refl; port = refl; v = omega arith; low = omega arith; high = omega arith; tag = refl },
    (
      record { switch = refl; port = refl; v = omega arith; low = omega arith; high = omega arith; tag = refl },
      (
        record { switch = refl; port = refl; v = omega arith; low = omega arith; high = omega arith; tag = refl },
        tt,
      ),
    ),
  ),
)

found : (v p : ℕ) (o : Outside) → outside_at split.wiring v p ≡ Some o → IsSplit o × (o.v ≡ v) × (o.port ≡ p)
found v p o e =
    let f = find-gives IsSplit (λ (o : Outside). (o.v == v) && (o.port == p)) split.wiring.outside o all-split e in
    let t = split_and (o.v == v) (o.port == p) f.1 in
    (f.0, eqb-true o.v v t.0, eqb-true o.port p t.1)

below : (o : Outside) → IsSplit o → o.at.port < MAX
below o g = let a = g.port in let b = g.v in let c = g.high in omega arith

same-place : (a b : Outside) → IsSplit a → IsSplit b → a.at.port ≡ b.at.port → (a.v ≡ b.v) × (a.port ≡ b.port)
same-place a b g h t =
    let pa = g.port in let va = g.v in let la = g.low in let ha = g.high in
    let pb = h.port in let vb = h.v in let lb = h.low in let hb = h.high in
    (omega arith, omega arith)

sound-wiring : IsSoundWiring split.wiring
sound-wiring = record {
  numbers = λ v p. if-found (λ (o : Outside). o.at.port < MAX) (outside_at split.wiring v p)
      (λ o e. below o (found v p o e).0);
  apart = λ v p u q a b e f s t. let x = found v p a e in let y = found u q b f in let same =
      same-place a b x.0 y.0 t in (sym x.1 ∙ (same.0 ∙ y.1), sym x.2 ∙ (same.1 ∙ y.2));
}

-- one of two items
one_of : {A : Type 0} (P : ℕ → A → Type 0) (x y : A) → P 0 x → P 1 y → (k : ℕ) (a : A)
    → slice_get (x ∷ y ∷ []) k ≡ Some a → P k a
one_of P x y p q zero a e = subst (P 0) (some_injective e) p
one_of P x y p q (suc zero) a e = subst (P 1) (some_injective e) q
one_of P x y p q (suc (suc k)) a e = cc

sound-first : IsSoundTable (first_member 8 true)
sound-first = record {
  apart = ((record { disjoint = λ _. refl; up = λ lt. omega arith; down = λ lt. omega arith }, tt), (tt, tt));
  entries = (
    record {
      above = omega arith;
      below = omega arith;
      is_normal = normal-at_port 1;
      builds = record { outs = tt; tail = tt };
    },
    (
      record {
        above = omega arith;
        below = omega arith;
        is_normal = normal-at_port 8;
        builds = record { outs = (none-set, tt); tail = (tt, tt) };
      },
      tt,
    ),
  );
  room = omega arith;
  boxes = (normal-everything, tt);
  disjoint = (tt, tt);
  visible = ((refl, (refl, (refl, tt))), ((refl, (refl, tt)), ((refl, tt), (tt, tt))));
}

sound-second : IsSoundTable (second_member 8)
sound-second = record {
  apart = (tt, tt);
  entries = (
    record {
      above = omega arith;
      below = omega arith;
      is_normal = normal-at_port 9;
      builds = record { outs = tt; tail = tt };
    },
    tt,
  );
  room = omega arith;
  boxes = (normal-everything, tt);
  disjoint = (tt, tt);
  visible = ((refl, (refl, (refl, tt))), ((refl, (refl, tt)), ((refl, tt), (tt, tt))));
}

sound-switch : (v : ℕ) (x : VirtualSwitch) → slice_get split.network.switches v ≡ Some x
    → IsSoundSwitch split.network.tables x
sound-switch = one_of (λ v x. IsSoundSwitch split.network.tables x) _ _ (record { members = sound-first; lefts = tt })
    (record { members = sound-second; lefts = tt })

-- the port is there, and not spread
abbrev IsPeer : Place → Type 0
IsPeer q = (switch_has (slice_get split.network.switches q.v) q.port ≡ true)
    × (switch_spread (slice_get split.network.switches q.v) ≡ false)

by-link : (b c : Bool) (x y q : Place) → IsPeer x → IsPeer y
    → (if b then Some x else (if c then Some y else None)) ≡ Some q → IsPeer q
by-link true c x y q p r e = subst IsPeer (some_injective e) p
by-link false true x y q p r e = subst IsPeer (some_injective e) r
by-link false false x y q p r e = cc

sound-peers : (v p : ℕ) (q : Place) → peer_of (switch_links (slice_get split.network.switches v)) p ≡ Some q → IsPeer q
sound-peers zero p q e = by-link (8 == p) (9 == p) (record { v = 1; port = 8 }) (record { v = 1; port = 9 }) q
    (refl, refl) (refl, refl) e
sound-peers (suc zero) p q e = by-link (8 == p) (9 == p) (record { v = 0; port = 8 }) (record { v = 0; port = 9 }) q
    (refl, refl) (refl, refl) e
sound-peers (suc (suc v)) p q e = cc

sound-virtual : (v : ℕ) (x : VirtualSwitch) → slice_get split.network.switches v ≡ Some x → IsSoundVirtual split v x
sound-virtual = one_of (λ v x. IsSoundVirtual split v x) _ _
    (record { distinct = ((refl, tt), (tt, tt)); within = (tt, ((refl, tt), tt)); unlinked = λ t. cc; whole = λ t. cc })
    (record { distinct = ((refl, tt), (tt, tt)); within = (tt, tt); unlinked = λ t. cc; whole = λ t. cc })

same-ports : (v p : ℕ) → is_some (outside_at split.wiring v p)
    ≡ has_port (outside_ports (slice_get split.network.switches v)) p
same-ports zero p = is_some-find (λ (o : Outside). (o.v == 0) && (o.port == p)) split.wiring.outside
same-ports (suc zero) p = is_some-find (λ (o : Outside). (o.v == 1) && (o.port == p)) split.wiring.outside
same-ports (suc (suc v)) p =
    is_some-find (λ (o : Outside). (o.v == suc (suc v)) && (o.port == p)) split.wiring.outside
    ∙ (let m : (0 == suc (suc v)) ≡ false =
    fails (0 == suc (suc v)) (λ t. let e : 0 ≡ suc (suc v) = eqb-true 0 (suc (suc v)) t in omega arith) in
    let n : (1 == suc (suc v)) ≡ false = fails (1 == suc (suc v))
    (λ t. let e : 1 ≡ suc (suc v) = eqb-true 1 (suc (suc v)) t in omega arith) in rw (m, n) refl)

sound-placing : IsSoundPlacing split
sound-placing = record {
  wiring = sound-wiring;
  same = same-ports;
  once = ((refl, (refl, (refl, tt))), ((refl, (refl, tt)), ((refl, tt), (tt, tt))));
  own_tags = λ v p u q t a b e f c d. let n = (found v p a e).0.tag in cc;
  one_cable = tt;
  ways = λ v p q a b e f. record {
    steps = 0;
    way = (found v p a e).0.switch
        ∙ sym (found v q b f).0.switch;
    cables = omega arith;
    switches = omega arith;
  };
  tags = (refl, (refl, (refl, (refl, tt))));
  open_ends = λ v p. if-found (λ (o : Outside). far_end split.wiring o.at ≡ None) (outside_at split.wiring v p)
      (λ o e. refl);
  together = λ v u p q a b _ _ e f. let x = found v p a e in let y = found u q b f in let g = x.0.switch in let h =
      y.0.switch in omega arith;
}

sound-sizes : SizesFit split
sound-sizes zero = lit≤ tt
sound-sizes (suc zero) = lit≤ tt
sound-sizes (suc (suc v)) = lit≤ tt

pub sound-split : IsSoundSetting split
sound-split = record {
  network = record { switches = sound-switch; peers = sound-peers };
  virtuals = sound-virtual;
  placing = sound-placing;
  hops = omega arith;
  sizes = sound-sizes;
}

pub split-agrees : SplitAgrees
split-agrees tables installed = agreed split sound-split tables installed
