-- The setting of a virtual switch that is spread over two switches is sound.
use Rattle.std.proofs.Common.{◌≡◌, ℕ, zero, suc, ◌+◌, ◌<◌, ◌⊎◌, inl, inr, true, false, ◌&&◌, ◌==◌, [], ◌∷◌, Some, None}
use Rattle.std.proofs.Common.{refl, ap, ◌∙◌, sym, subst, arith, eqb-true, lit≤}
use Rattle.std.specs.Prelude.{is_some, slice_get}
use Rattle.std.specs.List.{AllByRecursion}
use Rattle.of10_actions.specs.Numbers.{MAX}
use Rattle.policy_meaning.specs.EveryNode.{IsSoundSwitch}
use Rattle.policy_meaning.specs.Hops.{peer_of}
use Rattle.policy_meaning.specs.Leaf.{has_port}
use Rattle.policy_meaning.specs.LeafFact.{IsSoundTable}
use Rattle.policy_meaning.specs.Networks.{switch_links, switch_spread}
use Rattle.policy_meaning.specs.WorkedTables.{server_router}
use Rattle.policy_meaning.specs.declared.network.Place.{Place}
use Rattle.policy_meaning.specs.declared.network.VirtualSwitch.{VirtualSwitch}
use Rattle.policy_meaning.proofs.Booleans.{fails, some_injective, split_and}
use Rattle.policy_meaning.proofs.Normality.{normal-everything}
use Rattle.switch_meaning.specs.FiringLaw.{IsSoundWiring}
use Rattle.switch_meaning.specs.Wirings.{far_end, outside_at}
use Rattle.switch_meaning.specs.declared.wiring.Outside.{Outside}
use Rattle.agreement.specs.Fitting.{SizesFit}
use Rattle.agreement.specs.Premises.{HasWay, IsSoundPlacing, IsSoundSetting, IsSoundVirtual, outside_ports}
use Rattle.agreement.specs.Worked.{SpreadAgrees, spread_out, two_switches}
use Rattle.agreement.proofs.Agreed.{agreed}
use Rattle.agreement.proofs.Finding.{find-gives, if-found, is_some-find, only}
use Rattle.agreement.proofs.WorkedRouter.{none-set, normal-net}

-- where an outside port lies
record IsEither (o : Outside) : Type 0 where
  v : o.v ≡ 0
  port : o.port ≡ o.at.switch + o.at.port
  number : o.at.port < MAX
  tag : o.tag ≡ Some o.port
  alone : far_end two_switches o.at ≡ None
  switch : (o.at.switch ≡ 0) ⊎ (o.at.switch ≡ 1)

all-either : AllByRecursion IsEither two_switches.outside
all-either = (
  record { v = refl; port = refl; number = omega arith; tag = refl; alone = refl; switch = inl refl },
  (record { v = refl; port = refl; number = omega arith; tag = refl; alone = refl; switch = inr refl }, tt),
)

found : (v p : ℕ) (o : Outside) → outside_at two_switches v p ≡ Some o → IsEither o × (o.v ≡ v) × (o.port ≡ p)
found v p o e =
    let f = find-gives IsEither (λ (o : Outside). (o.v == v) && (o.port == p)) two_switches.outside o all-either e in
    let t = split_and (o.v == v) (o.port == p) f.1 in
    (f.0, eqb-true o.v v t.0, eqb-true o.port p t.1)

sound-wiring : IsSoundWiring two_switches
sound-wiring = record {
  numbers = λ v p. if-found (λ (o : Outside). o.at.port < MAX) (outside_at two_switches v p)
      (λ o e. (found v p o e).0.number);
  apart = λ v p u q a b e f s t. let x = found v p a e in let y = found u q b f in (
    sym x.1 ∙ (x.0.v ∙ (sym y.0.v ∙ y.1)),
    let g = x.0.port in let h = y.0.port in let i = x.2 in let j = y.2 in
        omega arith,
  );
}

sound-table : IsSoundTable (record server_router { member = 0; visible = 1 ∷ 2 ∷ [] })
sound-table = record {
  apart = (tt, tt);
  entries = (
    record {
      above = omega arith;
      below = omega arith;
      is_normal = normal-net;
      builds = record { outs = (none-set, tt); tail = (tt, tt) };
    },
    tt,
  );
  room = omega arith;
  boxes = (normal-everything, tt);
  disjoint = (tt, tt);
  visible = ((refl, tt), (tt, tt));
}

sound-switch : (v : ℕ) (x : VirtualSwitch) → slice_get spread_out.network.switches v ≡ Some x
    → IsSoundSwitch spread_out.network.tables x
sound-switch = only (λ v x. IsSoundSwitch spread_out.network.tables x) _ (record { members = sound-table; lefts = tt })

no-peer : (v p : ℕ) (q : Place) → peer_of (switch_links (slice_get spread_out.network.switches v)) p ≡ Some q → ⊥
no-peer zero p q e = cc
no-peer (suc v) p q e = cc

sound-virtual : (v : ℕ) (x : VirtualSwitch) → slice_get spread_out.network.switches v ≡ Some x
    → IsSoundVirtual spread_out v x
sound-virtual = only (λ v x. IsSoundVirtual spread_out v x) _
    (record { distinct = ((refl, tt), (tt, tt)); within = ((refl, tt), tt); unlinked = λ _. refl; whole = λ t. cc })

same-ports : (v p : ℕ) → is_some (outside_at two_switches v p)
    ≡ has_port (outside_ports (slice_get spread_out.network.switches v)) p
same-ports zero p = is_some-find (λ (o : Outside). (o.v == 0) && (o.port == p)) two_switches.outside
same-ports (suc v) p =
    is_some-find (λ (o : Outside). (o.v == suc v) && (o.port == p)) two_switches.outside
    ∙ (let n : (0 == suc v) ≡ false =
    fails (0 == suc v) (λ t. let e : 0 ≡ suc v = eqb-true 0 (suc v) t in omega arith) in rw n refl)

-- the ways between the two
stays : (n : ℕ) → HasWay spread_out n n
stays n = record { steps = 0; way = refl; cables = omega arith; switches = omega arith }

there : HasWay spread_out 0 1
there =
    record {
      steps = 1;
      way =
          inr (record {
            port = 3;
            peer = record { switch = 1; port = 3 };
            hop = refl;
            number = omega arith;
            cable = refl;
            onward = tt;
            rest = refl;
          });
      cables = omega arith;
      switches = omega arith;
    }

back : HasWay spread_out 1 0
back =
    record {
      steps = 1;
      way =
          inr (record {
            port = 3;
            peer = record { switch = 0; port = 3 };
            hop = refl;
            number = omega arith;
            cable = refl;
            onward = tt;
            rest = refl;
          });
      cables = omega arith;
      switches = omega arith;
    }

way : (a b : ℕ) → (a ≡ 0) ⊎ (a ≡ 1) → (b ≡ 0) ⊎ (b ≡ 1) → HasWay spread_out a b
way a b (inl e) (inl f) = subst (λ (z : ℕ). HasWay spread_out z b) (sym e)
    (subst (λ (z : ℕ). HasWay spread_out 0 z) (sym f) (stays 0))
way a b (inl e) (inr f) = subst (λ (z : ℕ). HasWay spread_out z b) (sym e)
    (subst (λ (z : ℕ). HasWay spread_out 0 z) (sym f) there)
way a b (inr e) (inl f) = subst (λ (z : ℕ). HasWay spread_out z b) (sym e)
    (subst (λ (z : ℕ). HasWay spread_out 1 z) (sym f) back)
way a b (inr e) (inr f) = subst (λ (z : ℕ). HasWay spread_out z b) (sym e)
    (subst (λ (z : ℕ). HasWay spread_out 1 z) (sym f) (stays 1))

-- it is spread
never : {A : Type 0} (v : ℕ) → v ≡ 0 → switch_spread (slice_get spread_out.network.switches v) ≡ false → A
never v e n = let m : true ≡ false = ap (λ (z : ℕ). switch_spread (slice_get spread_out.network.switches z)) (sym e)
    ∙ n in cc

sound-placing : IsSoundPlacing spread_out
sound-placing = record {
  wiring = sound-wiring;
  same = same-ports;
  once = ((refl, tt), (tt, tt));
  tags = (refl, (refl, tt));
  own_tags = λ v p u q t a b e f c d. let x = found v p a e in let y = found u q b f in
      (sym x.1 ∙ (x.0.v ∙ (sym y.0.v ∙ y.1)), sym x.2 ∙ (some_injective (sym x.0.tag ∙ (c ∙ (sym d ∙ y.0.tag))) ∙ y.2));
  one_cable = ((refl, tt), (tt, tt));
  ways = λ v p q a b e f. way a.at.switch b.at.switch (found v p a e).0.switch (found v q b f).0.switch;
  open_ends = λ v p. if-found (λ (o : Outside). far_end two_switches o.at ≡ None) (outside_at two_switches v p)
      (λ o e. (found v p o e).0.alone);
  together = λ v u p q a b n _ e f. let x = found v p a e in never v (sym x.1 ∙ x.0.v) n;
}

sound-sizes : SizesFit spread_out
sound-sizes zero = lit≤ tt
sound-sizes (suc v) = lit≤ tt

pub sound-spread : IsSoundSetting spread_out
sound-spread = record {
  network = record { switches = sound-switch; peers = λ v p q e. absurd (no-peer v p q e) };
  virtuals = sound-virtual;
  placing = sound-placing;
  hops = omega arith;
  sizes = sound-sizes;
}

pub spread-agrees : SpreadAgrees
spread-agrees tables installed = agreed spread_out sound-spread tables installed
