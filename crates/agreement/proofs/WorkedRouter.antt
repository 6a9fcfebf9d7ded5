-- The router's setting is sound.
use Rattle.std.proofs.Common.{◌≡◌, ℕ, zero, suc, ◌<◌, Bool, false, ◌&&◌, ◌==◌, [], Some, None, refl, ◌∙◌, sym, arith}
use Rattle.std.proofs.Common.{eqb-true, lit≤}
use Rattle.std.specs.Prelude.{is_some, slice_get}
use Rattle.std.specs.List.{AllByRecursion}
use Rattle.of10_match.specs.Normal.{IsNormal}
use Rattle.of10_actions.specs.Rewriting.{Extends, no_rewrite}
use Rattle.of10_actions.specs.Numbers.{MAX}
use Rattle.policy_expr.specs.Policy.{member}
use Rattle.policy_meaning.specs.EveryNode.{IsSoundSwitch}
use Rattle.policy_meaning.specs.Hops.{peer_of}
use Rattle.policy_meaning.specs.Leaf.{has_port}
use Rattle.policy_meaning.specs.LeafFact.{IsSoundTable}
use Rattle.policy_meaning.specs.Networks.{switch_links}
use Rattle.policy_meaning.specs.WorkedTables.{server_router, to_net}
use Rattle.policy_meaning.specs.declared.network.Place.{Place}
use Rattle.policy_meaning.specs.declared.network.VirtualSwitch.{VirtualSwitch}
use Rattle.policy_meaning.proofs.Booleans.{fails, split_and}
use Rattle.policy_meaning.proofs.Normality.{normal-everything}
use Rattle.switch_meaning.specs.FiringLaw.{IsSoundWiring}
use Rattle.switch_meaning.specs.WorkedEntries.{one_switch}
use Rattle.switch_meaning.specs.Wirings.{far_end, outside_at}
use Rattle.switch_meaning.specs.declared.wiring.Outside.{Outside}
use Rattle.agreement.specs.Fitting.{SizesFit}
use Rattle.agreement.specs.Premises.{IsAlone, IsSoundPlacing, IsSoundSetting, IsSoundVirtual, outside_ports}
use Rattle.agreement.specs.Worked.{RouterAgrees, RouterIsSound, four_ports, routed}
use Rattle.agreement.proofs.Agreed.{agreed}
use Rattle.agreement.proofs.Finding.{find-gives, if-found, is_some-find, only}

-- an outside port is the port of its number, of the one switch
record IsSame (o : Outside) : Type 0 where
  v : o.v ≡ 0
  switch : o.at.switch ≡ 0
  port : o.at.port ≡ o.port
  number : o.port < MAX
  tag : o.tag ≡ None

all-same : AllByRecursion IsSame one_switch.outside
all-same = (
  record { v = refl; switch = refl; port = refl; number = omega arith; tag = refl },
  (
    record { v = refl; switch = refl; port = refl; number = omega arith; tag = refl },
    (
      record { v = refl; switch = refl; port = refl; number = omega arith; tag = refl },
      (record { v = refl; switch = refl; port = refl; number = omega arith; tag = refl }, tt),
    ),
  ),
)

found : (v p : ℕ) (o : Outside) → outside_at one_switch v p ≡ Some o → IsSame o × (o.v ≡ v) × (o.port ≡ p)
found v p o e =
    let f = find-gives IsSame (λ (o : Outside). (o.v == v) && (o.port == p)) one_switch.outside o all-same e in
    let t = split_and (o.v == v) (o.port == p) f.1 in
    (f.0, eqb-true o.v v t.0, eqb-true o.port p t.1)

sound-wiring : IsSoundWiring one_switch
sound-wiring = record {
  numbers = λ v p. if-found (λ (o : Outside). o.at.port < MAX) (outside_at one_switch v p)
      (λ o e. let f = found v p o e in let a = f.0.port in let b = f.0.number in omega arith);
  apart = λ v p u q a b e f s t. let x = found v p a e in let y = found u q b f in (
    let g = x.0.v in let h = y.0.v in let i = x.1 in let j = y.1 in omega arith,
    let g = x.0.port in let h =
        y.0.port in let i = x.2 in let j = y.2 in omega arith,
  );
}

pub normal-net : IsNormal (to_net 0x02000000 24)
normal-net = record {
  dl_vlan_pcp = tt;
  nw_tos = tt;
  nw_proto = tt;
  nw_src = tt;
  nw_dst = refl;
  tp_src = tt;
  tp_dst = tt;
}

pub none-set : Extends no_rewrite no_rewrite
none-set = record { dl_src = tt; dl_dst = tt; nw_src = tt; nw_dst = tt; nw_tos = tt; tp_src = tt; tp_dst = tt }

sound-table : IsSoundTable (record server_router { member = 0 })
sound-table = record {
  apart = (tt, tt);
  entries = (
    record {
      above = omega arith;
      below = omega arith;
      is_normal = normal-net;
      builds = record { outs = (none-set, tt); tail = (tt, tt) };
    },
    tt,
  );
  room = omega arith;
  boxes = (normal-everything, tt);
  disjoint = (tt, tt);
  visible = ((refl, (refl, (refl, tt))), ((refl, (refl, tt)), ((refl, tt), (tt, tt))));
}

module _ (whole : Bool) where
  sound-switch : (v : ℕ) (x : VirtualSwitch) → slice_get (routed whole).network.switches v ≡ Some x
      → IsSoundSwitch (routed whole).network.tables x
  sound-switch = only (λ v x. IsSoundSwitch (routed whole).network.tables x) _
      (record { members = sound-table; lefts = tt })

  no-peer : (v p : ℕ) (q : Place) → peer_of (switch_links (slice_get (routed whole).network.switches v)) p ≡ Some q → ⊥
  no-peer zero p q e = cc
  no-peer (suc v) p q e = cc

  alone : IsAlone (routed whole) 0
      (record { expr = member 0; outside = four_ports; links = []; spread = false; whole = whole })
  alone = record {
    links = refl;
    lone = refl;
    bare = λ p q a e. refl;
    alone = λ u p q a b e f _. let x = found u q b f in let g = x.0.v in let i = x.1 in omega arith;
    names = record { visible = (refl, (refl, (refl, (refl, tt)))); region = (tt, tt); entries = (tt, tt) };
  }

  sound-virtual : (v : ℕ) (x : VirtualSwitch) → slice_get (routed whole).network.switches v ≡ Some x
      → IsSoundVirtual (routed whole) v x
  sound-virtual = only (λ v x. IsSoundVirtual (routed whole) v x) _
      (record {
        distinct = ((refl, (refl, (refl, tt))), ((refl, (refl, tt)), ((refl, tt), (tt, tt))));
        within = ((refl, tt), tt);
        unlinked = λ _. refl;
        whole = λ _. alone;
      })

  same-ports : (v p : ℕ) → is_some (outside_at one_switch v p)
      ≡ has_port (outside_ports (slice_get (routed whole).network.switches v)) p
  same-ports zero p = is_some-find (λ (o : Outside). (o.v == 0) && (o.port == p)) one_switch.outside
  same-ports (suc v) p = is_some-find (λ (o : Outside). (o.v == suc v) && (o.port == p)) one_switch.outside
      ∙ (let n : (0 == suc v) ≡ false =
      fails (0 == suc v) (λ t. let e : 0 ≡ suc v = eqb-true 0 (suc v) t in omega arith) in rw n refl)

  sound-placing : IsSoundPlacing (routed whole)
  sound-placing = record {
    wiring = sound-wiring;
    same = same-ports;
    once = ((refl, (refl, (refl, tt))), ((refl, (refl, tt)), ((refl, tt), (tt, tt))));
    own_tags = λ v p u q t a b e f c d. let n = (found v p a e).0.tag in cc;
    one_cable = tt;
    ways = λ v p q a b e f. record {
      steps = 0;
      way = (found v p a e).0.switch
          ∙ sym (found v q b f).0.switch;
      cables = omega arith;
      switches = omega arith;
    };
    tags = (refl, (refl, (refl, (refl, tt))));
    open_ends = λ v p. if-found (λ (o : Outside). far_end one_switch o.at ≡ None) (outside_at one_switch v p)
        (λ o e. refl);
    together = λ v u p q a b _ _ e f. let x = found v p a e in let y = found u q b f in let g = x.0.switch in let h =
        y.0.switch in omega arith;
  }

  sound-sizes : SizesFit (routed whole)
  sound-sizes zero = lit≤ tt
  sound-sizes (suc v) = lit≤ tt

  sound-routed : IsSoundSetting (routed whole)
  sound-routed = record {
    network = record { switches = sound-switch; peers = λ v p q e. absurd (no-peer v p q e) };
    virtuals = sound-virtual;
    placing = sound-placing;
    hops = omega arith;
    sizes = sound-sizes;
  }

pub router-is-sound : RouterIsSound
router-is-sound whole = sound-routed whole

pub router-agrees : RouterAgrees
router-agrees whole tables installed = agreed (routed whole) (sound-routed whole) tables installed
