-- The actions that are written of a rule have numbers that fit their types.
use Rattle.std.proofs.Common.{◌≡◌, ℕ, ◌<◌, ◌^◌, Bool, true, false, List, [], ◌∷◌, ◌++◌, Option, Some, None, refl}
use Rattle.std.proofs.Common.{arith}
use Rattle.std.specs.Prelude.{◌==◌, ◌&&◌, IfSome, find, if◌then◌else◌, option_map}
use Rattle.std.specs.List.{AllByRecursion}
use Rattle.std.specs.Option.{option_and_then, option_eq}
use Rattle.agreement.proofs.Finding.{find-gives}
use Rattle.of10_actions.specs.Actions.{FitsTypes}
use Rattle.of10_actions.specs.Fields.{RewriteOf}
use Rattle.of10_actions.specs.Numbers.{CONTROLLER, IN_PORT, MAX}
use Rattle.of10_actions.specs.Rewriting.{and_then, no_rewrite}
use Rattle.of10_actions.specs.Same.{same_action}
use Rattle.of10_actions.specs.declared.action.Action.{Action}
use Rattle.of10_actions.specs.declared.action.Action.TheVariants.{Output, SetDlDst, SetDlSrc, SetNwDst, SetNwSrc}
use Rattle.of10_actions.specs.declared.action.Action.TheVariants.{SetNwTos, SetTpDst, SetTpSrc, SetVlanVid}
use Rattle.of10_actions.specs.declared.effects.Dest.{Dest}
use Rattle.of10_actions.specs.declared.effects.Dest.TheVariants.{Flood, Ingress, Port, Tell}
use Rattle.of10_actions.specs.declared.effects.Out.{Out}
use Rattle.policy_meaning.proofs.Lists.{all-append}
use Rattle.switch_meaning.specs.Placing.{actions_from, actions_of, field_sets, going}
use Rattle.switch_meaning.specs.Placing.{retag, set_unless, sets, sets_after, tells, way_across}
use Rattle.switch_meaning.specs.Placing.{way_of, way_to, written_port}
use Rattle.switch_meaning.specs.Wirings.{next_hop, outside_at}
use Rattle.switch_meaning.specs.declared.placing.Way.{Way}
use Rattle.switch_meaning.specs.declared.wiring.Cable.{Cable}
use Rattle.switch_meaning.specs.declared.wiring.NextHop.{NextHop}
use Rattle.switch_meaning.specs.declared.wiring.Outside.{Outside}
use Rattle.switch_meaning.specs.declared.wiring.Wiring.{Wiring}
use Rattle.machine_meaning.proofs.FitRules.{OutFits, SetsFit}

-- the ports of a wiring have numbers of ports, and its tags are numbers of VLANs
pub record IsNumbered (w : Wiring) : Type 0 where
  pub outside : AllByRecursion (λ (o : Outside). o.at.port < MAX) w.outside
  pub tags : AllByRecursion (λ (o : Outside). IfSome o.tag (λ t. t < 4096)) w.outside
  pub cables : AllByRecursion (λ (c : Cable). (c.one.port < MAX) × (c.other.port < MAX)) w.cables
  pub next_hops : AllByRecursion (λ (h : NextHop). h.port < MAX) w.next_hops

-- actions -----------------------------------------------------------------------------------------------------------

abbrev pub Good : List Action → Type 0
Good acts = AllByRecursion FitsTypes acts

-- one action, unless it is needless
unless-good : (b : Bool) (a : Action) → FitsTypes a → Good (if b then [] else a ∷ [])
unless-good true a g = tt
unless-good false a g = (g, tt)

set-good : (now set : Option Action) → IfSome set FitsTypes → Good (set_unless now set)
set-good now None g = tt
set-good None (Some a) g = (g, tt)
set-good (Some d) (Some a) g = unless-good (same_action d a) a g

sets-good : (now rest : List (Option Action)) → AllByRecursion (λ (o : Option Action). IfSome o FitsTypes) rest
    → Good (sets_after now rest)
sets-good [] rest g = tt
sets-good (d ∷ ds) [] g = tt
sets-good (d ∷ ds) (x ∷ xs) g =
    all-append FitsTypes (set_unless d x) (sets_after ds xs) (set-good d x g.0) (sets-good ds xs g.1)

-- the action that sets a field
map-good : (P : ℕ → Type 0) (f : ℕ → Action) → ((v : ℕ) → P v → FitsTypes (f v)) → (o : Option ℕ) → IfSome o P
    → IfSome (option_map f o) FitsTypes
map-good P f g None p = tt
map-good P f g (Some v) p = g v p

fields-good : (r : RewriteOf) → SetsFit r
    → AllByRecursion (λ (o : Option Action). IfSome o FitsTypes) (field_sets r)
fields-good r g =
    let src = map-good (λ v. v < 2 ^ 64) SetDlSrc (λ v lt. lt) r.dl_src g.dl_src in
    let dst = map-good (λ v. v < 2 ^ 64) SetDlDst (λ v lt. lt) r.dl_dst g.dl_dst in
    let from = map-good (λ v. v < 2 ^ 32) SetNwSrc (λ v lt. lt) r.nw_src g.nw_src in
    let to = map-good (λ v. v < 2 ^ 32) SetNwDst (λ v lt. lt) r.nw_dst g.nw_dst in
    let tos = map-good (λ v. v < 2 ^ 8) SetNwTos (λ v lt. lt) r.nw_tos g.nw_tos in
    let one = map-good (λ v. v < 2 ^ 16) SetTpSrc (λ v lt. lt) r.tp_src g.tp_src in
    let other = map-good (λ v. v < 2 ^ 16) SetTpDst (λ v lt. lt) r.tp_dst g.tp_dst in
    (src, (dst, (from, (to, (tos, (one, (other, tt)))))))

-- a tag, where there is one, is the number of a VLAN
abbrev pub HasTag : Option ℕ → Type 0
HasTag tag = IfSome tag (λ t. t < 4096)

retag-good : (t u : Option ℕ) → HasTag u → Good (retag t u)
retag-good None None g = tt
retag-good (Some t) None g = (tt, tt)
retag-good None (Some u) g = (omega (arith, g), tt)
retag-good (Some t) (Some u) g = unless-good (t == u) (SetVlanVid u) (omega (arith, g))

-- an outside port
pub record IsPort (o : Outside) : Type 0 where
  pub at : o.at.port < MAX
  pub tag : HasTag o.tag

module _ (w : Wiring) (good : IsNumbered w) where
  -- outside ports that are found
  pub port-at : (v p : ℕ) (m : Option Outside) → outside_at w v p ≡ m → IfSome m IsPort
  port-at v p None e = tt
  port-at v p (Some o) e =
      let test : Outside → Bool = λ o. (o.v == v) && (o.port == p) in
      record {
        at = (find-gives (λ (o : Outside). o.at.port < MAX) test w.outside o good.outside e).0;
        tag = (find-gives (λ (o : Outside). HasTag o.tag) test w.outside o good.tags e).0;
      }

  -- and next hops
  hop-port : (o : Option NextHop) → ((h : NextHop) → o ≡ Some h → h.port < MAX)
      → IfSome (option_map (λ (h : NextHop). h.port) o) (λ p. p < MAX)
  hop-port None f = tt
  hop-port (Some h) f = f h refl

  pub hop-at : (from to : ℕ) → IfSome (next_hop w from to) (λ p. p < MAX)
  hop-at from to =
      let test : NextHop → Bool = λ h. (h.from == from) && (h.to == to) in
      hop-port (find test w.next_hops)
      (λ h e. (find-gives (λ (h : NextHop). h.port < MAX) test w.next_hops h good.next_hops e).0)

  module _ (switch : ℕ) (ingress : Option ℕ) where
    record IsWay (way : Way) : Type 0 where
      tag : HasTag way.tag
      port : way.port < 2 ^ 16

    abbrev WayGood : Option Way → Type 0
    WayGood way = IfSome way IsWay

    written-good : (p : ℕ) → p < MAX → written_port ingress p < 2 ^ 16
    written-good p lt = by (option_eq ◌==◌ ingress (Some p))
      where
        by : (b : Bool) → (if b then IN_PORT else p) < 2 ^ 16
        by true = omega arith
        by false = omega (arith, lt)

    across-good : (tag port : Option ℕ) → HasTag tag → IfSome port (λ p. p < MAX) → WayGood (way_across tag port)
    across-good (Some t) (Some p) g h = record { tag = g; port = omega (arith, h) }
    across-good None port g h = tt
    across-good (Some t) None g h = tt

    near-good : (o : Outside) → IsPort o → (b : Bool)
        → WayGood (if b then Some (record { tag = None; port = written_port ingress o.at.port })
        else way_across o.tag (next_hop w switch o.at.switch))
    near-good o g true = record { tag = tt; port = written-good o.at.port g.at }
    near-good o g false = across-good o.tag (next_hop w switch o.at.switch) g.tag (hop-at switch o.at.switch)

    to-good : (m : Option Outside) → IfSome m IsPort → WayGood (option_and_then (way_to w switch ingress) m)
    to-good None g = tt
    to-good (Some o) g = near-good o g (o.at.switch == switch)

    way-good : (d : Dest) → WayGood (way_of w switch ingress d)
    way-good (Port v p) = to-good (outside_at w v p) (port-at v p (outside_at w v p) refl)
    way-good (Flood v p) = to-good (outside_at w v p) (port-at v p (outside_at w v p) refl)
    way-good Ingress = record { tag = tt; port = omega arith }
    way-good (Tell member reason) = tt

    going-good : (way : Option Way) → WayGood way → (now : RewriteOf) (tag : Option ℕ) (r : RewriteOf) → SetsFit r
        → (later : RewriteOf → Option ℕ → List Action) → ((now : RewriteOf) (tag : Option ℕ) → Good (later now tag))
        → Good (going way now tag r later)
    going-good None g now tag r f later rest = rest now tag
    going-good (Some way) g now tag r f later rest =
        all-append FitsTypes (sets now r) (retag tag way.tag ++ (Output way.port 0 ∷ later (and_then now r) way.tag))
        (sets-good (field_sets now) (field_sets r) (fields-good r f))
        (all-append FitsTypes (retag tag way.tag) (Output way.port 0 ∷ later (and_then now r) way.tag)
        (retag-good tag way.tag g.tag) ((g.port, omega arith), rest (and_then now r) way.tag))

    from-good : (outs : List Out) → AllByRecursion OutFits outs → (now : RewriteOf) (tag : Option ℕ)
        → Good (actions_from w switch ingress now tag outs)
    from-good [] g now tag = tt
    from-good (o ∷ os) g now tag =
        going-good (way_of w switch ingress o.dest) (way-good o.dest) now tag o.rewrite g.0
        (λ now tag. actions_from w switch ingress now tag os) (λ now tag. from-good os g.1 now tag)

    telling-good : (b : Bool) → Good (if b then Output CONTROLLER 65535 ∷ [] else [])
    telling-good true = ((omega arith, omega arith), tt)
    telling-good false = tt

    pub of-good : (outs : List Out) → AllByRecursion OutFits outs → Good (actions_of w switch ingress outs)
    of-good outs g =
        all-append FitsTypes (if tells outs then Output CONTROLLER 65535 ∷ [] else [])
        (actions_from w switch ingress no_rewrite None outs) (telling-good (tells outs))
        (from-good outs g no_rewrite None)
