-- What is asked of a setting.
use Rattle.std.specs.Prelude.{◌≡◌, ◌≢◌, ℕ, zero, suc, ◌<◌, ◌≤◌, ◌⊎◌, true, false, ◌==◌, ◌&&◌, Option, Some, None}
use Rattle.std.specs.Prelude.{IfSome, is_some, List, [], ◌∷◌, flat_map, length, slice_get}
use Rattle.std.specs.List.{AllByRecursion}
use Rattle.of10_match.specs.Fields.{MatchOf}
use Rattle.of10_actions.specs.declared.effects.Dest.{Dest}
use Rattle.of10_actions.specs.declared.effects.Dest.TheVariants.{Port, Flood, Ingress, Tell}
use Rattle.of10_actions.specs.declared.effects.Out.{Out}
use Rattle.of10_actions.specs.Numbers.{MAX}
use Rattle.policy_meaning.specs.CentralFact.{EachMember}
use Rattle.policy_meaning.specs.EveryNode.{IsSoundNetwork}
use Rattle.policy_meaning.specs.Leaf.{has_port}
use Rattle.policy_meaning.specs.LeafFact.{EachPair}
use Rattle.policy_meaning.specs.Networks.{switch_spread}
use Rattle.policy_meaning.specs.declared.leaf.LeafEntry.{LeafEntry}
use Rattle.policy_meaning.specs.declared.leaf.LeafTable.{LeafTable}
use Rattle.policy_meaning.specs.declared.network.VirtualSwitch.{VirtualSwitch}
use Rattle.switch_meaning.specs.FiringLaw.{IsSoundWiring}
use Rattle.switch_meaning.specs.Wirings.{far_end, next_hop, outside_at, same_spot}
use Rattle.switch_meaning.specs.declared.wiring.Cable.{Cable}
use Rattle.switch_meaning.specs.declared.wiring.Outside.{Outside}
use Rattle.switch_meaning.specs.declared.wiring.SwitchPort.{SwitchPort}
use Rattle.switch_meaning.specs.declared.wiring.Wiring.{Wiring}
use Rattle.agreement.specs.declared.state.Setting.{Setting}
use Rattle.agreement.specs.Fitting.{SizesFit}
use Rattle.agreement.specs.Reach.{LeadsTo}

-- an out goes to a port of this virtual switch, if it goes to one by number
abbrev pub GoesWithin : ℕ → Dest → Type 0
GoesWithin v (Port w p) = w ≡ v
GoesWithin v (Flood w p) = w ≡ v
GoesWithin v Ingress = Unit {0}
GoesWithin v (Tell member reason) = Unit {0}

-- and so do all outs of a member's entries
abbrev pub TableGoesWithin : ℕ → Option LeafTable → Type 0
TableGoesWithin v None = Unit {0}
TableGoesWithin v (Some t) =
    AllByRecursion (λ (e : LeafEntry). AllByRecursion (λ (o : Out). GoesWithin v o.dest) e.effects.outs) t.entries

-- what names a port names one of these
abbrev pub NamesOne : List ℕ → MatchOf → Type 0
NamesOne ports m = IfSome m.in_port (λ p. has_port ports p ≡ true)

-- a member sees and names these ports alone
pub record KeepsTo (ports : List ℕ) (t : LeafTable) : Type 0 where
  pub visible : AllByRecursion (λ p. has_port ports p ≡ true) t.visible
  pub region : AllByRecursion (NamesOne ports) t.region
  pub entries : AllByRecursion (λ (e : LeafEntry). NamesOne ports e.m) t.entries

-- the member, if it has a table, does
abbrev pub TableKeepsTo : List ℕ → Option LeafTable → Type 0
TableKeepsTo ports None = Unit {0}
TableKeepsTo ports (Some t) = KeepsTo ports t

-- what is asked of a virtual switch that is all of its physical switch
pub record IsAlone (s : Setting) (v : ℕ) (x : VirtualSwitch) : Type 0 where
  pub links : x.links ≡ []
  pub lone : x.spread ≡ false
  -- no cable ends there
  pub bare : (p q : ℕ) (a : Outside) → outside_at s.wiring v p ≡ Some a
      → far_end s.wiring (record { switch = a.at.switch; port = q }) ≡ None
  -- no other virtual switch has a port there
  pub alone :
      (u p q : ℕ) (a b : Outside) → outside_at s.wiring v p ≡ Some a → outside_at s.wiring u q ≡ Some b
      → a.at.switch ≡ b.at.switch → u ≡ v
  pub names : EachMember (λ i. TableKeepsTo x.outside (slice_get s.network.tables i)) x.expr

-- the outside ports of a virtual switch
abbrev pub outside_ports : Option VirtualSwitch → List ℕ
outside_ports None = []
outside_ports (Some x) = x.outside

-- what is asked of each virtual switch by itself
pub record IsSoundVirtual (s : Setting) (v : ℕ) (x : VirtualSwitch) : Type 0 where
  -- no outside port is named twice
  pub distinct : EachPair (λ p q. (q == p) ≡ false) x.outside
  -- members send packets to ports of their own virtual switch alone
  pub within : EachMember (λ i. TableGoesWithin v (slice_get s.network.tables i)) x.expr
  pub unlinked : x.spread ≡ true → x.links ≡ []
  pub whole : x.whole ≡ true → IsAlone s v x

-- the ends of cables
abbrev pub cable_ends : List Cable → List SwitchPort
cable_ends cables = flat_map (λ (c : Cable). c.one ∷ c.other ∷ []) cables

-- a packet that came in at a port goes on to another switch: by a cable, and not back
pub record GoesOn (w : Wiring) (to : ℕ) (Then : ℕ → Type 0) (from : ℕ) : Type 0 where
  pub port : ℕ
  pub peer : SwitchPort
  pub hop : next_hop w from to ≡ Some port
  pub number : port < MAX
  pub cable : far_end w (record { switch = from; port = port }) ≡ Some peer
  pub onward : IfSome (next_hop w peer.switch to) (λ q. q ≢ peer.port)
  pub rest : Then peer.switch

-- by next hops a packet gets from one switch to another over at most so many cables
abbrev pub GetsTo : Wiring → ℕ → ℕ → ℕ → Type 0
GetsTo w to zero from = from ≡ to
GetsTo w to (suc n) from = (from ≡ to) ⊎ GoesOn w to (GetsTo w to n) from

-- over no more cables than there are, and to no more switches
pub record HasWay (s : Setting) (from to : ℕ) : Type 0 where
  pub steps : ℕ
  pub way : GetsTo s.wiring to steps from
  pub cables : steps ≤ length s.wiring.cables
  pub switches : steps ≤ length s.switches

-- what is asked of where outside ports lie
pub record IsSoundPlacing (s : Setting) : Type 0 where
  pub wiring : IsSoundWiring s.wiring
  -- the wiring has the outside ports of the virtual switches
  pub same : (v p : ℕ) → is_some (outside_at s.wiring v p) ≡ has_port (outside_ports (slice_get s.network.switches v)) p
  -- no outside port stands twice
  pub once : EachPair (λ (a b : Outside). ((b.v == a.v) && (b.port == a.port)) ≡ false) s.wiring.outside
  -- a port has a tag where its virtual switch is spread
  pub tags : AllByRecursion (λ (o : Outside). is_some o.tag ≡ switch_spread (slice_get s.network.switches o.v))
      s.wiring.outside
  -- no two ports have one tag
  pub own_tags :
      (v p u q t : ℕ) (a b : Outside) → outside_at s.wiring v p ≡ Some a → outside_at s.wiring u q ≡ Some b
      → a.tag ≡ Some t → b.tag ≡ Some t
      → (v ≡ u) × (p ≡ q)
  -- no port has two cables
  pub one_cable : EachPair (λ (a b : SwitchPort). same_spot b a ≡ false) (cable_ends s.wiring.cables)
  -- packets get from each outside port of a virtual switch to each other
  pub ways : (v p q : ℕ) (a b : Outside) → outside_at s.wiring v p ≡ Some a → outside_at s.wiring v q ≡ Some b
      → HasWay s a.at.switch b.at.switch
  -- no cable ends at an outside port
  pub open_ends : (v p : ℕ) → IfSome (outside_at s.wiring v p) (λ o. far_end s.wiring o.at ≡ None)
  -- what isn't spread lies on one switch, and so does what links lead to
  pub together :
      (v u p q : ℕ) (a b : Outside) → switch_spread (slice_get s.network.switches v) ≡ false → LeadsTo s.network v u
      → outside_at s.wiring v p ≡ Some a → outside_at s.wiring u q ≡ Some b → a.at.switch ≡ b.at.switch

-- what is asked of a setting
pub record IsSoundSetting (s : Setting) : Type 0 where
  pub network : IsSoundNetwork s.network
  pub virtuals : (v : ℕ) (x : VirtualSwitch) → slice_get s.network.switches v ≡ Some x → IsSoundVirtual s v x
  pub placing : IsSoundPlacing s
  pub hops : 0 < s.hops
  pub sizes : SizesFit s
