-- What agreement asks of a setting beside its members' tables, and that each policy's has it.
use Rattle.std.specs.Prelude.{◌≡◌, ◌==◌, ℕ, ◌<◌, true, false, None, Some, List, [], Bool, slice_get}
use Rattle.std.specs.List.{AllByRecursion}
use Rattle.agreement.specs.Fitting.{SizesFit}
use Rattle.agreement.specs.Premises.{IsSoundPlacing, IsSoundSetting, TableGoesWithin, TableKeepsTo}
use Rattle.agreement.specs.declared.state.Setting.{Setting}
use Rattle.inner_paths.specs.Cuts.{cut_fault}
use Rattle.policy_expr.specs.Policy.{Policy}
use Rattle.policy_meaning.specs.CentralFact.{EachMember}
use Rattle.policy_meaning.specs.EveryNode.{IsSoundSwitch}
use Rattle.policy_meaning.specs.Hops.{peer_of}
use Rattle.policy_meaning.specs.LeafFact.{EachPair}
use Rattle.policy_meaning.specs.Networks.{switch_has, switch_links, switch_spread}
use Rattle.policy_meaning.specs.Switches.{SwitchOf}
use Rattle.policy_meaning.specs.declared.leaf.LeafTable.{LeafTable}
use Rattle.policy_meaning.specs.declared.network.Place.{Place}
use Rattle.switch_meaning.specs.Fixed.{AreTagsInRange}
use Rattle.switch_meaning.specs.Wirings.{far_end, outside_at}
use Rattle.switch_meaning.specs.declared.wiring.Outside.{Outside}
use Rattle.virtual_topology.specs.declared.plan.SwitchItem.{SwitchItem}
use Rattle.virtual_topology.specs.declared.plan.TopologyPlan.{TopologyPlan}
use Rattle.virtual_topology.specs.Faults.{fault_of}
use Rattle.policy_setting.specs.Settings.{setting}

-- the ports of physical switches have numbers of ports
abbrev pub HaveNumbers : List SwitchItem → Type 0
HaveNumbers switches = AllByRecursion (λ (s : SwitchItem). AllByRecursion (λ p. p < 65280) s.ports) switches

-- a virtual switch is all of its physical switch: it has no links and isn't spread, no cable ends there, and no other
-- virtual switch has a port there
pub record LiesAlone (s : Setting) (v : ℕ) (x : SwitchOf) : Type 0 where
  pub links : x.links ≡ []
  pub lone : x.spread ≡ false
  pub bare : (p q : ℕ) (a : Outside) → outside_at s.wiring v p ≡ Some a
      → far_end s.wiring (record { switch = a.at.switch; port = q }) ≡ None
  pub alone :
      (u p q : ℕ) (a b : Outside) → outside_at s.wiring v p ≡ Some a → outside_at s.wiring u q ≡ Some b
      → a.at.switch ≡ b.at.switch → u ≡ v

-- what is asked of the ports of each virtual switch
pub record HasSoundPorts (s : Setting) (v : ℕ) (x : SwitchOf) : Type 0 where
  -- no outside port is named twice
  pub distinct : EachPair (λ p q. (q == p) ≡ false) x.outside
  pub unlinked : x.spread ≡ true → x.links ≡ []
  pub whole : x.whole ≡ true → LiesAlone s v x

-- what is asked of where ports lie and how they are joined
pub record IsSoundTopology (s : Setting) : Type 0 where
  pub placing : IsSoundPlacing s
  pub virtuals : (v : ℕ) (x : SwitchOf) → slice_get s.network.switches v ≡ Some x → HasSoundPorts s v x
  -- a link leads to a port of a virtual switch that isn't spread
  pub peers :
      (v p : ℕ) (q : Place) → peer_of (switch_links (slice_get s.network.switches v)) p ≡ Some q
      → (switch_has (slice_get s.network.switches q.v) q.port ≡ true)
      × (switch_spread (slice_get s.network.switches q.v) ≡ false)
  pub tags : AreTagsInRange s.wiring

-- the setting of a plan without fault, whose paths can be made, has it
abbrev pub TopologiesAreSound : Type 0
TopologiesAreSound =
    (plan : TopologyPlan) → fault_of plan ≡ None → cut_fault plan ≡ None → HaveNumbers plan.switches
    → (exprs : List Policy) (seen : List Bool) (tables : List LeafTable) (up : List Bool) (hops : ℕ)
    → IsSoundTopology (setting plan exprs seen tables up hops)

-- what agreement asks of members' tables
pub record HasSoundTables (s : Setting) : Type 0 where
  -- each member has a sound table, and those of left operands of `+` set nothing and pass nothing on
  pub switches : (v : ℕ) (x : SwitchOf) → slice_get s.network.switches v ≡ Some x → IsSoundSwitch s.network.tables x
  -- members send packets to ports of their own virtual switch alone
  pub within : (v : ℕ) (x : SwitchOf) → slice_get s.network.switches v ≡ Some x
      → EachMember (λ i. TableGoesWithin v (slice_get s.network.tables i)) x.expr
  -- those of a whole virtual switch see and name its outside ports alone
  pub names :
      (v : ℕ) (x : SwitchOf) → slice_get s.network.switches v ≡ Some x → x.whole ≡ true
      → EachMember (λ i. TableKeepsTo x.outside (slice_get s.network.tables i)) x.expr

-- with such tables, and levels that suffice, the setting is sound
abbrev pub SettingsAreSound : Type 0
SettingsAreSound = (s : Setting) → IsSoundTopology s → HasSoundTables s → 0 < s.hops → SizesFit s → IsSoundSetting s
