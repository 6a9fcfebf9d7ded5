-- Next hops that lie on shortest paths are ways.
use Rattle.std.specs.Prelude.{◌≡◌, ℕ, zero, suc, ◌<◌, false, Some, None, length}
use Rattle.of10_actions.specs.Numbers.{MAX}
use Rattle.policy_meaning.specs.LeafFact.{EachPair}
use Rattle.switch_meaning.specs.Wirings.{far_end, next_hop, same_spot}
use Rattle.switch_meaning.specs.declared.wiring.SwitchPort.{SwitchPort}
use Rattle.switch_meaning.specs.declared.wiring.Wiring.{Wiring}
use Rattle.agreement.specs.declared.state.Setting.{Setting}
use Rattle.agreement.specs.Premises.{HasWay, cable_ends}

-- a cable leads from a switch to one that is such
pub record ByCable (w : Wiring) (Then : ℕ → Type 0) (from : ℕ) : Type 0 where
  pub port : ℕ
  pub peer : SwitchPort
  pub cable : far_end w (record { switch = from; port = port }) ≡ Some peer
  pub rest : Then peer.switch

-- a path of so many cables leads from one switch to another
abbrev pub HasPath : Wiring → ℕ → ℕ → ℕ → Type 0
HasPath w to zero from = from ≡ to
HasPath w to (suc n) from = ByCable w (HasPath w to n) from

-- and none of fewer
pub record IsDistance (w : Wiring) (to n from : ℕ) : Type 0 where
  pub path : HasPath w to n from
  pub least : (m : ℕ) → m < n → HasPath w to m from → ⊥

-- the next hop leads by a cable to a switch from which a path of so many cables leads on
pub record LeadsNearer (w : Wiring) (to n from : ℕ) : Type 0 where
  pub port : ℕ
  pub peer : SwitchPort
  pub hop : next_hop w from to ≡ Some port
  pub number : port < MAX
  pub cable : far_end w (record { switch = from; port = port }) ≡ Some peer
  pub path : HasPath w to n peer.switch

-- the next hops to a switch lie on shortest paths, and it has none to itself
pub record HasShortestHops (w : Wiring) (to : ℕ) : Type 0 where
  pub hops : (n from : ℕ) → IsDistance w to (suc n) from → LeadsNearer w to n from
  pub stays : next_hop w to to ≡ None

-- what is asked of cables: they end at switches of the policy, and no port has two
pub record AreSoundCables (s : Setting) : Type 0 where
  pub ends : (a b : SwitchPort) → far_end s.wiring a ≡ Some b → b.switch < length s.switches
  pub once : EachPair (λ (a b : SwitchPort). same_spot b a ≡ false) (cable_ends s.wiring.cables)

-- by such next hops there is a way from each switch from which a path leads, over no more cables than there are
abbrev pub ShortestHopsAreWays : Type 0
ShortestHopsAreWays =
    (s : Setting) → AreSoundCables s → (to : ℕ) → HasShortestHops s.wiring to
    → (n from : ℕ) → from < length s.switches → IsDistance s.wiring to n from → HasWay s from to
