-- The physical switches of a virtual switch.
use Rattle.std.specs.Prelude.{◌≡◌, ℕ, Bool, true, false, Some, length, slice_get}
use Rattle.std.specs.List.{list_any}
use Rattle.std.specs.Option.{option_map_or}
use Rattle.policy_meaning.specs.Hops.{peer_of}
use Rattle.policy_meaning.specs.Networks.{switch_links}
use Rattle.policy_meaning.specs.declared.network.Network.{Network}
use Rattle.policy_meaning.specs.declared.network.Place.{Place}
use Rattle.switch_meaning.specs.Fixed.{arrivals}
use Rattle.switch_meaning.specs.Wirings.{outside_at, same_spot}
use Rattle.switch_meaning.specs.declared.wiring.Outside.{Outside}
use Rattle.agreement.specs.declared.state.PhysicalSwitch.{PhysicalSwitch}
use Rattle.agreement.specs.declared.state.Setting.{Setting}

-- whether a physical switch is up
abbrev pub is_up : Setting → ℕ → Bool
is_up s switch = option_map_or (λ (x : PhysicalSwitch). x.up) (slice_get s.switches switch) false

-- links lead from one virtual switch to the other, directly or through others
pub data LeadsTo (net : Network) : ℕ → ℕ → Type 0 where
  at_once : {v : ℕ} → LeadsTo net v v
  over : {v u : ℕ} (p : ℕ) (q : Place) → peer_of (switch_links (slice_get net.switches v)) p ≡ Some q
      → LeadsTo net q.v u → LeadsTo net v u

-- the switches of a virtual switch: where it, or one to which links lead from it, has an outside port, and those on
-- the ways between its outside ports
pub data IsSwitchOf (s : Setting) (v : ℕ) : ℕ → Type 0 where
  lies : (u p : ℕ) (o : Outside) → LeadsTo s.network v u → outside_at s.wiring u p ≡ Some o → IsSwitchOf s v o.at.switch
  between : {switch : ℕ} (p q port : ℕ) (a b : Outside) → outside_at s.wiring v p ≡ Some a
      → outside_at s.wiring v q ≡ Some b →
      list_any (same_spot (record { switch = switch; port = port }))
      (arrivals s.wiring (length s.wiring.cables) a.at.switch b.at.switch) ≡ true → IsSwitchOf s v switch

-- all switches of a virtual switch are up
abbrev pub AreUp : Setting → ℕ → Type 0
AreUp s v = (switch : ℕ) → IsSwitchOf s v switch → is_up s switch ≡ true
