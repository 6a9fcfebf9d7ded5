-- What holds of a message that no rule refuses.
use Rattle.std.specs.Prelude.{◌≡◌, ℕ, Bool, true, false, ◌==◌, ◌||◌, ◌≤◌, ◌-◌, List, length, take, sum_by, IfSome}
use Rattle.std.specs.Prelude.{IsTrue}
use Rattle.std.specs.List.{list_any, AllByRecursion}
use Rattle.of10_match.specs.Fields.{HeaderOf, MatchOf}
use Rattle.of10_actions.specs.Numbers.{IN_PORT, NORMAL, FLOOD, ALL, CONTROLLER}
use Rattle.of10_actions.specs.declared.action.Action.{Action}
use Rattle.of10_actions.specs.declared.action.Action.TheVariants as actions
use Rattle.of10_actions.specs.declared.effects.PortView.{PortView}
use Rattle.of10_msgs.specs.declared.message.PacketOut.{PacketOut}
use Rattle.grants.specs.Names.{fields}
use Rattle.grants.specs.Ports.{in_region, meets_region, sees}
use Rattle.grants.specs.Rows.{grants, is_beyond, is_end, is_port_wrong, is_refused, kind_of, weight}
use Rattle.grants.specs.declared.grant.Grant.{Grant}

-- an output isn't refused
abbrev pub IsServed : Bool → Grant → PortView → Action → Type 0
IsServed in_flow g v (actions.Output port max_len) = is_refused in_flow g v port ≡ false
IsServed in_flow g v _ = Unit {0}

-- each action's kind is granted, no output is refused, an action that ends a list is the last, and there are at most 64
pub record AreGranted (in_flow : Bool) (g : Grant) (v : PortView) (list : List Action) : Type 0 where
  pub kinds : AllByRecursion (λ a. IsTrue (grants g (kind_of in_flow g v a))) list
  pub outputs : AllByRecursion (λ a. IsServed in_flow g v a) list
  pub ends : list_any (is_end g) (take (length list - 1) list) ≡ false
  pub few : sum_by (weight g) list ≤ 64

-- each field of a match is granted, the region meets it, and its port is visible
pub record IsGrantedMatch (g : Grant) (m : MatchOf) : Type 0 where
  pub fields : AllByRecursion (λ field. is_beyond g m field ≡ false) fields
  pub region : IsTrue (meets_region g m)
  pub in_port : IfSome m.in_port (λ port. IsTrue (sees g.ports port))

-- a match and a list of actions that an entry may have
pub record IsGranted (g : Grant) (v : PortView) (m : MatchOf) (list : List Action) : Type 0 where
  pub match_ : IsGrantedMatch g m
  pub actions : AreGranted true g v list

-- a PACKET_OUT with a header that may be sent
pub record IsGrantedOut (g : Grant) (v : PortView) (m : PacketOut) (h : HeaderOf) : Type 0 where
  pub actions : AreGranted false g v m.actions
  pub allowed : IsTrue g.packet_out
  pub port : is_port_wrong g m ≡ false
  pub region : IsTrue (in_region g h)

-- an output to this number goes to a visible port, to several, to the member, or to the rest of the policy
abbrev pub goes_somewhere : PortView → ℕ → Bool
goes_somewhere view port =
    (port == IN_PORT) ||
    ((port == FLOOD) || ((port == ALL) || ((port == CONTROLLER) || ((port == NORMAL) || sees view port))))
