-- What holds of each policy: its numbers are in range, and it fits together.
use Rattle.std.specs.Prelude.{◌≡◌, ◌==◌, ◌&&◌, ℕ, ◌≤◌, ◌<◌, Bool, true, false, is_none, is_some, List, [], ◌∷◌, length}
use Rattle.std.specs.Prelude.{Option, None, Some, IfSome, IsOk, IfOk, slice_get, if◌then◌else◌}
use Rattle.std.specs.List.{AllByRecursion, list_any}
use Rattle.of10_actions.specs.Ports.{AreRising}
use Rattle.of10_match.specs.Fields.{MatchOf}
use Rattle.of10_match.specs.Matching.{overlaps}
use Rattle.of10_match.specs.Normal.{IsNormal}
use Rattle.of10_match.specs.Ranges.{IsMatch}
use Rattle.grants.specs.declared.grant.Grant.{Grant}
use Rattle.virtual_topology.specs.declared.plan.SwitchItem.{SwitchItem}
use Rattle.virtual_topology.specs.declared.plan.VirtualItem.{VirtualItem}
use Rattle.virtual_topology.specs.declared.plan.VirtualPort.{VirtualPort}
use Rattle.virtual_topology.specs.Places.{same_name}
use Rattle.virtual_topology.specs.Faults.{fault_of}
use Rattle.inner_paths.specs.Cuts.{cut_fault}
use Rattle.policy_expr.specs.Policy as expr
use Rattle.policies.specs.declared.policy.MemberItem.{MemberItem}
use Rattle.policies.specs.Exprs.{exprs_of}
use Rattle.policies.specs.Policies.{PolicyOf, plan}
use Rattle.policies.specs.Names.{is_address, is_name}
use Rattle.policies.specs.Widths.{too_wide_in}

-- a member stands at the virtual switch that it names
abbrev pub StandsAt : List VirtualItem → MemberItem → Type 0
StandsAt virtuals m = IfSome (slice_get virtuals m.grant.ports.v) (λ (v : VirtualItem). v.name ≡ m.vsw)

-- each item is so to those before it
abbrev pub EachToEarlier : {A : Type 0} → (A → A → Type 0) → List A → Type 0
EachToEarlier R [] = Unit {0}
EachToEarlier R (x ∷ xs) = AllByRecursion (λ y. R y x) xs × EachToEarlier R xs

-- a box of a region: values are in their ranges, each field that is named stands with those that it needs, and no port
-- is named
pub record IsSoundBox (m : MatchOf) : Type 0 where
  pub range : IsMatch m
  pub normal : IsNormal m
  pub port : m.in_port ≡ None

-- a box holds no header that the earlier one holds
abbrev pub LiesApart : MatchOf → MatchOf → Type 0
LiesApart later earlier = overlaps earlier later ≡ false

-- a link port of this number, or an outside port
abbrev pub is_at_side : Bool → ℕ → VirtualPort → Bool
is_at_side links port q = (q.port == port) && (if links then is_none q.at else is_some q.at)

-- the virtual switch has such a port
abbrev pub has_at_side : VirtualItem → Bool → ℕ → Bool
has_at_side v links port = list_any (is_at_side links port) v.ports

-- what a grant shows of a virtual switch: ports that it has, in rising order, and boxes of which no two hold a header
pub record IsSoundGrant (g : Grant) (v : VirtualItem) : Type 0 where
  pub rising : AreRising g.ports
  pub outside : AllByRecursion (λ port. has_at_side v false port ≡ true) g.ports.outside
  pub links : AllByRecursion (λ port. has_at_side v true port ≡ true) g.ports.links
  pub boxes : AllByRecursion IsSoundBox g.regions
  pub apart : EachToEarlier LiesApart g.regions

-- what holds of each member
pub record IsSoundMember (virtuals : List VirtualItem) (m : MemberItem) : Type 0 where
  pub controller : is_name m.controller ≡ true
  pub there : m.grant.ports.v < length virtuals
  pub stands : StandsAt virtuals m
  pub grant : IfSome (slice_get virtuals m.grant.ports.v) (IsSoundGrant m.grant)
  pub least_bits : 2 ≤ m.bits
  pub most_bits : m.bits ≤ 15
  pub some_entries : 1 ≤ m.entries
  pub most_entries : m.entries ≤ 4096
  pub address : is_address m.address ≡ true

-- the ports of a physical switch have numbers of ports
abbrev pub IsPortNumber : ℕ → Type 0
IsPortNumber n = (1 ≤ n) × (n ≤ 65279)

-- two ports of a physical switch have two numbers
abbrev pub IsOtherPort : ℕ → ℕ → Type 0
IsOtherPort later earlier = (later == earlier) ≡ false

pub record IsSoundSwitch (s : SwitchItem) : Type 0 where
  pub name : is_name s.name ≡ true
  pub ports : AllByRecursion IsPortNumber s.ports
  pub once : EachToEarlier IsOtherPort s.ports

-- and so have those of a virtual switch
pub record IsSoundVirtual (v : VirtualItem) : Type 0 where
  pub name : is_name v.name ≡ true
  pub ports : AllByRecursion (λ (q : VirtualPort). IsPortNumber q.port) v.ports

-- two switches have neither one name nor one datapath id
pub record AreUnlikeSwitches (a b : SwitchItem) : Type 0 where
  pub names : same_name a.name b.name ≡ false
  pub dpids : (a.dpid == b.dpid) ≡ false

pub record AreUnlikeVirtuals (a b : VirtualItem) : Type 0 where
  pub names : same_name a.name b.name ≡ false
  pub dpids : (a.dpid == b.dpid) ≡ false

-- a member has a controller at a virtual switch of this name
abbrev pub is_at : List ℕ → List ℕ → MemberItem → Bool
is_at controller vsw m = same_name controller m.controller && same_name vsw m.vsw

-- two members aren't one controller at one virtual switch
abbrev pub AreUnlikeMembers : MemberItem → MemberItem → Type 0
AreUnlikeMembers a b = is_at a.controller a.vsw b ≡ false

-- numbers and texts are in range
pub record KeepsLimits (p : PolicyOf) : Type 0 where
  pub first_version : 1 ≤ p.version
  pub last_version : p.version ≤ 2
  pub some_hops : 1 ≤ p.hops
  pub most_hops : p.hops ≤ 4
  pub some_rounds : 1 ≤ p.rounds
  pub most_rounds : p.rounds ≤ 1000000
  pub listen : is_address p.listen ≡ true
  pub standby : IfSome p.standby (λ address. is_address address ≡ true)
  pub few_members : length p.members ≤ 32
  pub members : AllByRecursion (IsSoundMember p.virtuals) p.members
  pub switches : AllByRecursion IsSoundSwitch p.switches
  pub virtuals : AllByRecursion IsSoundVirtual p.virtuals
  pub unlike_switches : EachToEarlier AreUnlikeSwitches p.switches
  pub unlike_virtuals : EachToEarlier AreUnlikeVirtuals p.virtuals
  pub unlike_members : EachToEarlier AreUnlikeMembers p.members

-- its expressions are such over its members, its topology and paths can be made, and no virtual switch needs more
-- levels
-- than there are
pub record FitsTogether (p : PolicyOf) : Type 0 where
  pub expressions : IsOk (exprs_of p.virtuals p.members)
  pub topology : fault_of (plan p) ≡ None
  pub paths : cut_fault (plan p) ≡ None
  pub widths : IfOk (exprs_of p.virtuals p.members) (λ exprs. too_wide_in (plan p) p.members exprs p.hops ≡ None)

pub record IsSound (p : PolicyOf) : Type 0 where
  pub limits : KeepsLimits p
  pub together : FitsTogether p
