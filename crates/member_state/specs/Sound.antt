-- What is true of a member's state, and that its leaf table is as composition and agreement ask.
use Rattle.std.specs.Prelude.{◌≡◌, ◌==◌, ◌<◌, ℕ, true, false, None, Some, List, ◌++◌}
use Rattle.std.specs.List.{AllByRecursion}
use Rattle.of10_match.specs.Fields.{MatchOf}
use Rattle.of10_match.specs.Matching.{overlaps}
use Rattle.of10_match.specs.Normal.{IsNormal}
use Rattle.of10_actions.specs.Numbers.{MAX}
use Rattle.of10_actions.specs.declared.effects.PortView.{PortView}
use Rattle.of10_msgs.specs.declared.message.FlowMod.{FlowMod}
use Rattle.grants.specs.Granted.{IsGranted}
use Rattle.grants.specs.declared.grant.Grant.{Grant}
use Rattle.member_table.specs.declared.entry.Entry.{Entry}
use Rattle.policy_meaning.specs.Disjoint.{IsTableOfMember}
use Rattle.policy_meaning.specs.EveryNode.{HasPlainTable}
use Rattle.policy_meaning.specs.Fitting.{IsFittingTable}
use Rattle.policy_meaning.specs.Leaf.{has_port}
use Rattle.policy_meaning.specs.LeafFact.{EachPair, IsSoundTable}
use Rattle.policy_meaning.specs.Ranged.{EntriesInRange}
use Rattle.agreement.specs.Premises.{TableGoesWithin, TableKeepsTo}
use Rattle.member_state.specs.Changes.{accepted, expired, touched, without}
use Rattle.member_state.specs.Denials.{denial}
use Rattle.member_state.specs.Leaves.{leaf_of}
use Rattle.member_state.specs.States.{IsSoundState, MemberStateOf}

-- each entry is one that the grant lets through, at a virtual switch of these ports
abbrev pub AreWithin : Grant → PortView → MemberStateOf → Type 0
AreWithin g v x = AllByRecursion (λ (e : Entry). IsGranted g v e.normal e.actions) x.table.entries

-- entries stay within their grant
pub record StayWithin (g : Grant) (v : PortView) (x : MemberStateOf) : Type 0 where
  pub message : (m : FlowMod) (now : ℕ) → denial g v x m ≡ None → AreWithin g v (accepted m now x)
  pub time : (now : ℕ) → AreWithin g v (expired now x)
  pub removal : (serial : ℕ) → AreWithin g v (without serial x)
  pub count : (serial now : ℕ) → AreWithin g v (touched serial now x)

abbrev pub GrantsAreKept : Type 0
GrantsAreKept = (g : Grant) (v : PortView) (x : MemberStateOf) → AreWithin g v x → StayWithin g v x

-- a box names no port
abbrev pub NamesNoPort : MatchOf → Type 0
NamesNoPort m = m.in_port ≡ None

-- what is asked of a grant: the boxes of its region are normal, don't overlap and name no port; no port is named
-- twice, and link ports have numbers of ports
pub record IsSoundGrant (g : Grant) : Type 0 where
  pub boxes : AllByRecursion IsNormal g.regions
  pub disjoint : EachPair (λ m n. overlaps m n ≡ false) g.regions
  pub portless : AllByRecursion NamesNoPort g.regions
  pub visible : EachPair (λ p q. (q == p) ≡ false) (g.ports.outside ++ g.ports.links)
  pub numbers : AllByRecursion (λ p. p < MAX) g.ports.links

-- the leaf table of a sound state is sound, its numbers fit and are in range, its entries differ, and its outs go to
-- ports of the member's virtual switch alone
pub record IsSoundLeaf (i : ℕ) (g : Grant) (x : MemberStateOf) : Type 0 where
  pub sound : IsSoundTable (leaf_of i g x)
  pub fits : IsFittingTable (leaf_of i g x)
  pub in_range : EntriesInRange (leaf_of i g x)
  pub of_member : IsTableOfMember i (leaf_of i g x)
  pub within : TableGoesWithin g.ports.v (Some (leaf_of i g x))

abbrev pub MemberTablesAreSound : Type 0
MemberTablesAreSound = (i : ℕ) (g : Grant) (x : MemberStateOf) → IsSoundGrant g → IsSoundState x → IsSoundLeaf i g x

-- entries within a grant name visible ports alone, so where all of these are among some ports, they keep to those
abbrev pub MembersKeepToPorts : Type 0
MembersKeepToPorts =
    (i : ℕ) (g : Grant) (v : PortView) (x : MemberStateOf) (ports : List ℕ) → IsSoundGrant g → AreWithin g v x
    → AllByRecursion (λ p. has_port ports p ≡ true) (g.ports.outside ++ g.ports.links)
    → TableKeepsTo ports (Some (leaf_of i g x))

-- where outputs and CONTROLLER alone are granted, entries set nothing and pass nothing on
abbrev pub PlainGrantsGivePlainTables : Type 0
PlainGrantsGivePlainTables =
    (i : ℕ) (g : Grant) (v : PortView) (x : MemberStateOf) → IsSoundGrant g → g.actions < 4 → AreWithin g v x
    → HasPlainTable (Some (leaf_of i g x))
