-- What an event makes of a member, beside the member as it stands.
use Rattle.std.specs.Prelude.{◌≡◌, ℕ, Bool, not, ◌&&◌, ◌||◌, Option, Some, None, List, IsPermutation, option_to_list}
use Rattle.std.specs.List.{AllByRecursion, list_any}
use Rattle.grants.specs.declared.grant.Grant.{Grant}
use Rattle.incr_compile.specs.Compiling.{rules_after}
use Rattle.incr_compile.specs.declared.compiled.LeafDelta.{LeafDelta}
use Rattle.member_table.specs.Changes.{is_among}
use Rattle.member_table.specs.Entries.{has_serial}
use Rattle.member_table.specs.declared.entry.Entry.{Entry}
use Rattle.member_state.specs.Leaves.{leaf_of}
use Rattle.member_state.specs.Plans.{IsReady, after_planned}
use Rattle.member_state.specs.States.{HeldState, MemberStateOf}
use Rattle.member_state.specs.declared.planned.Planned.{Planned}
use Rattle.leaf_changes.specs.Plans.{IsPlanOf}
use Rattle.outbox.specs.Outboxes.{turned}
use Rattle.policy_meaning.specs.LeafRules.{leaf_rules}
use Rattle.outbox.specs.declared.outbox.Turn.{Turn}
use Rattle.machine_meaning.specs.States.{MemberOf}
use Rattle.machine_drafts.specs.Views.{member_of}
use Rattle.machine_drafts.specs.declared.member_draft.Kept.{Kept}
use Rattle.machine_drafts.specs.declared.member_draft.Kept.TheVariants.{Standing, Drafted}
use Rattle.machine_drafts.specs.declared.session.Member.{Member}
use Rattle.machine_meaning.specs.declared.state.Config.{Config}

-- the member as it stands, the moment of the event, and the member as the event leaves it so far
pub record MemberDraftOf : Type 0 where
  pub base : Member
  pub moment : ℕ
  pub now : MemberOf

-- its table and levels after what is planned at a moment, if anything is
abbrev pub kept_after : MemberStateOf → Option Planned → ℕ → MemberStateOf
kept_after x None now = x
kept_after x (Some planned) now = after_planned x planned now

-- what is planned can be made
abbrev pub IsReadyPlan : HeldState → Option Planned → Type 0
IsReadyPlan h None = Unit {0}
IsReadyPlan h (Some planned) = IsReady h planned

-- and its changes told
abbrev pub IsPlannedOf : MemberStateOf → Option Planned → Type 0
IsPlannedOf x None = Unit {0}
IsPlannedOf x (Some planned) = IsPlanOf x planned

-- the member after a turn of its session, with this configuration, and after what is planned
abbrev pub member_after : Member → ℕ → Turn → Config → Option Planned → MemberOf
member_after x now turn config planned = record {
  outbox = turned turn x.outbox;
  config = config;
  kept = kept_after x.kept.state planned now;
}

-- a draft that makes something else of the member
abbrev pub with_now : (MemberOf → MemberOf) → MemberDraftOf → MemberDraftOf
with_now f d = record d { now = f d.now }

-- the table and the levels are as they stand
abbrev pub IsUnplanned : MemberDraftOf → Type 0
IsUnplanned d = d.now.kept ≡ d.base.kept.state

-- of the entries that its table had, exactly those of these numbers are there no more
abbrev pub LosesExactly : List ℕ → MemberDraftOf → Type 0
LosesExactly lost d =
    AllByRecursion
    (λ (e : Entry). list_any (has_serial e.serial) d.now.kept.table.entries ≡ not (is_among lost e.serial))
    d.base.kept.state.table.entries

-- whether the entry of a number is there once this is planned, where it was there or not before
abbrev pub there_then : Planned → ℕ → Bool → Bool
there_then p n stood =
    ((stood && not (is_among p.change.removed n)) || list_any (has_serial n) (option_to_list p.change.added))
    && not (is_among p.dropped n)

-- so the rules of the member of a number, with this grant, at a virtual switch of these ports, change with what is
-- planned
pub record IsLeafDelta (n : ℕ) (grant : Grant) (ports : List ℕ) (d : MemberDraftOf) (delta : LeafDelta) : Type 0 where
  pub member : delta.member ≡ n
  pub rules :
      IsPermutation (rules_after delta (leaf_rules ports (leaf_of n grant d.base.kept.state)))
      (leaf_rules ports (leaf_of n grant d.now.kept))

-- the table with its levels that is read of a draft
abbrev pub kept_state : Kept → MemberStateOf
kept_state (Standing h) = h.now.state
kept_state (Drafted h) = h.state

-- the member stays as it is
abbrev pub standing_member : ℕ → Member → MemberDraftOf
standing_member moment x = record { base = x; moment = moment; now = member_of x }
