-- What is known of a member as its frame is heard.
use Rattle.std.specs.Prelude.{◌≡◌, ℕ, List, Option, None, Some, slice_get}
use Rattle.of10_msgs.specs.declared.message.Body.{Body}
use Rattle.of10_msgs.specs.declared.message.FlowMod.{FlowMod}
use Rattle.member_state.specs.declared.planned.Planned.{Planned}
use Rattle.policies.specs.Policies.{PolicyOf}
use Rattle.policies.specs.declared.policy.MemberItem.{MemberItem}
use Rattle.event_acts.specs.InsideJudging.{Asks, IsJudged, IsPlannedFor}
use Rattle.machine_drafts.specs.MemberDrafts.{MemberDraftOf}
use Rattle.machine_meaning.specs.Names.{all_ports, virtual_of}
use Rattle.event_acts.specs.declared.judging.Judged.{Judged}
use Rattle.event_acts.specs.declared.judging.Request.{Request}
use Rattle.machine_drafts.specs.declared.outcome.Outcome.{Outcome}
use Rattle.machine_drafts.specs.declared.session.Member.{Member}

-- the draft of the member of a number, of which nothing is drafted yet, at a moment
pub record StandsAt (members : List MemberDraftOf) (now n : ℕ) (x : MemberDraftOf) : Type 0 where
  pub there : slice_get members n ≡ Some x
  pub moment : x.moment ≡ now
  pub kept : x.now.kept ≡ x.base.kept.state

-- what is planned for a FLOW_MOD of the member of a number
pub record IsPlannedAt (members : List MemberDraftOf) (now n : ℕ) (m : FlowMod) (planned : Planned) : Type 0 where
  pub x : MemberDraftOf
  pub stands : StandsAt members now n x
  pub body : Body
  pub plans : IsPlannedFor x.base.kept now body m planned

-- the member of a number asks for this
pub record IsAsked (members : List MemberDraftOf) (now n : ℕ) (request : Request) : Type 0 where
  pub x : MemberDraftOf
  pub stands : StandsAt members now n x
  pub body : Body
  pub asks : Asks x.base.kept now body request

-- a frame of the member of a number was judged by what stands of it, at the moment of the draft
abbrev pub WasJudged : PolicyOf → Outcome → ℕ → List ℕ → Judged → Type 0
WasJudged p o n frame judged =
    (m : MemberItem) (x : MemberDraftOf) → slice_get p.members n ≡ Some m → slice_get o.members n ≡ Some x
    → StandsAt o.members o.moment n x
    × IsJudged m.grant (all_ports p (virtual_of m)) x.base.kept o.moment frame judged

-- what came of a frame of the member of a number, judged by what stands of it at a moment; of nobody's frame nothing
-- comes
abbrev pub IsJudgedAt : PolicyOf → List Member → ℕ → ℕ → List ℕ → Option Judged → Type 0
IsJudgedAt p members n now frame None =
    (m : MemberItem) (y : Member) → slice_get p.members n ≡ Some m → slice_get members n ≡ Some y → ⊥
IsJudgedAt p members n now frame (Some judged) =
    (m : MemberItem) (y : Member) → slice_get p.members n ≡ Some m → slice_get members n ≡ Some y
    → IsJudged m.grant (all_ports p (virtual_of m)) y.kept now frame judged
