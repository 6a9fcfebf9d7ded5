-- What the frame of an event was judged to be: of what is held, before the event is drafted, and of its draft.
use Rattle.std.specs.Prelude.{◌≡◌, ℕ, List, Option, None, Some, slice_get}
use Rattle.cv_io.specs.declared.leaf.Who.{Who}
use Rattle.cv_io.specs.declared.leaf.Who.TheVariants.{Member}
use Rattle.events.specs.declared.event.Event.{Event}
use Rattle.events.specs.declared.event.Event.TheVariants.{Msg}
use Rattle.policies.specs.Policies.{PolicyOf}
use Rattle.policies.specs.declared.policy.MemberItem.{MemberItem}
use Rattle.event_acts.specs.InsideHearing.{IsJudgedAt, WasJudged}
use Rattle.machine_drafts.specs.MemberDrafts.{MemberDraftOf}
use Rattle.machine_drafts.specs.declared.held.Held.{Held}
use Rattle.event_acts.specs.declared.judging.Judged.{Judged}
use Rattle.machine_drafts.specs.declared.outcome.Outcome.{Outcome}

-- what came of a frame of a session, by what is held: only a member's is judged
abbrev pub IsJudgedFrom : PolicyOf → Held → Who → List ℕ → Option Judged → Type 0
IsJudgedFrom p h (Member n) frame judged = IsJudgedAt p h.members n h.moment frame judged
IsJudgedFrom p h who frame judged = judged ≡ None

-- and of the frame of an event
abbrev pub IsJudgedFor : PolicyOf → Held → Event → Option Judged → Type 0
IsJudgedFor p h (Msg session frame) judged = IsJudgedFrom p h session.who frame judged
IsJudgedFor p h e judged = judged ≡ None

-- a frame of the member of a number was judged by the draft, or there is no such member
abbrev pub WasJudgedAt : PolicyOf → Outcome → ℕ → List ℕ → Option Judged → Type 0
WasJudgedAt p o n frame None =
    (m : MemberItem) (x : MemberDraftOf) → slice_get p.members n ≡ Some m → slice_get o.members n ≡ Some x → ⊥
WasJudgedAt p o n frame (Some judged) = WasJudged p o n frame judged

abbrev pub WasJudgedFrom : PolicyOf → Outcome → Who → List ℕ → Option Judged → Type 0
WasJudgedFrom p o (Member n) frame judged = WasJudgedAt p o n frame judged
WasJudgedFrom p o who frame judged = Unit {0}

-- and the frame of an event
abbrev pub WasJudgedFor : PolicyOf → Outcome → Event → Option Judged → Type 0
WasJudgedFor p o (Msg session frame) judged = WasJudgedFrom p o session.who frame judged
WasJudgedFor p o e judged = Unit {0}
