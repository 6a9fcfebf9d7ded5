-- What an event does: its frame as it was judged or heard, and the draft as it begins.
use Rattle.std.proofs.Common.{◌≡◌, ◌∙◌, ℕ, zero, suc, ◌<◌, ◌^◌, List, [], ◌∷◌, Option, None, Some, length, map, refl}
use Rattle.std.proofs.Common.{slice_get, subst, sym, ap}
use Rattle.std.proofs.lemmas.List.{length-map}
use Rattle.cv_io.specs.declared.leaf.Session.{Session}
use Rattle.cv_io.specs.declared.leaf.Who.{Who}
use Rattle.cv_io.specs.declared.leaf.Who.TheVariants.{Audit, Member, Switch}
use Rattle.events.specs.declared.event.Event.{Event}
use Rattle.events.specs.declared.event.Event.TheVariants.{Up, Msg, Gone, Tick, Take, Policy}
use Rattle.of10_frames.specs.Frames.{IsFrame}
use Rattle.policies.specs.Policies.{PolicyOf}
use Rattle.policies.specs.declared.policy.MemberItem.{MemberItem}
use Rattle.machine_meaning.specs.Acting.{act_on}
use Rattle.machine_meaning.specs.Composing.{compose}
use Rattle.machine_meaning.specs.Drafts.{Draft, untouched}
use Rattle.machine_meaning.specs.MemberMessages.{hears_from, hears_member}
use Rattle.machine_meaning.specs.Rounds.{Closing, close}
use Rattle.machine_meaning.specs.Settling.{settle}
use Rattle.machine_meaning.specs.States.{MemberOf, State}
use Rattle.machine_meaning.specs.Ticking.{ticks}
use Rattle.event_acts.specs.Acts.{IsJudgedFor, IsJudgedFrom, WasJudgedAt, WasJudgedFor, WasJudgedFrom}
use Rattle.event_acts.specs.InsideHearing.{IsJudgedAt}
use Rattle.machine_drafts.specs.InsideRequests.{AreSendable}
use Rattle.machine_drafts.specs.InsideTicking.{AreFresh}
use Rattle.machine_drafts.specs.Machines.{at_moment, bases_of, state_in_held}
use Rattle.machine_drafts.specs.MemberDrafts.{MemberDraftOf, standing_member}
use Rattle.machine_drafts.specs.Moments.{IsOfEvent, moment_of}
use Rattle.machine_drafts.specs.Outcomes.{Bases, bases, draft_in, member_bases, members_in}
use Rattle.event_acts.specs.Overtaking.{IsHeardOf, IsWhole}
use Rattle.machine_drafts.specs.Outcomes.{HaveNumbers}
use Rattle.machine_drafts.specs.Views.{member_of}
use Rattle.event_acts.specs.declared.heard.Heard.{Heard}
use Rattle.machine_drafts.specs.declared.held.Held.{Held}
use Rattle.event_acts.specs.declared.judging.Judged.{Judged}
use Rattle.machine_drafts.specs.declared.outcome.Outcome.{Outcome}
use Rattle.machine_drafts.specs.declared.session.Member.{Member as MemberHeld}
use Rattle.event_acts.proofs.SentStays.{close_stays, compose_stays, settle_stays}
use Rattle.event_acts.proofs.WasJudged.{drafted_at, stand_as, was_judged}

-- frames ------------------------------------------------------------------------------------------------------------

-- what is known of an event that is a frame
pub frame_whole : (e : Event) (session : Session) (frame : List ℕ) → e ≡ Msg session frame → IsWhole e → IsFrame frame
frame_whole e session frame is h = subst IsWhole is h

pub frame_judged : (p : PolicyOf) (o : Outcome) (e : Event) (session : Session) (frame : List ℕ)
    (judged : Option Judged) → e ≡ Msg session frame → WasJudgedFor p o e judged
    → WasJudgedFrom p o session.who frame judged
frame_judged p o e session frame judged is h = subst (λ (z : Event). WasJudgedFor p o z judged) is h

pub frame_heard : (e : Event) (session : Session) (frame : List ℕ) (h : Heard) (s : State) → e ≡ Msg session frame
    → IsHeardOf e h s → IsHeardOf (Msg session frame) h s
frame_heard e session frame h s is heard = subst (λ (z : Event). IsHeardOf z h s) is heard

-- a Tick tells the moment of its draft
pub tick_acts : (p : PolicyOf) (e : Event) (second : ℕ) (o : Outcome) → e ≡ Tick second → IsOfEvent e (bases o)
    → ticks p o.moment (draft_in o) ≡ act_on p e (draft_in o)
tick_acts p e second o is moment =
    let told : second ≡ o.moment = subst (λ (z : Event). IsOfEvent z (bases o)) is moment in
    ap (λ (t : ℕ). ticks p t (draft_in o)) (sym told) ∙ ap (λ (z : Event). act_on p z (draft_in o)) (sym is)

-- nothing comes of a frame of nobody
of_nobody : (p : PolicyOf) (n : ℕ) (m : Option MemberItem) (x : Option MemberOf) (frame : List ℕ) (d : Draft)
    → ((a : MemberItem) (y : MemberOf) → m ≡ Some a → x ≡ Some y → ⊥) → hears_from p n m x frame d ≡ d
of_nobody p n None None frame d h = refl
of_nobody p n None (Some y) frame d h = refl
of_nobody p n (Some a) None frame d h = refl
of_nobody p n (Some a) (Some y) frame d h = absurd (h a y refl refl)

-- a member that is drafted has a draft
drafted_there : (xs : List MemberDraftOf) (n : ℕ) (y : MemberOf) → slice_get (members_in xs) n ≡ Some y
    → (x : MemberDraftOf) × (slice_get xs n ≡ Some x)
drafted_there [] n y e = absurd (cc)
drafted_there (x ∷ xs) zero y e = (x, refl)
drafted_there (x ∷ xs) (suc n) y e = drafted_there xs n y e

pub nobody_heard : (p : PolicyOf) (o : Outcome) (n : ℕ) (frame : List ℕ) → WasJudgedAt p o n frame None
    → draft_in o ≡ hears_member p n frame (draft_in o)
nobody_heard p o n frame h =
    sym (of_nobody p n (slice_get p.members n) (slice_get (members_in o.members) n) frame (draft_in o)
    (λ a y item there. let x = drafted_there o.members n y there in h a x.0 item x.1))

-- a frame of nobody but a member isn't judged
pub judged_none : (p : PolicyOf) (h : Held) (e : Event)
    → ((session : Session) (frame : List ℕ) → e ≡ Msg session frame → ⊥) → IsJudgedFor p h e None
judged_none p h (Up who arp) other = refl
judged_none p h (Msg session frame) other = absurd (other session frame refl)
judged_none p h (Gone session) other = refl
judged_none p h (Tick second) other = refl
judged_none p h (Take session) other = refl
judged_none p h (Policy v text) other = refl

none_judged : (p : PolicyOf) (h : Held) (who : Who) (frame : List ℕ) → ((n : ℕ) → who ≡ Member n → ⊥)
    → IsJudgedFrom p h who frame None
none_judged p h (Member n) frame other = absurd (other n refl)
none_judged p h (Switch n) frame other = refl
none_judged p h Audit frame other = refl

pub judged_no_member : (p : PolicyOf) (h : Held) (e : Event) (session : Session) (frame : List ℕ)
    → e ≡ Msg session frame → ((n : ℕ) → session.who ≡ Member n → ⊥) → IsJudgedFor p h e None
judged_no_member p h e session frame is other =
    subst (λ (z : Event). IsJudgedFor p h z None) (sym is) (none_judged p h session.who frame other)

-- a member's is
pub judged_member : (p : PolicyOf) (h : Held) (e : Event) (session : Session) (frame : List ℕ) (n : ℕ)
    (judged : Option Judged) → e ≡ Msg session frame → session.who ≡ Member n
    → IsJudgedAt p h.members n h.moment frame judged → IsJudgedFor p h e judged
judged_member p h e session frame n judged is who j =
    subst (λ (z : Event). IsJudgedFor p h z judged) (sym is)
    (subst (λ (w : Who). IsJudgedFrom p h w frame judged) (sym who) j)

-- what is held is as it was, but for room in a table
pub state_judged : (h : Held) (xs : List MemberHeld) → map member_of xs ≡ map member_of h.members
    → state_in_held (record h { members = xs }) ≡ state_in_held h
state_judged h xs e = ap (λ (ys : List MemberOf). record (state_in_held h) { members = ys }) e

-- the draft as it begins --------------------------------------------------------------------------------------------

module _ (h : Held) (now : ℕ) (o : Outcome) (begun : draft_in o ≡ untouched (at_moment now (state_in_held h)))
    (beside : bases o ≡ bases_of now h) where
  members_stand : members_in o.members ≡ map member_of h.members
  members_stand = ap (λ (d : Draft). d.state.members) begun

  bases_stand : member_bases o.members ≡ h.members
  bases_stand = ap (λ (b : Bases). b.members) beside

  pub fresh_begun : AreFresh o.members
  fresh_begun = members_stand ∙ ap (λ (xs : List MemberHeld). map member_of xs) (sym bases_stand)

  pub nothing_sent : AreSendable o.sent
  nothing_sent = subst (λ (d : Draft). AreSendable d.sent) (sym begun) tt

  stand_begun : o.members ≡ map (standing_member o.moment) h.members
  stand_begun =
      stand_as now o.members h.members bases_stand (ap (λ (b : Bases). b.moments) beside) members_stand
      ∙ ap (λ (t : ℕ). map (standing_member t) h.members) (sym (ap (λ (b : Bases). b.moment) beside))

  module _ (p : PolicyOf) (told : o.moment ≡ h.moment) where
    judged_there : (n : ℕ) (frame : List ℕ) (judged : Option Judged) → IsJudgedAt p h.members n h.moment frame judged
        → WasJudgedAt p o n frame judged
    judged_there n frame None j = λ m x item there.
        let found = drafted_at o.moment h.members n x
        (ap (λ (xs : List MemberDraftOf). slice_get xs n) (sym stand_begun) ∙ there) in
        j m found.0 item found.1
    judged_there n frame (Some judged) j =
        was_judged p h.members o n frame judged stand_begun
        (subst (λ (t : ℕ). IsJudgedAt p h.members n t frame (Some judged)) (sym told) j)

    judged_of : (who : Who) (frame : List ℕ) (judged : Option Judged) → IsJudgedFrom p h who frame judged
        → WasJudgedFrom p o who frame judged
    judged_of (Member n) frame judged j = judged_there n frame judged j
    judged_of (Switch n) frame judged j = tt
    judged_of Audit frame judged j = tt

-- what was judged by what is held was judged by the draft as it begins
pub judged_begun : (p : PolicyOf) (h : Held) (now : ℕ) (e : Event) (o : Outcome) (judged : Option Judged)
    → draft_in o ≡ untouched (at_moment now (state_in_held h)) → bases o ≡ bases_of now h → now ≡ moment_of e h.moment
    → IsJudgedFor p h e judged → WasJudgedFor p o e judged
judged_begun p h now (Up who arp) o judged begun beside is j = tt
judged_begun p h now (Msg session frame) o judged begun beside is j =
    judged_of h now o begun beside p (ap (λ (b : Bases). b.moment) beside ∙ is) session.who frame judged j
judged_begun p h now (Gone session) o judged begun beside is j = tt
judged_begun p h now (Tick second) o judged begun beside is j = tt
judged_begun p h now (Take session) o judged begun beside is j = tt
judged_begun p h now (Policy v text) o judged begun beside is j = tt

-- there are few members, whatever the moment
pub few_begun : (h : Held) (now told : ℕ) (o : Outcome) → bases o ≡ bases_of now h → HaveNumbers (bases_of told h)
    → length o.members < 2 ^ 32
few_begun h now told o beside few =
    subst (λ (k : ℕ). k < 2 ^ 32)
    (sym (sym (length-map o.members (λ (x : MemberDraftOf). x.base))
    ∙ ap (λ (b : Bases). length b.members) beside))
    few.members

-- what leaves is as short after the phases as before them
pub sendable_after : (p : PolicyOf) (c : Closing) (acted closed settled composed : Draft) → closed ≡ close c acted
    → settled ≡ settle p closed → composed ≡ compose p settled → AreSendable acted.sent → AreSendable composed.sent
sendable_after p c acted closed settled composed is_closed is_settled is_composed all =
    subst AreSendable
    (sym (ap (λ (d : Draft). d.sent) is_composed ∙ (compose_stays p settled
    ∙ (ap (λ (d : Draft). d.sent) is_settled ∙ (settle_stays p closed
    ∙ (ap (λ (d : Draft). d.sent) is_closed ∙ close_stays c acted))))))
    all
