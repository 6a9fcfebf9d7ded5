-- A draft is put: what is moved in, or the sessions that are put more than they may be.
use Rattle.std.specs.Prelude.{◌≡◌, ◌+◌, ◌<◌, ◌^◌, ◌++◌, Bool, true, false, List, length, map, unwrap_or}
use Rattle.install_plan.specs.declared.written.Written.{Written}
use Rattle.stats_map.specs.Changes.{CanMake, made}
use Rattle.policies.specs.Policies.{PolicyOf}
use Rattle.event_ends.specs.Boxes.{addressed}
use Rattle.event_ends.specs.Closings.{closing_of}
use Rattle.machine_drafts.specs.ExprsDrafts.{replaced_in}
use Rattle.machine_drafts.specs.MemberDrafts.{MemberDraftOf}
use Rattle.machine_drafts.specs.Moving.{EachPart, IsMemberPart, IsSwitchPart, after_parts, member_moved}
use Rattle.event_ends.specs.MovingIn.{AreParts}
use Rattle.machine_drafts.specs.Moving.{member_put, standing_moved, switch_moved, switch_put}
use Rattle.event_ends.specs.MovingIn.{moved_in}
use Rattle.machine_drafts.specs.Outcomes.{Bases, IsBefore, bases, draft_in}
use Rattle.machine_meaning.specs.Phases.{is_empty, overfilled}
use Rattle.machine_meaning.specs.Putting.{lines_of, put}
use Rattle.machine_meaning.specs.States.{MemberOf, State, SwitchOf}
use Rattle.machine_drafts.specs.SwitchDrafts.{SwitchDraftOf}
use Rattle.machine_drafts.specs.Views.{member_of, standing_of, switch_of}
use Rattle.event_ends.specs.declared.boxes.Addressed.{Addressed}
use Rattle.machine_drafts.specs.declared.outcome.Outcome.{Outcome}
use Rattle.event_ends.specs.declared.putting.Drafted.{Drafted}
use Rattle.event_ends.specs.declared.putting.Trial.{Trial}
use Rattle.event_ends.specs.declared.putting.Trial.TheVariants.{Ready, Slow}
use Rattle.event_ends.specs.declared.putting.Sorted.{Sorted}
use Rattle.machine_meaning.specs.declared.said.Letter.{Letter}
use Rattle.machine_drafts.specs.declared.session.Member.{Member}
use Rattle.machine_drafts.specs.declared.session.Switch.{Switch}

-- what is said to members and to switches, in the order in which it is put
abbrev pub to_members : Outcome → List Letter
to_members o = o.answers ++ (o.ports ++ (o.settled ++ (o.removed ++ o.told)))

abbrev pub to_switches : Outcome → List Letter
to_switches o = o.batches ++ (o.polls ++ (o.packets ++ o.echoes))

-- the draft with what is said to each receiver
pub record IsSorted (p : PolicyOf) (o : Outcome) (x : Sorted) : Type 0 where
  pub moment : x.moment ≡ o.moment
  pub exprs : x.exprs ≡ o.exprs
  pub members : x.members ≡ addressed (to_members o) o.members
  pub switches : x.switches ≡ addressed (to_switches o) o.switches
  pub counts : x.counts ≡ o.counts
  pub waiting : x.waiting ≡ o.waiting
  pub owed : x.owed ≡ o.owed
  pub next_cookie : x.next_cookie ≡ o.next_cookie
  pub lines : x.lines ≡ lines_of p (draft_in o)
  pub place : length o.audit.now + length x.lines < 2 ^ 63
  pub reply : x.reply ≡ o.reply
  pub begun : x.begun ≡ o.begun

-- members, each with what it is put, and switches, and what stands on them
abbrev pub put_member : Addressed MemberDraftOf → MemberOf
put_member a = member_put a.letters a.draft.now

abbrev pub put_switch : Addressed SwitchDraftOf → SwitchOf
put_switch a = switch_put a.letters a.draft.now

abbrev pub addressed_member_bases : List (Addressed MemberDraftOf) → List Member
addressed_member_bases members = map (λ (a : Addressed MemberDraftOf). a.draft.base) members

abbrev pub addressed_switch_bases : List (Addressed SwitchDraftOf) → List Switch
addressed_switch_bases switches = map (λ (a : Addressed SwitchDraftOf). a.draft.base) switches

abbrev pub addressed_standing : List (Addressed SwitchDraftOf) → List (List Written)
addressed_standing switches = map (λ (a : Addressed SwitchDraftOf). a.draft.standing) switches

-- what is moved in of a draft
pub record IsReadyOf (x : Sorted) (d : Drafted) : Type 0 where
  pub reply : d.reply ≡ x.reply
  pub made : made d.counts x.counts.base ≡ x.counts.now
  pub can : CanMake d.counts x.counts.base
  pub moment : d.parts.moment ≡ x.moment
  pub exprs : replaced_in d.parts.exprs x.exprs.base ≡ x.exprs.now
  pub members :
      after_parts member_moved (map member_of (addressed_member_bases x.members)) d.parts.members
      ≡ map put_member x.members
  pub switches :
      after_parts switch_moved (map switch_of (addressed_switch_bases x.switches)) d.parts.switches
      ≡ map put_switch x.switches
  pub standing :
      after_parts standing_moved (map standing_of (addressed_switch_bases x.switches)) d.parts.switches
      ≡ addressed_standing x.switches
  pub member_parts : EachPart IsMemberPart (addressed_member_bases x.members) d.parts.members
  pub switch_parts : EachPart IsSwitchPart (addressed_switch_bases x.switches) d.parts.switches
  pub all_members : length d.parts.members ≡ length x.members
  pub all_switches : length d.parts.switches ≡ length x.switches
  pub waiting : unwrap_or d.parts.waiting x.waiting.base ≡ x.waiting.now
  pub owed : unwrap_or d.parts.owed x.owed.base ≡ x.owed.now
  pub next_cookie : d.parts.next_cookie ≡ x.next_cookie
  pub lines : d.parts.lines ≡ x.lines

-- what stands, once counts are changed
abbrev pub with_counts : Drafted → Bases → Bases
with_counts x b = record b { counts = made x.counts b.counts }

-- the draft can be moved in, and gives its reply, and the state in which all is put
pub record IsDrafted (p : PolicyOf) (o : Outcome) (x : Drafted) : Type 0 where
  pub reply : x.reply ≡ o.reply
  pub state : moved_in (with_counts x (bases o)) x.parts ≡ put p (draft_in o)
  pub counts : CanMake x.counts (bases o).counts
  pub parts : AreParts (bases o) x.parts
  pub moment : x.parts.moment ≡ o.moment

-- the draft is moved in where no session is put more than it may be, or where it is the last one
abbrev pub IsPut : PolicyOf → Outcome → Bool → Trial → Type 0
IsPut p o last (Ready x) =
    IsDrafted p o x
    × (last ≡ false → (before : State) → IsBefore (bases o) before → is_empty (overfilled before (draft_in o)) ≡ true)
IsPut p o last (Slow closing) =
    (last ≡ false)
    × ((before : State) → IsBefore (bases o) before → overfilled before (draft_in o) ≡ closing_of closing)
    × (is_empty (closing_of closing) ≡ false)
