-- A message that a rule refuses changes nothing but its sender's outbox and the audit.
use Rattle.std.proofs.Common.{◌≡◌, ◌∙◌, ℕ, zero, suc, ◌+◌, ◌<◌, ◌==◌, Bool, true, false, not, ◌&&◌, cond, List, []}
use Rattle.std.proofs.Common.{◌∷◌, ◌++◌, length, map, filter, Option, Some, None, arith, refl, sym, ap, ap₂, eqb-true}
use Rattle.std.proofs.Common.{eq-eqb, true≢false}
use Rattle.std.specs.Prelude.{flat_map, option_map, slice_get, if◌then◌else◌}
use Rattle.std.specs.List.{AllByRecursion, enumerate_from}
use Rattle.std.specs.Option.{option_map_or}
use Rattle.std.proofs.lemmas.Option.{slice_get_within}
use Rattle.cv_io.specs.declared.leaf.Who.TheVariants.{Member, Switch}
use Rattle.grants.specs.declared.denial.Denial.{Denial}
use Rattle.member_replies.specs.Audit.{slow_line}
use Rattle.member_replies.specs.Refusals.{refusal}
use Rattle.outbox.specs.Outboxes.{OutboxOf, is_full, is_open, with_more}
use Rattle.policies.specs.Policies.{PolicyOf}
use Rattle.policies.specs.declared.policy.MemberItem.{MemberItem}
use Rattle.machine_meaning.specs.Acting.{act}
use Rattle.machine_meaning.specs.Composing.{compose}
use Rattle.machine_meaning.specs.Drafts.{Draft, letter, untouched}
use Rattle.machine_meaning.specs.Glances.{closed_unless, glance_of, is_frame, is_present}
use Rattle.machine_meaning.specs.Laws.{DenialsChangeNothing, IsDenied, line_of, with_message}
use Rattle.machine_meaning.specs.Lists.{changed_at, places}
use Rattle.machine_meaning.specs.MemberMessages.{hears_from, judged, refuse}
use Rattle.machine_meaning.specs.Phases.{draft_of, drafted, is_any, nobody, overfilled, overfills_member}
use Rattle.machine_meaning.specs.Phases.{overfills_switch}
use Rattle.machine_meaning.specs.Phases.{slow, slow_from, slow_with, was_full}
use Rattle.machine_meaning.specs.Putting.{down_lines, for_member, put, put_to, put_to_member, put_to_switch, slow_lines}
use Rattle.machine_meaning.specs.Rounds.{Closing, close_member, ended_member, without_member}
use Rattle.machine_meaning.specs.Sessions.{is_member, is_up}
use Rattle.machine_meaning.specs.Settling.{settle}
use Rattle.machine_meaning.specs.Sound.{IsSoundState, IsSoundWaiting}
use Rattle.machine_meaning.specs.States.{MemberOf, State}
use Rattle.machine_meaning.specs.Steps.{done, step_by, step_of}
use Rattle.machine_meaning.specs.Telling.{tell}
use Rattle.waitings.specs.Waitings.{is_asked_by}
use Rattle.events.specs.declared.event.Event.{Event}
use Rattle.events.specs.declared.event.Event.TheVariants.{Msg}
use Rattle.events.specs.declared.event.Reply.{Reply}
use Rattle.events.specs.declared.event.Reply.TheVariants.{Done}
use Rattle.machine_meaning.specs.declared.said.Letter.{Letter}
use Rattle.waitings.specs.declared.state.Waiting.{Waiting}
use Rattle.machine_meaning.proofs.Numbered.{at_changed, changed_unseen, flat_none, from_zero, no_place}
use Rattle.machine_meaning.proofs.Numbered.{numbered_changed}
use Rattle.machine_meaning.proofs.Numbered.{numbered_none, numbered_one, numbered_same, one_place}
use Rattle.machine_meaning.proofs.Quiet.{StillWaits, kept_of, nothing_more}
use Rattle.machine_meaning.proofs.Unchanged.{all_weaker, nothing_after}

-- lists and tests ---------------------------------------------------------------------------------------------------

and_no : (a : Bool) → (a && false) ≡ false
and_no true = refl
and_no false = refl

first_holds : (a b : Bool) → (a && b) ≡ true → a ≡ true
first_holds true b h = refl
first_holds false b h = h

second_holds : (a b : Bool) → (a && b) ≡ true → b ≡ true
second_holds true b h = h
second_holds false b h = absurd (true≢false (sym h))

-- numbers are told apart either way round
apart : (i n : ℕ) → (i == n) ≡ false → (n == i) ≡ false
apart i n h = by (n == i) refl
  where
    by : (b : Bool) → (n == i) ≡ b → (n == i) ≡ false
    by true e = absurd (true≢false (sym (eq-eqb i n (sym (eqb-true n i e))) ∙ h))
    by false e = e

itself : (n : ℕ) → (n == n) ≡ true
itself n = eq-eqb n n refl

-- what is left of items of which all were so
all_left : {X : Type 0} (P : X → Type 0) (p : X → Bool) (xs : List X) → AllByRecursion P xs
    → AllByRecursion P (filter p xs)
all_left P p [] h = tt
all_left P p (x ∷ xs) h = by (p x) (all_left P p xs h.1)
  where
    by : (b : Bool) → AllByRecursion P (filter p xs) → AllByRecursion P (cond b (x ∷ filter p xs) (filter p xs))
    by true r = (h.0, r)
    by false r = r

-- nothing is put to an outbox
nothing_put : (o : OutboxOf) → put_to [] o ≡ o
nothing_put o = by o.up
  where
    by : (u : Bool) → (if u then with_more [] o else o) ≡ o
    by true = ap (λ (waiting : List (List ℕ)). record o { waiting = waiting }) (nothing_after o.waiting)
    by false = refl

-- and nothing to one that isn't up
closed_put : (messages : List (List ℕ)) (o : OutboxOf) → o.up ≡ false → put_to messages o ≡ o
closed_put messages o h = ap (λ (u : Bool). if u then with_more messages o else o) h

open_put : (messages : List (List ℕ)) (o : OutboxOf) → o.up ≡ true → put_to messages o ≡ with_more messages o
open_put messages o h = ap (λ (u : Bool). if u then with_more messages o else o) h

-- what a test says of the outbox of a member, if it is there
abbrev any_outbox : (OutboxOf → Bool) → Option MemberOf → Bool
any_outbox test o = option_map_or test (option_map (λ (y : MemberOf). y.outbox) o) false

-- closing -----------------------------------------------------------------------------------------------------------

-- where nobody is put more than it may be, nobody is closed
none_closed : (p : PolicyOf) (s : State) (e : Event) (c : Closing) (k : ℕ)
    → overfilled s (draft_of p s e c) ≡ nobody → slow_from k p s e c ≡ c
none_closed p s e c zero h = refl
none_closed p s e c (suc k) h = ap (λ (more : Closing). slow_with more (slow_from k p s e) c) h

-- where one member is, and then nobody, it is closed
one_closed : (p : PolicyOf) (s : State) (e : Event) (n k : ℕ) → 0 < k
    → overfilled s (draft_of p s e nobody) ≡ record { switches = []; members = n ∷ [] }
    → overfilled s (draft_of p s e (record { switches = []; members = n ∷ [] })) ≡ nobody
    → slow_from k p s e nobody ≡ record { switches = []; members = n ∷ [] }
one_closed p s e n zero lt h i = absurd (omega (arith, lt))
one_closed p s e n (suc k) lt h i =
    ap (λ (more : Closing). slow_with more (slow_from k p s e) nobody) h
    ∙ none_closed p s e (record { switches = []; members = n ∷ [] }) k i

-- the message -------------------------------------------------------------------------------------------------------

-- a frame of a member that a rule refuses
module _ (p : PolicyOf) (s : State) (n round : ℕ) (frame : List ℕ) (m : MemberItem) (x : MemberOf) (denied : Denial)
    (sound : IsSoundState p s) (h : IsDenied p s n round frame m x denied)
  where
    abbrev event : Event
    event = Msg (record { who = Member n; round = round }) frame

    abbrev answer : List ℕ
    answer = refusal denied frame

    abbrev line : List ℕ
    line = line_of m frame denied

    -- the draft of the refusal, and that in which the member is closed
    abbrev refused : Draft
    refused = refuse n m frame denied (untouched s)

    abbrev ended : Draft
    ended = close_member refused n

    abbrev members_left : List MemberOf
    members_left = changed_at n ended_member s.members

    abbrev closing : Closing
    closing = record { switches = []; members = n ∷ [] }

    acts : act p s event ≡ refused
    acts =
        ap₂ (λ (a : Option MemberItem) (b : Option MemberOf). hears_from p n a b frame (untouched s)) h.item h.member
        ∙ ap (λ (o : Option Denial). judged p n m x frame o (untouched s)) h.refused

    is_open_in : is_up s (Member n) ≡ true
    is_open_in =
        let present = second_holds (is_frame frame) (is_present s (record { who = Member n; round = round })) h.heard in
        let at = ap (any_outbox (λ b. is_open b round)) h.member in
        ap (any_outbox (λ b. b.up)) h.member
        ∙ first_holds x.outbox.up (x.outbox.round == round) (sym at ∙ present)

    up_at : (y : MemberOf) → slice_get s.members n ≡ Some y → y.outbox.up ≡ true
    up_at y t =
        ap (any_outbox (λ b. b.up)) (sym t) ∙ is_open_in

    full_as : (b : Bool) → is_full x.outbox ≡ b → was_full s (Member n) ≡ b
    full_as b e =
        ap (any_outbox is_full) h.member ∙ e

    -- what is put to whom
    put_others : (k : ℕ) → (k == n) ≡ false → for_member refused k ≡ []
    put_others k f =
        ap (λ b. map (λ (l : Letter). l.bytes) (cond b (letter n answer ∷ []) []) ++ []) (apart k n f)

    put_own : for_member refused n ≡ answer ∷ []
    put_own = ap (λ b. map (λ (l : Letter). l.bytes) (cond b (letter n answer ∷ []) []) ++ []) (itself n)

    never : (a b c : Bool) → (a && (b && (c && false))) ≡ false
    never a b c = ap (λ z. a && (b && z)) (and_no c) ∙ (ap (λ z. a && z) (and_no b) ∙ and_no a)

    no_other : (d : Draft) (k : ℕ) → for_member d k ≡ [] → overfills_member s d k ≡ false
    no_other d k e =
        ap (λ messages.
        is_up d.state (Member k) && (not (is_member k d.begun) && (was_full s (Member k) && is_any messages))) e
        ∙ never (is_up d.state (Member k)) (not (is_member k d.begun)) (was_full s (Member k))

    no_switch : (k : ℕ) → overfills_switch s refused k ≡ false
    no_switch k = never (is_up s (Switch k)) true (was_full s (Switch k))

    no_switch_then : (k : ℕ) → overfills_switch s ended k ≡ false
    no_switch_then k = never (is_up ended.state (Switch k)) true (was_full s (Switch k))

    -- nothing comes of the later phases
    still_waits : AllByRecursion StillWaits s.waiting
    still_waits = all_weaker (IsSoundWaiting s) StillWaits (λ w k. k.some) s.waiting sound.waiting

    first_draft : draft_of p s event nobody ≡ refused
    first_draft =
        ap (λ (d : Draft). tell p s (compose p (settle p d))) acts
        ∙ nothing_more p s sound s.members s.waiting refused
        (record { tables = refl; waits = still_waits; asked = refl; sent = refl; begun = λ k. refl })

    second_draft : draft_of p s event closing ≡ ended
    second_draft =
        ap (λ (d : Draft). tell p s (compose p (settle p (close_member d n)))) acts
        ∙ nothing_more p s sound members_left (filter (λ (w : Waiting). not (is_asked_by n w)) s.waiting) ended
        (record {
          tables = changed_unseen kept_of ended_member (λ y. refl) n s.members;
          waits = all_left StillWaits (λ (w : Waiting). not (is_asked_by n w)) s.waiting still_waits;
          asked = refl;
          sent = refl;
          begun = λ k. refl;
        })

    -- audit lines
    no_downs : flat_map (down_lines p []) (places p.switches) ≡ []
    no_downs = flat_none (down_lines p []) (λ k. refl) (places p.switches)

    no_slows : flat_map (slow_lines []) (enumerate_from 0 p.members) ≡ []
    no_slows = numbered_none (slow_lines []) 0 p.members (λ i y t. refl)

    one_slow : flat_map (slow_lines (n ∷ [])) (enumerate_from 0 p.members) ≡ slow_line m.controller m.vsw ∷ []
    one_slow =
        numbered_one (slow_lines (n ∷ [])) 0 n p.members m h.item
        (λ i y f. ap (λ (j : ℕ). slow_lines (n ∷ []) (j, y)) (from_zero i)
        ∙ ap (λ b. map (λ (k : ℕ). slow_line y.controller y.vsw) (cond b (n ∷ []) [])) (apart i n f))
        ∙ (ap (λ (j : ℕ). slow_lines (n ∷ []) (j, m)) (from_zero n)
        ∙ ap (λ b. map (λ (k : ℕ). slow_line m.controller m.vsw) (cond b (n ∷ []) [])) (itself n))

    glanced : glance_of p s event ≡ None
    glanced = ap closed_unless h.heard

    -- where the outbox isn't full
    module _ (free : is_full x.outbox ≡ false) where
      no_member : (k : ℕ) → overfills_member s refused k ≡ false
      no_member k = by (k == n) refl
        where
          by : (b : Bool) → (k == n) ≡ b → overfills_member s refused k ≡ false
          by true e =
              ap (overfills_member s refused) (eqb-true k n e)
              ∙ (ap (λ full. is_up s (Member n) && (full && is_any (for_member refused n))) (full_as false free)
              ∙ and_no (is_up s (Member n)))
          by false e = no_other refused k (put_others k e)

      none_over : overfilled s refused ≡ nobody
      none_over =
          ap₂ (λ (a b : List ℕ). record { switches = a; members = b })
          (no_place (overfills_switch s refused) s.switches no_switch)
          (no_place (overfills_member s refused) s.members no_member)

      drafted_so : drafted p s event ≡ refused
      drafted_so =
          ap (draft_of p s event)
          (none_closed p s event nobody (length s.switches + length s.members)
          (ap (overfilled s) first_draft ∙ none_over))
          ∙ first_draft

      members_put : map (put_to_member refused) (enumerate_from 0 s.members)
          ≡ changed_at n (with_message answer) s.members
      members_put =
          numbered_changed (put_to_member refused) (with_message answer) 0 n s.members
          (λ y t. ap (λ (j : ℕ). put_to_member refused (j, y)) (from_zero n)
          ∙ (ap (λ messages. record y { outbox = put_to messages y.outbox }) put_own
          ∙ ap (λ (o : OutboxOf). record y { outbox = o }) (open_put (answer ∷ []) y.outbox (up_at y t))))
          (λ i y f. ap (λ (j : ℕ). put_to_member refused (j, y)) (from_zero i)
          ∙ (ap (λ messages. record y { outbox = put_to messages y.outbox }) (put_others i f)
          ∙ ap (λ (o : OutboxOf). record y { outbox = o }) (nothing_put y.outbox)))

      switches_put : map (put_to_switch refused) (enumerate_from 0 s.switches) ≡ s.switches
      switches_put =
          numbered_same (put_to_switch refused) 0 s.switches
          (λ i y t. ap (λ (o : OutboxOf). record y { outbox = o }) (nothing_put y.outbox))

      put_so : put p refused ≡ record s {
        members = changed_at n (with_message answer) s.members;
        audit = s.audit ++ line ∷ [];
      }
      put_so = λ i. record s {
        members = members_put i;
        switches = switches_put i;
        audit = s.audit ++ line ∷ (no_downs i ++ (no_slows i ++ []));
      }

      answered_so : step_of p s event ≡ (
        Done,
        record s { members = changed_at n (with_message answer) s.members; audit = s.audit ++ line ∷ [] },
      )
      answered_so =
          ap (λ (o : Option Reply). step_by o p s event) glanced
          ∙ (ap (done p) drafted_so ∙ ap (λ (t : State). (Done, t)) put_so)

    -- where it is
    module _ (full : is_full x.outbox ≡ true) where
      own_over : overfills_member s refused n ≡ true
      own_over =
          let was = full_as true full in
          λ i. is_open_in i && (true && (was i && is_any (put_own i)))

      first_over : overfilled s refused ≡ closing
      first_over =
          ap₂ (λ (a b : List ℕ). record { switches = a; members = b })
          (no_place (overfills_switch s refused) s.switches no_switch)
          (one_place (overfills_member s refused) n s.members x h.member own_over
          (λ k f. no_other refused k (put_others k f)))

      left_there : slice_get members_left n ≡ Some (ended_member x)
      left_there = at_changed n ended_member s.members ∙ ap (option_map ended_member) h.member

      is_down : is_up ended.state (Member n) ≡ false
      is_down =
          ap (any_outbox (λ b. b.up)) left_there

      no_member_then : (k : ℕ) → overfills_member s ended k ≡ false
      no_member_then k = by (k == n) refl
        where
          by : (b : Bool) → (k == n) ≡ b → overfills_member s ended k ≡ false
          by true e =
              ap (overfills_member s ended) (eqb-true k n e)
              ∙ ap (λ u. u && (true && (was_full s (Member n) && is_any (for_member ended n)))) is_down
          by false e = no_other ended k (put_others k e)

      none_over_then : overfilled s ended ≡ nobody
      none_over_then =
          ap₂ (λ (a b : List ℕ). record { switches = a; members = b })
          (no_place (overfills_switch s ended) s.switches no_switch_then)
          (no_place (overfills_member s ended) members_left no_member_then)

      closed_then : slow p s event ≡ closing
      closed_then =
          let within = slice_get_within s.members n x h.member in
          one_closed p s event n (length s.switches + length s.members) (omega (arith, within))
          (ap (overfilled s) first_draft ∙ first_over) (ap (overfilled s) second_draft ∙ none_over_then)

      drafted_then : drafted p s event ≡ ended
      drafted_then = ap (draft_of p s event) closed_then ∙ second_draft

      stays_closed : (i : ℕ) (y : MemberOf) → slice_get members_left i ≡ Some y
          → put_to (for_member ended i) y.outbox ≡ y.outbox
      stays_closed i y t = by (i == n) refl
        where
          by : (b : Bool) → (i == n) ≡ b → put_to (for_member ended i) y.outbox ≡ y.outbox
          by true e =
              let there = sym left_there ∙ (ap (slice_get members_left) (sym (eqb-true i n e)) ∙ t) in
              let same : ended_member x ≡ y = cc (there) in
              closed_put (for_member ended i) y.outbox (ap (λ (z : MemberOf). z.outbox.up) (sym same))
          by false e = ap (λ messages. put_to messages y.outbox) (put_others i e) ∙ nothing_put y.outbox

      members_then : map (put_to_member ended) (enumerate_from 0 members_left) ≡ members_left
      members_then =
          numbered_same (put_to_member ended) 0 members_left
          (λ i y t. ap (λ (j : ℕ). put_to_member ended (j, y)) (from_zero i)
          ∙ ap (λ (o : OutboxOf). record y { outbox = o }) (stays_closed i y t))

      switches_then : map (put_to_switch ended) (enumerate_from 0 s.switches) ≡ s.switches
      switches_then =
          numbered_same (put_to_switch ended) 0 s.switches
          (λ i y t. ap (λ (o : OutboxOf). record y { outbox = o }) (nothing_put y.outbox))

      put_then : put p ended ≡ record (without_member n s) {
        audit = s.audit ++ line ∷ slow_line m.controller m.vsw ∷ [];
      }
      put_then = λ i. record (without_member n s) {
        members = members_then i;
        switches = switches_then i;
        audit = s.audit ++ line ∷ (no_downs i ++ (one_slow i ++ []));
      }

      closed_so : step_of p s event ≡ (
        Done,
        record (without_member n s) { audit = s.audit ++ line ∷ slow_line m.controller m.vsw ∷ [] },
      )
      closed_so =
          ap (λ (o : Option Reply). step_by o p s event) glanced
          ∙ (ap (done p) drafted_then ∙ ap (λ (t : State). (Done, t)) put_then)

pub denials_change_nothing : DenialsChangeNothing
denials_change_nothing p policy s sound n round frame m x denied h = record {
  answered = answered_so p s n round frame m x denied sound h;
  closed = closed_so p s n round frame m x denied sound h;
}
