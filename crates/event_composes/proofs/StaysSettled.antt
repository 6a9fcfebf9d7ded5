-- After each event each switch that is up has what the setting gives.
use Rattle.std.proofs.Common.{◌≡◌, ◌∙◌, ℕ, zero, suc, ◌==◌, Bool, true, false, true≢false, ◌&&◌, List, [], ◌∷◌, map}
use Rattle.std.proofs.Common.{Option, Some, None, refl, sym, ap, ap₂, subst}
use Rattle.std.specs.Prelude.{fold, if◌then◌else◌, length, nat_lt, option_map, slice_get}
use Rattle.agreement.specs.Entries.{entries_of}
use Rattle.agreement.specs.declared.state.Setting.{Setting}
use Rattle.cv_io.specs.declared.leaf.Who.{Who}
use Rattle.cv_io.specs.declared.leaf.Who.TheVariants.{Audit, Member, Switch}
use Rattle.events.specs.declared.event.Event.{Event}
use Rattle.install_plan.specs.declared.written.Written.{Written}
use Rattle.outbox.specs.Outboxes.{OutboxOf, later, taken}
use Rattle.policies.specs.Policies.{PolicyOf}
use Rattle.policy_setting.specs.OfPolicies as of_policies
use Rattle.switch_meaning.specs.Keys.{installed}
use Rattle.switch_meaning.specs.declared.entry.PhysEntry.{PhysEntry}
use Rattle.switch_state.specs.Messages.{packet_out, switch_messages}
use Rattle.switch_state.specs.Sending.{Sending, send_all}
use Rattle.virtual_topology.specs.declared.plan.SwitchItem.{SwitchItem}
use Rattle.machine_meaning.specs.Batches.{batch_between, standing_after}
use Rattle.machine_meaning.specs.Composing.{compose, compose_at, compose_on, sent_to, write}
use Rattle.machine_meaning.specs.Drafts.{Draft}
use Rattle.machine_meaning.specs.Lists.{changed_at}
use Rattle.machine_meaning.specs.Phases.{drafted, settled_of, slow}
use Rattle.machine_meaning.specs.Putting.{put}
use Rattle.machine_meaning.specs.Requests.{dispatch, dispatched, dispatched_if_up, poll, poll_at, polled, polled_if_up}
use Rattle.machine_meaning.specs.Requests.{request, request_all, sent_one}
use Rattle.machine_meaning.specs.Sessions.{is_switch, standing_of}
use Rattle.machine_meaning.specs.Settings.{setting_of, tables_with, ups_with}
use Rattle.machine_meaning.specs.States.{MemberOf, State, SwitchOf, new_switch, opening}
use Rattle.machine_meaning.specs.Takings.{left_by}
use Rattle.machine_meaning.specs.Telling.{tell}
use Rattle.machine_meaning.specs.Ways.{switches_of}
use Rattle.machine_meaning.specs.declared.said.Asked.{Asked}
use Rattle.machine_meaning.specs.declared.said.Sent.{Sent}
use Rattle.machine_meaning.proofs.Composed.{Rest, elsewhere, fold_holds, once, rest_composed}
use Rattle.machine_meaning.proofs.Numbered.{at_changed, changed_unseen}
use Rattle.machine_meaning.proofs.Places.{made_of}
use Rattle.machine_meaning.proofs.Quiet.{kept_of, same_setting}
use Rattle.machine_meaning.proofs.Requested.{Kept, kept_in, put_setting, same_ups}
use Rattle.event_composes.specs.Settled.{AreSettled, IsSettled, IsSettledState}
use Rattle.event_composes.proofs.Recomposed.{settled_after}

-- it hangs on the setting, on which switches are up, and on what stands
pub settled_same : (t u : Setting) (ts us : List Bool) (xs ys : List (List Written)) → t ≡ u → ts ≡ us → xs ≡ ys
    → AreSettled t ts xs → AreSettled u us ys
settled_same t u ts us xs ys setting ups standing h =
    subst (λ (zs : List (List Written)). AreSettled u us zs) standing
    (subst (λ (vs : List Bool). AreSettled u vs xs) ups (subst (λ (z : Setting). AreSettled z ts xs) setting h))

-- composing ---------------------------------------------------------------------------------------------------------

-- a switch, and what stands on it
abbrev seen_at : ℕ → Draft → Option SwitchOf × Option (List Written)
seen_at n d = (slice_get d.state.switches n, slice_get d.state.standing n)

module _ (t : Setting) where
  abbrev wanted : ℕ → List PhysEntry
  wanted n = installed (entries_of t n)

  abbrev written_to : ℕ → SwitchOf → Draft → Draft
  written_to n x d =
      write n x (wanted n) (batch_between d.state.next_cookie (standing_of d.state n) (wanted n)) d

  abbrev sent : ℕ → SwitchOf → Draft → Sending
  sent n x d =
      send_all (switch_messages (is_switch n d.begun)
      (batch_between d.state.next_cookie (standing_of d.state n) (wanted n)))
      (record { known = x.known; messages = [] })

  -- another switch stays
  apart : (d : Draft) (k n : ℕ) → (k == n) ≡ false → seen_at n (compose_at t d k) ≡ seen_at n d
  apart d k n h = by (slice_get d.state.switches k)
    where
      by : (o : Option SwitchOf) → seen_at n (compose_on k o (wanted k) d) ≡ seen_at n d
      by None = refl
      by (Some x) = up x.outbox.up
        where
          up : (u : Bool) → seen_at n (if u then written_to k x d else d) ≡ seen_at n d
          up true =
              ap₂ (λ (o : Option SwitchOf) (q : Option (List Written)). (o, q))
              (elsewhere k n (sent_to (sent k x d)) d.state.switches h)
              (elsewhere k n (λ old. standing_after d.state.next_cookie old (wanted k)) d.state.standing h)
          up false = refl

  -- what stands on a switch is settled
  abbrev IsSettledAt : ℕ → Draft → Type 0
  IsSettledAt n d = (stood : List Written) → slice_get d.state.standing n ≡ Some stood → IsSettled stood (wanted n)

  of_made : (n next : ℕ) (o : Option (List Written)) (stood : List Written)
      → option_map (λ old. standing_after next old (wanted n)) o ≡ Some stood → IsSettled stood (wanted n)
  of_made n next None stood e = absurd (cc)
  of_made n next (Some old) stood e =
      let is : standing_after next old (wanted n) ≡ stood = cc in
      subst (λ (ws : List Written). IsSettled ws (wanted n)) is (settled_after next old (wanted n))

  -- one that is up is settled once it is composed
  composed_here : (n : ℕ) (x : SwitchOf) → x.outbox.up ≡ true → (d : Draft) → slice_get d.state.switches n ≡ Some x
      → IsSettledAt n (compose_at t d n)
  composed_here n x up d at =
      let is : compose_at t d n ≡ written_to n x d =
      ap (λ (o : Option SwitchOf). compose_on n o (wanted n) d) at
      ∙ ap (λ (b : Bool). if b then written_to n x d else d) up in
      subst (IsSettledAt n) (sym is)
      (λ stood e. of_made n d.state.next_cookie (slice_get d.state.standing n) stood
      (sym (at_changed n (λ old. standing_after d.state.next_cookie old (wanted n)) d.state.standing) ∙ e))

pub composed_settled : (p : PolicyOf) (d : Draft)
    → AreSettled (setting_of p d.state) (ups_with d.state.switches) (compose p d).state.standing
composed_settled p d n stood up at =
    let t = setting_of p d.state in
    let made = made_of (λ (x : SwitchOf). x.outbox.up) d.state.switches n true up in
    once (compose_at t) (λ (a : Draft). slice_get a.state.switches n ≡ Some made.item) (IsSettledAt t n) n
    (λ a k h e. ap (λ x. x.0) (apart t a k n h) ∙ e)
    (composed_here t n made.item made.is)
    (λ a k h q stood e. q stood (sym (ap (λ x. x.1) (apart t a k n h)) ∙ e))
    d.state.switches made.item made.at d made.at stood at

-- telling -----------------------------------------------------------------------------------------------------------

-- a switch that is sent something is up or down as it was
sent_still : (v : Kept) (n : ℕ) (to : Sending) (d : Draft) → kept_in d ≡ v
    → record (kept_in d) { ups = ups_with (changed_at n (sent_to to) d.state.switches) } ≡ v
sent_still v n to d h =
    ap (λ (ups : List Bool). record (kept_in d) { ups = ups })
    (changed_unseen (λ (y : SwitchOf). y.outbox.up) (sent_to to) (λ y. refl) n d.state.switches) ∙ h

module _ (v : Kept) where
  poll_keeps : (a : Asked) (d : Draft) (n : ℕ) → kept_in d ≡ v → kept_in (poll_at a d n) ≡ v
  poll_keeps a d n h = by (slice_get d.state.switches n)
    where
      by : (o : Option SwitchOf) → kept_in (polled_if_up n o a d) ≡ v
      by None = h
      by (Some x) = up x.outbox.up
        where
          up : (u : Bool) → kept_in (if u then polled n x a d else d) ≡ v
          up true = sent_still v n (sent_one x (request a)) d h
          up false = h

  dispatch_keeps : (d : Draft) (o : Sent) → kept_in d ≡ v → kept_in (dispatch d o) ≡ v
  dispatch_keeps d o h = by (slice_get d.state.switches o.switch)
    where
      by : (x : Option SwitchOf) → kept_in (dispatched_if_up x o d) ≡ v
      by None = h
      by (Some x) = up x.outbox.up
        where
          up : (u : Bool) → kept_in (if u then dispatched o.switch x (packet_out o.port o.bytes) d else d) ≡ v
          up true = sent_still v o.switch (sent_one x (packet_out o.port o.bytes)) d h
          up false = h

  polls_keep : (p : PolicyOf) (d : Draft) (a : Asked) → kept_in d ≡ v → kept_in (poll p d a) ≡ v
  polls_keep p d a h = by (nat_lt a.v (length p.virtuals))
    where
      by : (b : Bool) → kept_in (if b then fold (poll_at a) d (switches_of p a.v) else d) ≡ v
      by true = fold_holds (poll_at a) (λ (e : Draft). kept_in e ≡ v) (λ e n. poll_keeps a e n) (switches_of p a.v) d h
      by false = h

  requests_keep : (p : PolicyOf) (d : Draft) → kept_in d ≡ v → kept_in (request_all p d) ≡ v
  requests_keep p d h =
      fold_holds dispatch (λ (e : Draft). kept_in e ≡ v) dispatch_keeps d.sent (fold (poll p) d d.asked)
      (fold_holds (poll p) (λ (e : Draft). kept_in e ≡ v) (polls_keep p) d.asked d h)

told_keeps : (p : PolicyOf) (before : State) (d : Draft) → kept_in (tell p before d) ≡ kept_in d
told_keeps p before d = requests_keep (kept_in d) p d refl

-- an event that is drafted ------------------------------------------------------------------------------------------

-- what composing leaves as it is, telling and putting do too
put_settled : (p : PolicyOf) (before : State) (d : Draft) → IsSettledState p (put p (tell p before (compose p d)))
put_settled p before d =
    let composed = compose p d in
    let final = tell p before composed in
    let rest = rest_composed p d in
    let kept = told_keeps p before composed in
    let exprs = ap (λ (k : Kept). k.exprs) kept ∙ ap (λ (r : Rest). r.exprs) rest in
    let members = ap (λ (k : Kept). k.members) kept ∙ ap (λ (r : Rest). r.members) rest in
    let ups = ap (λ (k : Kept). k.ups) kept ∙ ap (λ (r : Rest). r.ups) rest in
    settled_same (setting_of p d.state) (setting_of p (put p final)) (ups_with d.state.switches)
    (ups_with (put p final).switches) composed.state.standing (put p final).standing
    (sym (put_setting p final d.state exprs members ups)) (sym (same_ups p final ∙ ups))
    (sym (ap (λ (k : Kept). k.standing) kept)) (composed_settled p d)

pub drafted_settled : (p : PolicyOf) (s : State) (e : Event) → IsSettledState p (put p (drafted p s e))
drafted_settled p s e = put_settled p s (settled_of p s e (slow p s e))

-- takings -----------------------------------------------------------------------------------------------------------

taken_up : (round : ℕ) (o : OutboxOf) → (taken o round).up ≡ o.up
taken_up round o = by (o.up && (o.round == round))
  where
    by : (b : Bool) → (if b then record o { waiting = later o.waiting } else o).up ≡ o.up
    by true = refl
    by false = refl

-- a taking changes what waits for a session, and nothing else
pub left_settled : (p : PolicyOf) (who : Who) (round : ℕ) (s : State) → IsSettledState p s
    → IsSettledState p (left_by who round s)
left_settled p (Member n) round s h =
    let t = left_by (Member n) round s in
    let kept = changed_unseen kept_of (λ (x : MemberOf). record x { outbox = taken x.outbox round }) (λ x. refl) n
    s.members in
    settled_same (setting_of p s) (setting_of p t) (ups_with s.switches) (ups_with t.switches) s.standing t.standing
    (sym (same_setting p s t.members s.waiting kept)) refl refl h
left_settled p (Switch n) round s h =
    let t = left_by (Switch n) round s in
    let ups = changed_unseen (λ (x : SwitchOf). x.outbox.up)
    (λ (x : SwitchOf). record x { outbox = taken x.outbox round }) (λ x. taken_up round x.outbox) n s.switches in
    settled_same (setting_of p s) (setting_of p t) (ups_with s.switches) (ups_with t.switches) s.standing t.standing
    (sym (ap (λ (us : List Bool). of_policies.setting_of p s.exprs (tables_with p.members s.members) us) ups))
    (sym ups) refl h
left_settled p Audit round s h = h

-- the opening -------------------------------------------------------------------------------------------------------

none_up : (items : List SwitchItem) (n : ℕ) → slice_get (ups_with (map new_switch items)) n ≡ Some true → ⊥
none_up [] n e = cc
none_up (x ∷ xs) zero e = let no : false ≡ true = cc in true≢false (sym no)
none_up (x ∷ xs) (suc n) e = none_up xs n e

-- no switch is up
pub opening_settled : (p : PolicyOf) → IsSettledState p (opening p)
opening_settled p n stood up at = absurd (none_up p.switches n up)
