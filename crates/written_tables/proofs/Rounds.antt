-- A switch that is up after an event was up before it, or the event brings it up, and begins its round.
use Rattle.std.proofs.Common.{◌≡◌, ◌∙◌, ℕ, ◌⊎◌, inl, inr, ◌==◌, Bool, true, false, true≢false, List, [], ◌∷◌, ◌++◌, map}
use Rattle.std.proofs.Common.{Option, Some, None, if◌then◌else◌, option_map, refl, sym, ap, subst, zero, suc, ◌+◌}
use Rattle.std.proofs.lemmas.Bool.{eqb-true}
use Rattle.std.proofs.lemmas.Option.{slice_get-map}
use Rattle.std.specs.Prelude.{is_some, slice_get}
use Rattle.std.specs.List.{enumerate_from}
use Rattle.std.specs.Option.{option_map_or}
use Rattle.cv_io.specs.declared.leaf.Who.{Who}
use Rattle.cv_io.specs.declared.leaf.Who.TheVariants.{Audit, Member, Switch}
use Rattle.events.specs.declared.event.Event.{Event}
use Rattle.events.specs.declared.event.Event.TheVariants as events
use Rattle.events.specs.declared.event.Reply.{Reply}
use Rattle.outbox.specs.Outboxes.{OutboxOf, closed, is_open, later, opened, taken, with_more}
use Rattle.policies.specs.Policies.{PolicyOf}
use Rattle.machine_meaning.specs.Acting.{act}
use Rattle.machine_meaning.specs.Coming.{end_first, noting}
use Rattle.machine_meaning.specs.Drafts.{Draft, untouched}
use Rattle.machine_meaning.specs.Glances.{closed_unless, glance_of}
use Rattle.machine_meaning.specs.Hearing.{heard}
use Rattle.machine_meaning.specs.Lists.{changed_at}
use Rattle.machine_meaning.specs.Phases.{draft_of, drafted, slow}
use Rattle.machine_meaning.specs.Putting.{for_switch, put, put_to_switch}
use Rattle.machine_meaning.specs.Rounds.{Closing, begin_switch}
use Rattle.machine_meaning.specs.Runs.{after}
use Rattle.machine_meaning.specs.Sessions.{is_switch}
use Rattle.machine_meaning.specs.States.{State, SwitchOf}
use Rattle.machine_meaning.specs.Steps.{step_by}
use Rattle.machine_meaning.specs.Takings.{left_by}
use Rattle.machine_meaning.specs.Written.{begins_at, draft_at}
use Rattle.machine_meaning.proofs.Composed.{elsewhere}
use Rattle.machine_meaning.proofs.Numbered.{at_changed, behind, changed_unseen, from_zero, here}
use Rattle.policy_meaning.proofs.Booleans.{some_injective}
use Rattle.written_tables.specs.Making.{brings_up}
use Rattle.written_tables.proofs.Acting.{act_holds, draft_holds}
use Rattle.written_tables.proofs.Keeping.{rest_holds}
use Rattle.written_tables.proofs.Boxes.{Boxes, IsLasting, IsStable, switch_box}

-- outboxes ----------------------------------------------------------------------------------------------------------

-- the session of a number is up
abbrev pub IsUpIn : List OutboxOf → ℕ → Type 0
IsUpIn boxes n = (o : OutboxOf) × (slice_get boxes n ≡ Some o) × (o.up ≡ true)

-- after one of them is changed
changed_up : (k n : ℕ) (f : OutboxOf → OutboxOf) (boxes : List OutboxOf) → IsUpIn (changed_at k f boxes) n
    → ((k == n) ≡ true) ⊎ IsUpIn boxes n
changed_up k n f boxes (o, at, up) = by (k == n) refl
  where
    by : (b : Bool) → (k == n) ≡ b → ((k == n) ≡ true) ⊎ IsUpIn boxes n
    by true t = inl t
    by false t = inr (o, sym (elsewhere k n f boxes t) ∙ at, up)

closed_down : (n : ℕ) (boxes : List OutboxOf) → IsUpIn (changed_at n closed boxes) n → ⊥
closed_down n boxes (o, at, up) = by (slice_get boxes n) (sym (at_changed n closed boxes) ∙ at)
  where
    by : (g : Option OutboxOf) → option_map closed g ≡ Some o → ⊥
    by None e = cc e
    by (Some x) e = true≢false (sym up ∙ ap (λ (b : OutboxOf). b.up) (sym (some_injective e)))

-- who is up where one goes was up
still_up : (k n : ℕ) (boxes : List OutboxOf) → IsUpIn (changed_at k closed boxes) n → IsUpIn boxes n
still_up k n boxes h = by (changed_up k n closed boxes h)
  where
    by : ((k == n) ≡ true) ⊎ IsUpIn boxes n → IsUpIn boxes n
    by (inl t) =
        absurd (closed_down n boxes (subst (λ (j : ℕ). IsUpIn (changed_at j closed boxes) n) (eqb-true k n t) h))
    by (inr r) = r

-- drafts ------------------------------------------------------------------------------------------------------------

module _ (p : PolicyOf) (s : State) (e : Event) (n : ℕ) where
  abbrev CameUp : Boxes → Type 0
  CameUp v = IsUpIn v.switches n → (brings_up n e ≡ true) ⊎ IsUpIn (map switch_box s.switches) n

  came_up : IsStable p e CameUp
  came_up = record {
    ends = record { member = λ k v h. h; switch = λ k v h up. h (still_up k n v.switches up) };
    member_begun = λ k arp is v h. h;
    switch_begun = λ k arp is v h up. begun k arp is v h (changed_up k n opened v.switches up);
    denied = λ k m at xid denial v h. h;
    replaced = λ k refusal v h. h;
    noted = λ k v h. h;
  }
    where
      begun : (k : ℕ) (arp : Bool) → e ≡ events.Up (Switch k) arp → (v : Boxes) → CameUp v
          → ((k == n) ≡ true) ⊎ IsUpIn v.switches n → (brings_up n e ≡ true) ⊎ IsUpIn (map switch_box s.switches) n
      begun k arp is v h (inl t) = inl (ap (brings_up n) is ∙ t)
      begun k arp is v h (inr up) = h up

  -- a switch that is up in the draft was up, or the event brings it up
  draft_up : IsUpIn (map switch_box (drafted p (heard s e) e).state.switches) n
      → (brings_up n e ≡ true) ⊎ IsUpIn (map switch_box s.switches) n
  draft_up = draft_holds p e CameUp came_up (heard s e) (slow p (heard s e) e) (λ up. inr up)

-- whose round begins -----------------------------------------------------------------------------------------------

-- it is the same once an event has acted
same_begun : (begun : Option Who) → IsLasting (λ v. v.begun ≡ begun)
same_begun begun = record { member = λ k v h. h; switch = λ k v h. h }

-- none begins but in an event that brings a session up
none_begun : (p : PolicyOf) (e : Event) → ((who : Who) (arp : Bool) → e ≡ events.Up who arp → ⊥)
    → IsStable p e (λ v. v.begun ≡ None)
none_begun p e other = record {
  ends = same_begun None;
  member_begun = λ k arp is v h. absurd (other (Member k) arp is);
  switch_begun = λ k arp is v h. absurd (other (Switch k) arp is);
  denied = λ k m at xid denial v h. h;
  replaced = λ k refusal v h. h;
  noted = λ k v h. h;
}

module _ (p : PolicyOf) (s : State) (n : ℕ) where
  act_none : (e : Event) → ((who : Who) (arp : Bool) → e ≡ events.Up who arp → ⊥) → (act p s e).begun ≡ None
  act_none e other = act_holds p e (λ v. v.begun ≡ None) (none_begun p e other) s refl

  -- the round that begins is that of the switch that the event brings up
  act_begins : (e : Event) → is_switch n (act p s e).begun ≡ brings_up n e
  act_begins (events.Up (Member k) arp) = refl
  act_begins (events.Up (Switch k) arp) = by arp
    where
      by : (b : Bool)
          → is_switch n (noting p k b (begin_switch k (end_first (Switch k) (untouched s)))).begun ≡ (k == n)
      by true = refl
      by false = refl
  act_begins (events.Up Audit arp) = refl
  act_begins (events.Msg session frame) =
      ap (is_switch n) (act_none (events.Msg session frame) (λ who arp is. cc is))
  act_begins (events.Gone session) = ap (is_switch n) (act_none (events.Gone session) (λ who arp is. cc is))
  act_begins (events.Tick second) = ap (is_switch n) (act_none (events.Tick second) (λ who arp is. cc is))
  act_begins (events.Take session) = refl
  act_begins (events.Policy v text) = ap (is_switch n) (act_none (events.Policy v text) (λ who arp is. cc is))

  pub draft_begins : (e : Event) (c : Closing) → is_switch n (draft_of p s e c).begun ≡ brings_up n e
  draft_begins e c =
      ap (is_switch n)
      (rest_holds p (λ v. v.begun ≡ (act p s e).begun) (same_begun (act p s e).begun) s e c refl)
      ∙ act_begins e

-- putting -----------------------------------------------------------------------------------------------------------

-- a switch once all is put
pub put_at : (d : Draft) (j : ℕ) (xs : List SwitchOf) (n : ℕ)
    → slice_get (map (put_to_switch d) (enumerate_from j xs)) n
    ≡ option_map (λ (x : SwitchOf). put_to_switch d (j + n, x)) (slice_get xs n)
put_at d j [] n = refl
put_at d j (x ∷ xs) zero = ap (λ (k : ℕ). Some (put_to_switch d (k, x))) (here j)
put_at d j (x ∷ xs) (suc n) =
    put_at d (j + 1) xs n
    ∙ ap (λ (k : ℕ). option_map (λ (y : SwitchOf). put_to_switch d (k, y)) (slice_get xs n)) (behind j n)

-- a switch that is up once all is put is what the draft has of it, with what is put to it behind what waited
pub record IsPut (d : Draft) (n : ℕ) (x : SwitchOf) : Type 0 where
  pub switch : SwitchOf
  pub at : slice_get d.state.switches n ≡ Some switch
  pub up : switch.outbox.up ≡ true
  pub waiting : x.outbox.waiting ≡ switch.outbox.waiting ++ for_switch d n

pub was_put : (p : PolicyOf) (d : Draft) (n : ℕ) (x : SwitchOf) → slice_get (put p d).switches n ≡ Some x
    → x.outbox.up ≡ true → IsPut d n x
was_put p d n x at up = by (slice_get d.state.switches n) refl (sym (put_at d 0 d.state.switches n) ∙ at)
  where
    messages : List (List ℕ)
    messages = for_switch d (0 + n)

    put_one : (y : SwitchOf) (u : Bool) → y.outbox.up ≡ u
        → (if u then with_more messages y.outbox else y.outbox) ≡ x.outbox
        → (y.outbox.up ≡ true) × (x.outbox.waiting ≡ y.outbox.waiting ++ messages)
    put_one y true t e = (t, ap (λ (o : OutboxOf). o.waiting) (sym e))
    put_one y false f e = absurd (true≢false (sym up ∙ (ap (λ (o : OutboxOf). o.up) (sym e) ∙ f)))

    by : (g : Option SwitchOf) → slice_get d.state.switches n ≡ g
        → option_map (λ (y : SwitchOf). put_to_switch d (0 + n, y)) g ≡ Some x → IsPut d n x
    by None there e = absurd (cc e)
    by (Some y) there e =
        let r = put_one y y.outbox.up refl (ap (λ (z : SwitchOf). z.outbox) (some_injective e)) in
        record {
          switch = y;
          at = there;
          up = r.0;
          waiting = r.1 ∙ ap (λ (k : ℕ). y.outbox.waiting ++ for_switch d k) (from_zero n);
        }

-- steps -------------------------------------------------------------------------------------------------------------

-- a switch that is up
abbrev pub IsUpAt : State → ℕ → Type 0
IsUpAt s n = (x : SwitchOf) × (slice_get s.switches n ≡ Some x) × (x.outbox.up ≡ true)

boxed : (s : State) (n : ℕ) → IsUpAt s n → IsUpIn (map switch_box s.switches) n
boxed s n (x, at, up) = (x.outbox, slice_get-map switch_box s.switches n ∙ ap (option_map switch_box) at, up)

unboxed : (xs : List SwitchOf) (n : ℕ) → IsUpIn (map switch_box xs) n
    → (x : SwitchOf) × (slice_get xs n ≡ Some x) × (x.outbox.up ≡ true)
unboxed [] n (o, at, up) = absurd (cc at)
unboxed (x ∷ xs) zero (o, at, up) = (x, refl, ap (λ (b : OutboxOf). b.up) (some_injective at) ∙ up)
unboxed (x ∷ xs) (suc n) h = unboxed xs n h

taken_up : (o : OutboxOf) (round : ℕ) → (taken o round).up ≡ o.up
taken_up o round = by (is_open o round)
  where
    by : (b : Bool) → (if b then record o { waiting = later o.waiting } else o).up ≡ o.up
    by true = refl
    by false = refl

up_from : (ys : List SwitchOf) (i : ℕ) → slice_get (map (λ (y : SwitchOf). y.outbox.up) ys) i ≡ Some true
    → (y : SwitchOf) × (slice_get ys i ≡ Some y) × (y.outbox.up ≡ true)
up_from [] i e = absurd (cc)
up_from (y ∷ ys) zero e = (y, refl, cc)
up_from (y ∷ ys) (suc i) e = up_from ys i e

-- a taking brings nobody up
left_up : (who : Who) (round : ℕ) (s : State) (n : ℕ) → IsUpAt (left_by who round s) n → IsUpAt s n
left_up (Member k) round s n h = h
left_up Audit round s n h = h
left_up (Switch k) round s n (x, at, up) =
    let xs = changed_at k (λ (y : SwitchOf). record y { outbox = taken y.outbox round }) s.switches in
    let us : List SwitchOf → List Bool = λ ys. map (λ (y : SwitchOf). y.outbox.up) ys in
    let seen : us xs ≡ us s.switches =
    changed_unseen (λ (y : SwitchOf). y.outbox.up) (λ (y : SwitchOf). record y { outbox = taken y.outbox round })
    (λ y. taken_up y.outbox round) k s.switches in
    up_from s.switches n
    (ap (λ (bs : List Bool). slice_get bs n) (sym seen)
    ∙ (slice_get-map (λ (y : SwitchOf). y.outbox.up) xs n
    ∙ (ap (option_map (λ (y : SwitchOf). y.outbox.up)) at ∙ ap (λ u. Some u) up)))

module _ (p : PolicyOf) (s : State) (n : ℕ) where
  -- what is true of a step at a switch that is up after it
  abbrev Comes : Option Reply → Event → Type 0
  Comes o e =
      IsUpAt (step_by o p s e).1 n
      → (option_map_or (λ (d : Draft). is_switch n d.begun) (draft_at o p s e) false ≡ brings_up n e)
      × (brings_up n e ≡ false → IsUpAt s n)

  through : (e : Event) → IsUpAt (put p (drafted p (heard s e) e)) n
      → (is_switch n (drafted p (heard s e) e).begun ≡ brings_up n e) × (brings_up n e ≡ false → IsUpAt s n)
  through e (x, at, up) =
      let d = drafted p (heard s e) e in
      let was = was_put p d n x at up in
      let there = slice_get-map switch_box d.state.switches n ∙ ap (option_map switch_box) was.at in (
        draft_begins p (heard s e) n e (slow p (heard s e) e),
        λ f. by f (draft_up p s e n (was.switch.outbox, there, was.up)),
      )
    where
      by : brings_up n e ≡ false → (brings_up n e ≡ true) ⊎ IsUpIn (map switch_box s.switches) n → IsUpAt s n
      by f (inl t) = absurd (true≢false (sym t ∙ f))
      by f (inr u) = unboxed s.switches n u

  forth : (e : Event) → Comes None e
  forth (events.Up who arp) = through (events.Up who arp)
  forth (events.Msg session frame) = through (events.Msg session frame)
  forth (events.Gone session) = through (events.Gone session)
  forth (events.Tick second) = through (events.Tick second)
  forth (events.Take session) = λ h. (refl, λ f. left_up session.who session.round s n h)
  forth (events.Policy v text) = through (events.Policy v text)

  -- an event that is answered at once brings up no switch that is there
  at_once : (e : Event) (reply : Reply) → glance_of p s e ≡ Some reply → IsUpAt s n → brings_up n e ≡ false
  at_once (events.Up (Member k) arp) reply g h = refl
  at_once (events.Up Audit arp) reply g h = refl
  at_once (events.Up (Switch k) arp) reply g (x, at, up) = by (k == n) refl
    where
      by : (b : Bool) → (k == n) ≡ b → b ≡ false
      by false t = refl
      by true t =
          let there : slice_get s.switches k ≡ Some x = subst (λ (j : ℕ). slice_get s.switches j ≡ Some x)
          (sym (eqb-true k n t)) at in
          absurd (cc (sym g ∙ ap (λ (g : Option SwitchOf).
          closed_unless (is_some (option_map (λ (y : SwitchOf). y.outbox) g))) there))
  at_once (events.Msg session frame) reply g h = refl
  at_once (events.Gone session) reply g h = refl
  at_once (events.Tick second) reply g h = refl
  at_once (events.Take session) reply g h = refl
  at_once (events.Policy v text) reply g h = refl

  pub comes : (e : Event) → IsUpAt (after p s e) n
      → (begins_at p s e n ≡ brings_up n e) × (brings_up n e ≡ false → IsUpAt s n)
  comes e = by (glance_of p s e) refl
    where
      by : (o : Option Reply) → glance_of p s e ≡ o → Comes o e
      by None g = forth e
      by (Some reply) g = λ h. (sym (at_once e reply g h), λ f. h)
