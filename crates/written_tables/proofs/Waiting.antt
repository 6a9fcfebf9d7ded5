-- Where nothing waits for a switch, what waits after an event is what the event puts to it; and rounds fit.
use Rattle.std.proofs.Common.{◌≡◌, ◌∙◌, ℕ, zero, suc, ◌+◌, ◌==◌, Bool, true, false, List, [], ◌∷◌, ◌++◌, map}
use Rattle.std.proofs.Common.{Option, Some, None, if◌then◌else◌, option_map, arith, refl, sym, ap, subst}
use Rattle.std.proofs.Math.Nat.{min-le_right}
use Rattle.std.proofs.lemmas.Bool.{eqb-true}
use Rattle.std.proofs.lemmas.Option.{slice_get-map}
use Rattle.std.specs.Prelude.{slice_get}
use Rattle.std.specs.List.{AllByRecursion, enumerate_from}
use Rattle.std.specs.Option.{option_map_or}
use Rattle.cv_io.specs.declared.leaf.Who.{Who}
use Rattle.cv_io.specs.declared.leaf.Who.TheVariants.{Audit, Member, Switch}
use Rattle.events.specs.declared.event.Event.{Event}
use Rattle.events.specs.declared.event.Event.TheVariants as events
use Rattle.events.specs.declared.event.Reply.{Reply}
use Rattle.outbox.specs.Outboxes.{OutboxOf, closed, is_open, later, opened, taken, with_more}
use Rattle.policies.specs.Policies.{PolicyOf}
use Rattle.policies.specs.declared.policy.MemberItem.{MemberItem}
use Rattle.policy_meaning.proofs.Booleans.{some_injective}
use Rattle.virtual_topology.specs.declared.plan.SwitchItem.{SwitchItem}
use Rattle.machine_meaning.specs.Drafts.{Draft}
use Rattle.machine_meaning.specs.Glances.{glance_of}
use Rattle.machine_meaning.specs.Hearing.{heard}
use Rattle.machine_meaning.specs.Lists.{changed_at}
use Rattle.machine_meaning.specs.Phases.{drafted, slow}
use Rattle.machine_meaning.specs.Putting.{for_member, for_switch, put, put_to, put_to_member, put_to_switch}
use Rattle.machine_meaning.specs.States.{MemberOf, State, SwitchOf, new_member, new_switch}
use Rattle.machine_meaning.specs.Steps.{step_by}
use Rattle.machine_meaning.specs.Takings.{left_by}
use Rattle.machine_meaning.specs.Written.{draft_at}
use Rattle.machine_meaning.proofs.Composed.{elsewhere}
use Rattle.machine_meaning.proofs.Numbered.{at_changed}
use Rattle.written_tables.specs.Laws.{HasRound, HaveRounds, NothingWaits, RoundsFit, WhatIsPutWaits}
use Rattle.written_tables.proofs.Acting.{draft_holds}
use Rattle.written_tables.proofs.Boxes.{Boxes, IsStable, member_box, switch_box}
use Rattle.written_tables.proofs.Rounds.{was_put}

-- what waits --------------------------------------------------------------------------------------------------------

-- nothing waits in the outbox of a number
abbrev IsBare : ℕ → List OutboxOf → Type 0
IsBare n boxes = (o : OutboxOf) → slice_get boxes n ≡ Some o → o.waiting ≡ []

-- so it is where an outbox is changed that it leaves empty
bare_changed : (n k : ℕ) (f : OutboxOf → OutboxOf) → ((o : OutboxOf) → o.waiting ≡ [] → (f o).waiting ≡ [])
    → (boxes : List OutboxOf) → IsBare n boxes → IsBare n (changed_at k f boxes)
bare_changed n k f keeps boxes h o at = by (k == n) refl
  where
    there : (g : Option OutboxOf) → slice_get boxes n ≡ g → option_map f g ≡ Some o → o.waiting ≡ []
    there None e i = absurd (cc i)
    there (Some x) e i = ap (λ (b : OutboxOf). b.waiting) (sym (some_injective i)) ∙ keeps x (h x e)

    by : (b : Bool) → (k == n) ≡ b → o.waiting ≡ []
    by true t =
        there (slice_get boxes n) refl
        (sym (at_changed n f boxes)
        ∙ subst (λ (j : ℕ). slice_get (changed_at j f boxes) n ≡ Some o) (eqb-true k n t) at)
    by false t = h o (sym (elsewhere k n f boxes t) ∙ at)

bare : (p : PolicyOf) (e : Event) (n : ℕ) → IsStable p e (λ (v : Boxes). IsBare n v.switches)
bare p e n = record {
  ends = record {
    member = λ k v h. h;
    switch = λ k v h. bare_changed n k closed (λ o w. refl) v.switches h;
  };
  member_begun = λ k arp is v h. h;
  switch_begun = λ k arp is v h. bare_changed n k opened (λ o w. w) v.switches h;
  denied = λ k m at xid denial v h. h;
  replaced = λ k refusal v h. h;
  noted = λ k v h. h;
}

taken_bare : (round : ℕ) (o : OutboxOf) → o.waiting ≡ [] → (taken o round).waiting ≡ []
taken_bare round o w = by (is_open o round)
  where
    by : (b : Bool) → (if b then record o { waiting = later o.waiting } else o).waiting ≡ []
    by true = ap later w
    by false = w

boxed : (xs : List SwitchOf) (n : ℕ) → ((x : SwitchOf) → slice_get xs n ≡ Some x → x.outbox.waiting ≡ [])
    → IsBare n (map switch_box xs)
boxed xs n h o at = by (slice_get xs n) refl (sym (slice_get-map switch_box xs n) ∙ at)
  where
    by : (g : Option SwitchOf) → slice_get xs n ≡ g → option_map switch_box g ≡ Some o → o.waiting ≡ []
    by None e i = absurd (cc i)
    by (Some x) e i = ap (λ (b : OutboxOf). b.waiting) (sym (some_injective i)) ∙ h x e

module _ (p : PolicyOf) (s : State) (n : ℕ) (nothing : NothingWaits s n) where
  abbrev Waits : Option Reply → Event → Type 0
  Waits o e =
      (x : SwitchOf) → slice_get (step_by o p s e).1.switches n ≡ Some x → x.outbox.up ≡ true
      → x.outbox.waiting ≡ option_map_or (λ (d : Draft). for_switch d n) (draft_at o p s e) []

  through : (e : Event) → (x : SwitchOf) → slice_get (put p (drafted p (heard s e) e)).switches n ≡ Some x
      → x.outbox.up ≡ true → x.outbox.waiting ≡ for_switch (drafted p (heard s e) e) n
  through e x at up =
      let d = drafted p (heard s e) e in
      let was = was_put p d n x at up in
      was.waiting
      ∙ ap (λ (ms : List (List ℕ)). ms ++ for_switch d n)
      (draft_holds p e (λ (v : Boxes). IsBare n v.switches) (bare p e n) (heard s e) (slow p (heard s e) e)
      (boxed s.switches n nothing) was.switch.outbox
      (slice_get-map switch_box d.state.switches n ∙ ap (option_map switch_box) was.at))

  left_bare : (who : Who) (round : ℕ) (x : SwitchOf) → slice_get (left_by who round s).switches n ≡ Some x
      → x.outbox.waiting ≡ []
  left_bare (Member k) round x at = nothing x at
  left_bare Audit round x at = nothing x at
  left_bare (Switch k) round x at = by (k == n) refl
    where
      f : SwitchOf → SwitchOf
      f y = record y { outbox = taken y.outbox round }

      there : (g : Option SwitchOf) → slice_get s.switches n ≡ g → option_map f g ≡ Some x → x.outbox.waiting ≡ []
      there None e i = absurd (cc i)
      there (Some y) e i =
          ap (λ (z : SwitchOf). z.outbox.waiting) (sym (some_injective i)) ∙ taken_bare round y.outbox (nothing y e)

      by : (b : Bool) → (k == n) ≡ b → x.outbox.waiting ≡ []
      by true t =
          there (slice_get s.switches n) refl
          (sym (at_changed n f s.switches)
          ∙ subst (λ (j : ℕ). slice_get (changed_at j f s.switches) n ≡ Some x) (eqb-true k n t) at)
      by false t = nothing x (sym (elsewhere k n f s.switches t) ∙ at)

  forth : (e : Event) → Waits None e
  forth (events.Up who arp) = through (events.Up who arp)
  forth (events.Msg session frame) = through (events.Msg session frame)
  forth (events.Gone session) = through (events.Gone session)
  forth (events.Tick second) = through (events.Tick second)
  forth (events.Take session) = λ x at up. left_bare session.who session.round x at
  forth (events.Policy v text) = through (events.Policy v text)

  all_waits : (o : Option Reply) (e : Event) → Waits o e
  all_waits None e = forth e
  all_waits (Some reply) e = λ x at up. nothing x at

pub put_waits : WhatIsPutWaits
put_waits p s e n nothing = all_waits p s n nothing (glance_of p s e) e

-- rounds ------------------------------------------------------------------------------------------------------------

abbrev HaveBoxes : Boxes → Type 0
HaveBoxes v = AllByRecursion HasRound v.members × AllByRecursion HasRound v.switches

fit_changed : (f : OutboxOf → OutboxOf) → ((o : OutboxOf) → HasRound o → HasRound (f o)) → (n : ℕ)
    (boxes : List OutboxOf) → AllByRecursion HasRound boxes → AllByRecursion HasRound (changed_at n f boxes)
fit_changed f keeps n [] h = tt
fit_changed f keeps zero (o ∷ os) h = (keeps o h.0, h.1)
fit_changed f keeps (suc n) (o ∷ os) h = (h.0, fit_changed f keeps n os h.1)

opened_fits : (o : OutboxOf) → HasRound (opened o)
opened_fits o = let h = min-le_right (o.round + 1) 18446744073709551615 in omega (arith, h)

fits : (p : PolicyOf) (e : Event) → IsStable p e HaveBoxes
fits p e = record {
  ends = record {
    member = λ k v h. (fit_changed closed (λ o r. r) k v.members h.0, h.1);
    switch = λ k v h. (h.0, fit_changed closed (λ o r. r) k v.switches h.1);
  };
  member_begun = λ k arp is v h. (fit_changed opened (λ o r. opened_fits o) k v.members h.0, h.1);
  switch_begun = λ k arp is v h. (h.0, fit_changed opened (λ o r. opened_fits o) k v.switches h.1);
  denied = λ k m at xid denial v h. h;
  replaced = λ k refusal v h. h;
  noted = λ k v h. h;
}

-- a view of items
all_seen : {X Y : Type 0} (P : Y → Type 0) (v : X → Y) (xs : List X) → AllByRecursion (λ x. P (v x)) xs
    → AllByRecursion P (map v xs)
all_seen P v [] h = tt
all_seen P v (x ∷ xs) h = (h.0, all_seen P v xs h.1)

all_of : {X Y : Type 0} (P : Y → Type 0) (v : X → Y) (xs : List X) → AllByRecursion P (map v xs)
    → AllByRecursion (λ x. P (v x)) xs
all_of P v [] h = tt
all_of P v (x ∷ xs) h = (h.0, all_of P v xs h.1)

put_fits : (messages : List (List ℕ)) (o : OutboxOf) → HasRound o → HasRound (put_to messages o)
put_fits messages o h = by o.up
  where
    by : (u : Bool) → HasRound (if u then with_more messages o else o)
    by true = h
    by false = h

members_put : (d : Draft) (j : ℕ) (xs : List MemberOf) → AllByRecursion HasRound (map member_box xs)
    → AllByRecursion (λ (x : MemberOf). HasRound x.outbox) (map (put_to_member d) (enumerate_from j xs))
members_put d j [] h = tt
members_put d j (x ∷ xs) h = (put_fits (for_member d j) x.outbox h.0, members_put d (j + 1) xs h.1)

switches_put : (d : Draft) (j : ℕ) (xs : List SwitchOf) → AllByRecursion HasRound (map switch_box xs)
    → AllByRecursion (λ (x : SwitchOf). HasRound x.outbox) (map (put_to_switch d) (enumerate_from j xs))
switches_put d j [] h = tt
switches_put d j (x ∷ xs) h = (put_fits (for_switch d j) x.outbox h.0, switches_put d (j + 1) xs h.1)

taken_fits : (round : ℕ) (o : OutboxOf) → HasRound o → HasRound (taken o round)
taken_fits round o h = by (is_open o round)
  where
    by : (b : Bool) → HasRound (if b then record o { waiting = later o.waiting } else o)
    by true = h
    by false = h

one_fits : {X : Type 0} (box : X → OutboxOf) (f : X → X) → ((x : X) → HasRound (box x) → HasRound (box (f x)))
    → (n : ℕ) (xs : List X) → AllByRecursion (λ x. HasRound (box x)) xs
    → AllByRecursion (λ x. HasRound (box x)) (changed_at n f xs)
one_fits box f keeps n [] h = tt
one_fits box f keeps zero (x ∷ xs) h = (keeps x h.0, h.1)
one_fits box f keeps (suc n) (x ∷ xs) h = (h.0, one_fits box f keeps n xs h.1)

module _ (p : PolicyOf) (s : State) (h : HaveRounds s) where
  step_through : (e : Event) → HaveRounds (put p (drafted p (heard s e) e))
  step_through e =
      let d = drafted p (heard s e) e in
      let r = draft_holds p e HaveBoxes (fits p e) (heard s e) (slow p (heard s e) e)
      (all_seen HasRound member_box s.members h.members, all_seen HasRound switch_box s.switches h.switches) in
      record { members = members_put d 0 d.state.members r.0; switches = switches_put d 0 d.state.switches r.1 }

  left_fits : (who : Who) (round : ℕ) → HaveRounds (left_by who round s)
  left_fits (Member k) round = record {
    members =
        one_fits member_box (λ (x : MemberOf). record x { outbox = taken x.outbox round })
        (λ x r. taken_fits round x.outbox r) k s.members h.members;
    switches = h.switches;
  }
  left_fits (Switch k) round = record {
    members = h.members;
    switches =
        one_fits switch_box (λ (x : SwitchOf). record x { outbox = taken x.outbox round })
        (λ x r. taken_fits round x.outbox r) k s.switches h.switches;
  }
  left_fits Audit round = record { members = h.members; switches = h.switches }

  step_forth : (e : Event) → HaveRounds (step_by None p s e).1
  step_forth (events.Up who arp) = step_through (events.Up who arp)
  step_forth (events.Msg session frame) = step_through (events.Msg session frame)
  step_forth (events.Gone session) = step_through (events.Gone session)
  step_forth (events.Tick second) = step_through (events.Tick second)
  step_forth (events.Take session) = left_fits session.who session.round
  step_forth (events.Policy v text) = step_through (events.Policy v text)

  each_step : (o : Option Reply) (e : Event) → HaveRounds (step_by o p s e).1
  each_step None e = step_forth e
  each_step (Some reply) e = h

members_open : (ms : List MemberItem) → AllByRecursion (λ (x : MemberOf). HasRound x.outbox) (map new_member ms)
members_open [] = tt
members_open (m ∷ ms) = (omega arith, members_open ms)

switches_open : (xs : List SwitchItem) → AllByRecursion (λ (x : SwitchOf). HasRound x.outbox) (map new_switch xs)
switches_open [] = tt
switches_open (x ∷ xs) = (omega arith, switches_open xs)

pub rounds_fit : RoundsFit
rounds_fit = record {
  opening = λ p. record { members = members_open p.members; switches = switches_open p.switches };
  step = λ p s e h. each_step p s h (glance_of p s e) e;
}
