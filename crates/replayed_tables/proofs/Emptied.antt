-- A state once all that waits for a session is taken: it is sound, and nothing else of it changed.
use Rattle.std.proofs.Common.{◌≡◌, ◌∙◌, ℕ, zero, suc, ◌<◌, ◌^◌, ◌==◌, Bool, true, false}
use Rattle.std.proofs.Common.{List, [], ◌∷◌}
use Rattle.std.proofs.Common.{map, ◌+◌, Option, Some, None, if◌then◌else◌, option_map, arith, refl, sym, ap, subst}
use Rattle.std.proofs.lemmas.Bool.{eqb-false, eqb-true}
use Rattle.std.specs.Prelude.{slice_get}
use Rattle.std.specs.List.{AllByRecursion, enumerate_from}
use Rattle.std.specs.Option.{option_map_or}
use Rattle.cv_io.specs.declared.leaf.Session.{Session}
use Rattle.cv_io.specs.declared.leaf.Who.{Who}
use Rattle.cv_io.specs.declared.leaf.Who.TheVariants.{Audit, Member, Switch}
use Rattle.events.specs.declared.event.Event.TheVariants.{Take}
use Rattle.events.specs.declared.event.Reply.{Reply}
use Rattle.outbox.specs.Outboxes.{OutboxOf, taken}
use Rattle.policies.specs.Policies.{PolicyOf}
use Rattle.policies.specs.Sound.{IsSound}
use Rattle.policy_meaning.proofs.Booleans.{some_injective}
use Rattle.machine_meaning.specs.Glances.{glance_of}
use Rattle.machine_meaning.specs.Laws.{SoundnessIsKept}
use Rattle.machine_meaning.specs.Lists.{changed_at}
use Rattle.machine_meaning.specs.Sessions.{round_of}
use Rattle.machine_meaning.specs.Sound.{HasNumbers, IsSoundState}
use Rattle.machine_meaning.specs.States.{MemberOf, State, SwitchOf}
use Rattle.machine_meaning.specs.Steps.{step_by, step_of}
use Rattle.machine_meaning.specs.Takings.{left_by}
use Rattle.machine_meaning.proofs.Composed.{elsewhere}
use Rattle.machine_meaning.proofs.Numbered.{at_changed, behind, here}
use Rattle.replay_report.specs.Playing.{present}
use Rattle.replay_report.specs.Sessions.{named_switch}
use Rattle.replay_report.specs.declared.sessions.Named.{Named}
use Rattle.replay_report.specs.Takings.{TakesFirst, emptied, emptied_outbox, emptied_switch, taken_in, takes_of}
use Rattle.replay_report.specs.Takings.{waiting_in, waits_for}
use Rattle.replay_report.proofs.Takes.{step_takes}
use Rattle.written_tables.specs.Laws.{HasRound, HaveRounds, RoundsFit}
use Rattle.written_tables.specs.Making.{Makes, made_by}
use Rattle.switch_meaning.specs.BatchLaw.{IsTableOf}
use Rattle.machine_meaning.specs.Written.{standing_at}
use Rattle.virtual_topology.specs.declared.plan.SwitchItem.{SwitchItem}

-- numbers that are left ----------------------------------------------------------------------------------------------

serials_left : (n : ℕ) (f : MemberOf → MemberOf) → ((x : MemberOf) → (f x).kept ≡ x.kept) → (ms : List MemberOf)
    → AllByRecursion (λ (x : MemberOf). x.kept.table.next + 1 < 2 ^ 64) ms
    → AllByRecursion (λ (x : MemberOf). x.kept.table.next + 1 < 2 ^ 64) (changed_at n f ms)
serials_left n f same [] h = tt
serials_left zero f same (x ∷ ms) h = (subst (λ (k : _). k.table.next + 1 < 2 ^ 64) (sym (same x)) h.0, h.1)
serials_left (suc n) f same (x ∷ ms) h = (h.0, serials_left n f same ms h.1)

numbers_left : (who : Who) (round : ℕ) (s : State) → HasNumbers s → HasNumbers (left_by who round s)
numbers_left (Member n) round s h = record {
  cookies = h.cookies;
  serials =
      serials_left n (λ (x : MemberOf). record x { outbox = taken x.outbox round }) (λ x. refl) s.members h.serials;
}
numbers_left (Switch n) round s h = record { cookies = h.cookies; serials = h.serials }
numbers_left Audit round s h = record { cookies = h.cookies; serials = h.serials }

numbers_taken : (p : PolicyOf) (s : State) (session : Session) → HasNumbers s
    → HasNumbers (step_of p s (Take session)).1
numbers_taken p s session h = by (glance_of p s (Take session))
  where
    by : (o : Option Reply) → HasNumbers (step_by o p s (Take session)).1
    by None = numbers_left session.who session.round s h
    by (Some reply) = h

-- rounds -------------------------------------------------------------------------------------------------------------

round_in : {X : Type 0} (box : X → OutboxOf) (xs : List X) (n : ℕ) → AllByRecursion (λ x. HasRound (box x)) xs
    → option_map_or (λ (o : OutboxOf). o.round) (option_map box (slice_get xs n)) 0 < 2 ^ 64
round_in box [] n h = omega arith
round_in box (x ∷ xs) zero h = h.0
round_in box (x ∷ xs) (suc n) h = round_in box xs n h.1

pub round_fits : (s : State) (who : Who) → HaveRounds s → round_of s who < 2 ^ 64
round_fits s (Member n) h = round_in (λ (x : MemberOf). x.outbox) s.members n h.members
round_fits s (Switch n) h = round_in (λ (x : SwitchOf). x.outbox) s.switches n h.switches
round_fits s Audit h = omega arith

-- soundness ----------------------------------------------------------------------------------------------------------

-- what is carried from state to state
pub record IsGood (p : PolicyOf) (s : State) : Type 0 where
  pub sound : IsSoundState p s
  pub rounds : HaveRounds s
  pub numbers : HasNumbers s

module _ (kept : SoundnessIsKept) (fits : RoundsFit) (p : PolicyOf) (policy : IsSound p) where
  one_taken : (s : State) (who : Who) → IsGood p s → IsGood p (step_of p s (Take (present s who))).1
  one_taken s who h =
      let numbers = numbers_taken p s (present s who) h.numbers in
      record {
        sound = kept p policy s h.sound (Take (present s who)) (round_fits s who h.rounds) numbers;
        rounds = fits.step p s (Take (present s who)) h.rounds;
        numbers = numbers;
      }

  tail_of : (m k : List ℕ) (ms ks : List (List ℕ)) → m ∷ ms ≡ k ∷ ks → ms ≡ ks
  tail_of m k ms ks e = cc e

  -- a taking, where nothing waits, and where something does
  after_none : (s : State) (who : Who) → waits_for s who ≡ [] → IsGood p s → (o : Option (List ℕ))
      → TakesFirst o who s (step_of p s (Take (present s who))).1 → IsGood p (emptied who s)
  after_none s who is h None first = subst (IsGood p) first.1 (one_taken s who h)
  after_none s who is h (Some m) first = absurd (cc (sym is ∙ first.0))

  after_some : (m : List ℕ) (ms : List (List ℕ)) (s : State) (who : Who) → waits_for s who ≡ m ∷ ms → IsGood p s
      → (o : Option (List ℕ)) → TakesFirst o who s (step_of p s (Take (present s who))).1
      → (waits_for (step_of p s (Take (present s who))).1 who ≡ ms → IsGood p (step_of p s (Take (present s who))).1
      → IsGood p (emptied who (step_of p s (Take (present s who))).1))
      → IsGood p (emptied who s)
  after_some m ms s who is h None first again = subst (IsGood p) first.1 (one_taken s who h)
  after_some m ms s who is h (Some k) first again =
      let next = (step_of p s (Take (present s who))).1 in
      subst (IsGood p) first.1
      (again (sym (tail_of m k ms (waits_for next who) (sym is ∙ first.0))) (one_taken s who h))

  emptied_good : (ms : List (List ℕ)) (s : State) (who : Who) → waits_for s who ≡ ms → IsGood p s
      → IsGood p (emptied who s)
  emptied_good [] s who is h =
      after_none s who is h (taken_in (step_of p s (Take (present s who))).0) (step_takes p who s)
  emptied_good (m ∷ ms) s who is h =
      after_some m ms s who is h (taken_in (step_of p s (Take (present s who))).0) (step_takes p who s)
      (emptied_good ms (step_of p s (Take (present s who))).1 who)

  pub taken_good : (s : State) (who : Who) → IsGood p s → IsGood p (emptied who s)
  taken_good s who h = emptied_good (waits_for s who) s who refl h

-- switches -----------------------------------------------------------------------------------------------------------

-- what waits, if it can be taken
abbrev pick : Bool → List (List ℕ) → List (List ℕ)
pick u waiting = if u then waiting else []

emptied_up : (o : OutboxOf) → (emptied_outbox o).up ≡ o.up
emptied_up o = by o.up
  where
    by : (b : Bool) → (if b then record o { waiting = [] } else o).up ≡ o.up
    by true = refl
    by false = refl

bare_outbox : (o : OutboxOf) → waiting_in (emptied_outbox o) ≡ []
bare_outbox o = by o.up refl
  where
    by : (b : Bool) → o.up ≡ b → waiting_in (if b then record o { waiting = [] } else o) ≡ []
    by true e = ap (λ (u : Bool). pick u []) e
    by false e = ap (λ (u : Bool). pick u o.waiting) e

-- nothing that can be taken waits for a switch
abbrev pub IsBare : State → ℕ → Type 0
IsBare s n = (x : SwitchOf) → slice_get s.switches n ≡ Some x → waiting_in x.outbox ≡ []

-- a switch after a taking
taken_at : (P : SwitchOf → Type 0) (k n : ℕ) (xs : List SwitchOf)
    → ((k == n) ≡ true → (y : SwitchOf) → slice_get xs n ≡ Some y → P (emptied_switch y))
    → ((k == n) ≡ false → (y : SwitchOf) → slice_get xs n ≡ Some y → P y)
    → (x : SwitchOf) → slice_get (changed_at k emptied_switch xs) n ≡ Some x → P x
taken_at P k n xs here there x at = by (k == n) refl
  where
    of : (t : (k == n) ≡ true) (g : Option SwitchOf) → slice_get xs n ≡ g → option_map emptied_switch g ≡ Some x → P x
    of t None e i = absurd (cc i)
    of t (Some y) e i = subst P (some_injective i) (here t y e)

    by : (b : Bool) → (k == n) ≡ b → P x
    by true t =
        of t (slice_get xs n) refl
        (sym (at_changed n emptied_switch xs)
        ∙ subst (λ (j : ℕ). slice_get (changed_at j emptied_switch xs) n ≡ Some x) (eqb-true k n t) at)
    by false t = there t x (sym (elsewhere k n emptied_switch xs t) ∙ at)

bare_here : (s : State) (n : ℕ) → IsBare (emptied (Switch n) s) n
bare_here s n =
    taken_at (λ (x : SwitchOf). waiting_in x.outbox ≡ []) n n s.switches (λ t y at. bare_outbox y.outbox)
    (λ f y at. absurd (eqb-false n n f refl))

bare_still : (who : Who) (s : State) (n : ℕ) → IsBare s n → IsBare (emptied who s) n
bare_still (Member k) s n h = h
bare_still Audit s n h = h
bare_still (Switch k) s n h =
    taken_at (λ (x : SwitchOf). waiting_in x.outbox ≡ []) k n s.switches (λ t y at. bare_outbox y.outbox)
    (λ f y at. h y at)

makes_still : (who : Who) (s : State) (n : ℕ) (messages : List (List ℕ)) → Makes s n messages
    → Makes (emptied who s) n messages
makes_still (Member k) s n messages h = h
makes_still Audit s n messages h = h
makes_still (Switch k) s n messages h = λ x at up table.
    taken_at (λ (y : SwitchOf). y.outbox.up ≡ true → IsTableOf (standing_at s n) (made_by messages table)) k n
    s.switches
    (λ t y there u. h y there (sym (emptied_up y.outbox) ∙ u) table) (λ f y there u. h y there u table) x at up

silent_still : (who : Who) (s : State) → s.audit ≡ [] → (emptied who s).audit ≡ []
silent_still (Member k) s h = h
silent_still (Switch k) s h = h
silent_still Audit s h = refl

-- all sessions -------------------------------------------------------------------------------------------------------

pub all_bare : (xs : List Named) (s : State) (n : ℕ) → IsBare s n → IsBare (takes_of xs s).state n
all_bare [] s n h = h
all_bare (x ∷ xs) s n h = all_bare xs (emptied x.who s) n (bare_still x.who s n h)

pub all_make : (xs : List Named) (s : State) (n : ℕ) (messages : List (List ℕ)) → Makes s n messages
    → Makes (takes_of xs s).state n messages
all_make [] s n messages h = h
all_make (x ∷ xs) s n messages h = all_make xs (emptied x.who s) n messages (makes_still x.who s n messages h)

pub all_silent : (xs : List Named) (s : State) → s.audit ≡ [] → (takes_of xs s).state.audit ≡ []
all_silent [] s h = h
all_silent (x ∷ xs) s h = all_silent xs (emptied x.who s) (silent_still x.who s h)

-- each of the switches is taken from
pub switches_bare : (j : ℕ) (items : List SwitchItem) (s : State) (i : ℕ) (item : SwitchItem)
    → slice_get items i ≡ Some item → IsBare (takes_of (map named_switch (enumerate_from j items)) s).state (j + i)
switches_bare j [] s i item at = absurd (cc at)
switches_bare j (x ∷ items) s zero item at =
    let rest = map named_switch (enumerate_from (j + 1) items) in
    subst (λ (n : ℕ). IsBare (takes_of rest (emptied (Switch j) s)).state n) (here j)
    (all_bare rest (emptied (Switch j) s) j (bare_here s j))
switches_bare j (x ∷ items) s (suc i) item at =
    let rest = map named_switch (enumerate_from (j + 1) items) in
    subst (λ (n : ℕ). IsBare (takes_of rest (emptied (Switch j) s)).state n) (behind j i)
    (switches_bare (j + 1) items (emptied (Switch j) s) i item at)

module _ (kept : SoundnessIsKept) (fits : RoundsFit) (p : PolicyOf) (policy : IsSound p) where
  pub all_good : (xs : List Named) (s : State) → IsGood p s → IsGood p (takes_of xs s).state
  all_good [] s h = h
  all_good (x ∷ xs) s h = all_good xs (emptied x.who s) (taken_good kept fits p policy s x.who h)
