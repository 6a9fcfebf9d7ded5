-- After any step counts, what is owed, and what is known of switches are sound, while numbers are left.
use Rattle.std.proofs.Common.{◌≡◌, ◌∙◌, ℕ, zero, suc, ◌+◌, ◌-◌, ◌<◌, ◌≤◌, ◌^◌, ◌==◌, Bool, true, false, true≢false}
use Rattle.std.proofs.Common.{◌||◌, ◌&&◌, List, [], ◌∷◌, ◌++◌, map, Option, Some, if◌then◌else◌, arith, refl, sym, ap}
use Rattle.std.proofs.Common.{subst, eq-eqb}
use Rattle.std.specs.Prelude.{flat_map, slice_get}
use Rattle.std.specs.List.{AllByRecursion, IsDistinct, enumerate_from}
use Rattle.std.specs.Option.{option_map_or}
use Rattle.cv_io.specs.Leaves.{same_leaf}
use Rattle.cv_io.specs.declared.leaf.Leaf.{Leaf}
use Rattle.cv_io.specs.declared.leaf.Who.{Who}
use Rattle.cv_io.specs.declared.leaf.Who.TheVariants.{Audit, Member, Switch}
use Rattle.install_plan.specs.declared.written.Written.{Written}
use Rattle.member_state.specs.States.{MemberStateOf}
use Rattle.outbox.specs.Outboxes.{OutboxOf, is_open, later, taken}
use Rattle.policies.specs.Policies.{PolicyOf}
use Rattle.policies.specs.Sound.{IsSound}
use Rattle.policy_meaning.proofs.Lists.{all-zip}
use Rattle.switch_state.specs.Known.{KnownOf, is_outstanding, nothing_known}
use Rattle.machine_meaning.specs.Counted.{is_one_of, leaf_at, leaf_of, leaves_in, leaves_of}
use Rattle.machine_meaning.specs.Events.{IsEvent}
use Rattle.machine_meaning.specs.Hearing.{heard}
use Rattle.machine_meaning.specs.Lists.{changed_at}
use Rattle.machine_meaning.specs.Phases.{draft_of}
use Rattle.machine_meaning.specs.Putting.{put}
use Rattle.machine_meaning.specs.Rounds.{Closing}
use Rattle.machine_meaning.specs.Sessions.{standing_of}
use Rattle.machine_meaning.specs.Sound.{AreSoundCounts, HasNumbers, IsOfRound, IsOutbox, IsSoundOwed, IsSoundState}
use Rattle.machine_meaning.specs.Sound.{stands}
use Rattle.machine_meaning.specs.States.{MemberOf, State, SwitchOf}
use Rattle.machine_meaning.specs.Steps.{step_of}
use Rattle.machine_meaning.specs.Takings.{left_by}
use Rattle.events.specs.declared.event.Event.{Event}
use Rattle.machine_meaning.specs.declared.state.Owed.{Owed}
use Rattle.machine_meaning.proofs.CountWrites.{cookied}
use Rattle.machine_meaning.proofs.DraftedCounts.{drafted_counts, drafted_owed, last_cookies}
use Rattle.machine_meaning.proofs.KeptCookies.{AreKeptCookies}
use Rattle.machine_meaning.proofs.StepCases.{each_step}
use Rattle.machine_meaning.proofs.SteadyStarts.{of_switch}
use Rattle.machine_meaning.proofs.Tallies.{one, tallied_distinct}
use Rattle.machine_meaning.proofs.Unchanged.{all_weaker}
use Rattle.machine_meaning.proofs.Views.{IsHeard}
use Rattle.machine_meaning.proofs.Times.{times}

-- what is kept of a switch ------------------------------------------------------------------------------------------

-- what a sound state says of a switch but for what stands there
pub record IsKeptSwitch (s : State) (n : ℕ) (x : SwitchOf) : Type 0 where
  pub outbox : IsOutbox x.outbox
  pub down : x.outbox.up ≡ false → (x.known ≡ nothing_known 0) × (standing_of s n ≡ [])
  pub begun : x.known.first ≤ s.next_cookie
  pub cookies : AllByRecursion (IsOfRound x s.next_cookie) (standing_of s n)
  pub deleted : AllByRecursion (λ cookie. cookie < s.next_cookie) x.known.deleted
  pub once : IsDistinct ◌==◌ (map (λ (w : Written). w.cookie) (standing_of s n) ++ x.known.deleted)
  pub xid : x.known.xid < 2 ^ 32

abbrev pub AreKeptSwitches : State → Type 0
AreKeptSwitches s = (n : ℕ) (x : SwitchOf) → slice_get s.switches n ≡ Some x → IsKeptSwitch s n x

each_cookied : (ws : List Written) → AllByRecursion (λ (w : Written). 0 < cookied w.cookie ws) ws
each_cookied [] = tt
each_cookied (w ∷ ws) = (
  let c = ap one (eq-eqb w.cookie w.cookie refl) in omega (arith, c),
  all_weaker (λ (v : Written). 0 < cookied v.cookie ws) (λ (v : Written). 0 < cookied v.cookie (w ∷ ws))
      (λ v lt. omega (arith, lt)) ws (each_cookied ws),
)

each_timed : (ds : List ℕ) → AllByRecursion (λ d. 0 < times d ds) ds
each_timed [] = tt
each_timed (d ∷ ds) = (
  let c = ap one (eq-eqb d d refl) in omega (arith, c),
  all_weaker (λ k. 0 < times k ds) (λ k. 0 < times k (d ∷ ds)) (λ k lt. omega (arith, lt)) ds (each_timed ds),
)

switches_from : (s : State) → AreKeptCookies s.standing s.switches s.counts s.next_cookie → AreKeptSwitches s
switches_from s h n x at =
    let side = h.sides n x at in
    record {
      outbox = side.outbox;
      down = side.down;
      begun = side.begun;
      cookies =
          all-zip (λ (w : Written). x.known.first ≤ w.cookie) (λ (w : Written). w.cookie < s.next_cookie)
          (standing_of s n) side.cookies
          (all_weaker (λ (w : Written). 0 < cookied w.cookie (standing_of s n))
          (λ (w : Written). w.cookie < s.next_cookie)
          (λ w lt. h.below n w.cookie (omega (arith, lt))) (standing_of s n) (each_cookied (standing_of s n)));
      deleted =
          all_weaker (λ d. 0 < times d x.known.deleted) (λ d. d < s.next_cookie)
          (λ d lt. h.below n d
          (let is = ap (λ (o : Option SwitchOf). times d (option_map_or (λ (y : SwitchOf). y.known.deleted) o []))
          at in
          omega (arith, is, lt))) x.known.deleted (each_timed x.known.deleted);
      once =
          tallied_distinct ◌==◌ (λ c. eq-eqb c c refl)
          (map (λ (w : Written). w.cookie) (standing_of s n) ++ x.known.deleted)
          (λ c. let is = of_switch s n c x at in let few = h.once n c in omega (arith, is, few));
      xid = side.xid;
    }

sound_switches : (p : PolicyOf) (s : State) → IsSoundState p s → AreKeptSwitches s
sound_switches p s sound n x at =
    let h = sound.switches n x at in
    record {
      outbox = h.outbox;
      down = h.down;
      begun = h.begun;
      cookies = h.cookies;
      deleted = h.deleted;
      once = h.once;
      xid = h.xid;
    }

-- takings -----------------------------------------------------------------------------------------------------------

taken_from : {X : Type 0} (P : X → Type 0) (k : ℕ) (f : X → X) → ((x : X) → P x → P (f x)) → (xs : List X) (n : ℕ)
    (y : X) → ((x : X) → slice_get xs n ≡ Some x → P x) → slice_get (changed_at k f xs) n ≡ Some y → P y
taken_from P k f h [] n y each e = absurd (cc e)
taken_from P zero f h (x ∷ xs) zero y each e =
    let same : f x ≡ y = cc e in subst P same (h x (each x refl))
taken_from P zero f h (x ∷ xs) (suc n) y each e = each y e
taken_from P (suc k) f h (x ∷ xs) zero y each e = each y e
taken_from P (suc k) f h (x ∷ xs) (suc n) y each e = taken_from P k f h xs n y each e

taken_outbox : (o : OutboxOf) (round : ℕ) → IsOutbox o → IsOutbox (taken o round)
taken_outbox o round h = by (is_open o round) refl
  where
    first : (a b : Bool) → (a && b) ≡ true → a ≡ true
    first true b e = refl
    first false b e = e

    by : (b : Bool) → is_open o round ≡ b → IsOutbox (if b then record o { waiting = later o.waiting } else o)
    by true e f = absurd (true≢false (sym (first o.up (o.round == round) e) ∙ f))
    by false e f = h f

taken_up : (o : OutboxOf) (round : ℕ) → (taken o round).up ≡ o.up
taken_up o round = by (is_open o round)
  where
    by : (b : Bool) → (if b then record o { waiting = later o.waiting } else o).up ≡ o.up
    by true = refl
    by false = refl

left_switches : (s : State) → AreKeptSwitches s → (who : Who) (round : ℕ) → AreKeptSwitches (left_by who round s)
left_switches s h (Member k) round n x at =
    let r = h n x at in
    record {
      outbox = r.outbox;
      down = r.down;
      begun = r.begun;
      cookies = r.cookies;
      deleted = r.deleted;
      once = r.once;
      xid = r.xid;
    }
left_switches s h Audit round n x at =
    let r = h n x at in
    record {
      outbox = r.outbox;
      down = r.down;
      begun = r.begun;
      cookies = r.cookies;
      deleted = r.deleted;
      once = r.once;
      xid = r.xid;
    }
left_switches s h (Switch k) round n x at =
    taken_from (IsKeptSwitch (left_by (Switch k) round s) n) k
    (λ (y : SwitchOf). record y { outbox = taken y.outbox round })
    (λ y r. record {
      outbox = taken_outbox y.outbox round r.outbox;
      down = λ e. r.down (sym (taken_up y.outbox round) ∙ e);
      begun = r.begun;
      cookies = r.cookies;
      deleted = r.deleted;
      once = r.once;
      xid = r.xid;
    }) s.switches n x
    (λ y e. let r = h n y e in
    record {
      outbox = r.outbox;
      down = r.down;
      begun = r.begun;
      cookies = r.cookies;
      deleted = r.deleted;
      once = r.once;
      xid = r.xid;
    }) at

leaves_left : (k j : ℕ) (f : MemberOf → MemberOf) → ((x : MemberOf) → (f x).kept ≡ x.kept) → (ms : List MemberOf)
    → flat_map leaves_in (enumerate_from j (changed_at k f ms)) ≡ flat_map leaves_in (enumerate_from j ms)
leaves_left k j f h [] = refl
leaves_left zero j f h (x ∷ xs) =
    ap (λ (m : MemberStateOf). map (leaf_of j) m.table.entries ++ flat_map leaves_in (enumerate_from (j + 1) xs)) (h x)
leaves_left (suc k) j f h (x ∷ xs) =
    ap (λ (ls : List Leaf). leaves_in (j, x) ++ ls) (leaves_left k (j + 1) f h xs)

next_left : (k : ℕ) (f : MemberOf → MemberOf) → ((x : MemberOf) → (f x).kept ≡ x.kept) → (ms : List MemberOf) (n : ℕ)
    → option_map_or (λ (x : MemberOf). x.kept.table.next) (slice_get (changed_at k f ms) n) 0
    ≡ option_map_or (λ (x : MemberOf). x.kept.table.next) (slice_get ms n) 0
next_left k f h [] n = refl
next_left zero f h (x ∷ xs) zero = ap (λ (m : MemberStateOf). m.table.next) (h x)
next_left zero f h (x ∷ xs) (suc n) = refl
next_left (suc k) f h (x ∷ xs) zero = refl
next_left (suc k) f h (x ∷ xs) (suc n) = next_left k f h xs n

out_left : (k c : ℕ) (f : SwitchOf → SwitchOf) → ((x : SwitchOf) → (f x).known ≡ x.known) → (xs : List SwitchOf)
    (n : ℕ) → option_map_or (λ (x : SwitchOf). is_outstanding x.known c) (slice_get (changed_at k f xs) n) false
    ≡ option_map_or (λ (x : SwitchOf). is_outstanding x.known c) (slice_get xs n) false
out_left k c f h [] n = refl
out_left zero c f h (x ∷ xs) zero = ap (λ (m : KnownOf). is_outstanding m c) (h x)
out_left zero c f h (x ∷ xs) (suc n) = refl
out_left (suc k) c f h (x ∷ xs) zero = refl
out_left (suc k) c f h (x ∷ xs) (suc n) = out_left k c f h xs n

left_counts : (s : State) → AreSoundCounts s → (who : Who) (round : ℕ) → AreSoundCounts (left_by who round s)
left_counts s h (Member k) round =
    let f : MemberOf → MemberOf = λ x. record x { outbox = taken x.outbox round } in
    let same : leaves_of (left_by (Member k) round s) ≡ leaves_of s =
    ap (λ (ls : List Leaf). ls ++ map (λ (o : Owed). leaf_of o.member o.entry) s.owed)
    (leaves_left k 0 f (λ x. refl) s.members) in
    record {
      sorted = h.sorted;
      live = h.live;
      once = subst (IsDistinct same_leaf) (sym same) h.once;
      given = λ n d t. subst (λ (m : ℕ). d < m) (sym (next_left k f (λ x. refl) s.members n)) (h.given n d t);
      kept = λ n d t. h.kept n d (sym (ap (λ (ls : List Leaf). is_one_of ls (leaf_at n d)) same) ∙ t);
      going = λ n d t. h.going n d (sym (ap (λ (ls : List Leaf). is_one_of ls (leaf_at n d)) same) ∙ t);
      gone = λ n d t z. h.gone n d (sym (ap (λ (ls : List Leaf). is_one_of ls (leaf_at n d)) same) ∙ t) z;
    }
left_counts s h (Switch k) round = record {
  sorted = h.sorted;
  live = λ n c.
      h.live n c
      ∙ ap (λ (b : Bool). stands (standing_of s n) c || b)
      (sym (out_left k c (λ x. record x { outbox = taken x.outbox round }) (λ x. refl) s.switches n));
  once = h.once;
  given = h.given;
  kept = h.kept;
  going = h.going;
  gone = h.gone;
}
left_counts s h Audit round = record {
  sorted = h.sorted;
  live = h.live;
  once = h.once;
  given = h.given;
  kept = h.kept;
  going = h.going;
  gone = h.gone;
}

left_owed : (s : State) → AllByRecursion (IsSoundOwed s) s.owed → (who : Who) (round : ℕ)
    → AllByRecursion (IsSoundOwed (left_by who round s)) (left_by who round s).owed
left_owed s h (Member k) round = h
left_owed s h (Switch k) round = h
left_owed s h Audit round = h

-- steps -------------------------------------------------------------------------------------------------------------

module _ (p : PolicyOf) (policy : IsSound p) (s : State) (sound : IsSoundState p s) (e : Event) (event : IsEvent e)
    (numbers : HasNumbers (step_of p s e).1) where
  -- a property for which numbers are left
  abbrev Left : State → Type 0
  Left t = t.next_cookie < 2 ^ 64 - 1

  all_kept : (R : State → Type 0) → R s → ((who : Who) (round : ℕ) → R (left_by who round s))
      → ((c : Closing) (there : IsHeard (heard s e) e) → Left (put p (draft_of p (heard s e) e c))
      → R (put p (draft_of p (heard s e) e c))) → R (step_of p s e).1
  all_kept R stays left drafted =
      each_step (λ (t : State). Left t → R t) p s (λ l. stays) (λ session l. left session.who session.round) e
      (λ c there l. drafted c there l) numbers.cookies

  pub counts_kept : AreSoundCounts (step_of p s e).1
  counts_kept =
      all_kept AreSoundCounts sound.counts (left_counts s sound.counts)
      (λ c there l. drafted_counts p s sound e c there l)

  pub owed_kept : AllByRecursion (IsSoundOwed (step_of p s e).1) (step_of p s e).1.owed
  owed_kept =
      all_kept (λ (t : State). AllByRecursion (IsSoundOwed t) t.owed) sound.owed (left_owed s sound.owed)
      (λ c there l. drafted_owed p s sound e c there l)

  pub switches_kept : (n : ℕ) (x : SwitchOf) → slice_get (step_of p s e).1.switches n ≡ Some x
      → IsKeptSwitch (step_of p s e).1 n x
  switches_kept =
      all_kept AreKeptSwitches (sound_switches p s sound) (left_switches s (sound_switches p s sound))
      (λ c there l. switches_from (put p (draft_of p (heard s e) e c)) (last_cookies p s sound e c there l))
