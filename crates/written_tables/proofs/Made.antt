-- What a switch was put since it came up makes what stands on it, and tables that are made so agree with the policy.
use Rattle.std.proofs.Common.{◌≡◌, ◌∙◌, ℕ, zero, suc, ◌+◌, Bool, true, false, List, [], ◌∷◌, ◌++◌, map, Option, Some}
use Rattle.std.proofs.Common.{None, true≢false, fold, if◌then◌else◌, option_map, refl, sym, ap, subst}
use Rattle.std.proofs.lemmas.List.Sorted.{Contains-permutation, IsPermutation-sym}
use Rattle.std.proofs.lemmas.Option.{slice_get-map}
use Rattle.std.specs.Prelude.{IsPermutation, slice_get}
use Rattle.std.specs.List.{AllByRecursion, enumerate_from}
use Rattle.std.specs.Option.{option_map_or}
use Rattle.agreement.specs.Agree.{AreInstalled, SameEntries}
use Rattle.agreement.specs.Entries.{table_of}
use Rattle.agreement.specs.declared.state.PhysicalSwitch.{PhysicalSwitch}
use Rattle.events.specs.declared.event.Event.{Event}
use Rattle.policies.specs.Policies.{PolicyOf}
use Rattle.policies.specs.Sound.{IsSound}
use Rattle.policy_meaning.proofs.Booleans.{some_injective}
use Rattle.policy_setting.specs.Settings.{holds_at, physical}
use Rattle.switch_meaning.specs.BatchLaw.{IsTableOf}
use Rattle.switch_meaning.specs.declared.entry.FlowEntry.{FlowEntry}
use Rattle.virtual_topology.specs.declared.plan.SwitchItem.{SwitchItem}
use Rattle.machine_meaning.specs.Events.{IsEvent}
use Rattle.machine_meaning.specs.Laws.{OpeningIsSound, SoundnessIsKept, StandingIsInstalled, StatesAgree}
use Rattle.machine_meaning.specs.Laws.{StepsAreWritten}
use Rattle.machine_meaning.specs.Runs.{after, run_of}
use Rattle.machine_meaning.specs.Settings.{setting_of, ups_with}
use Rattle.machine_meaning.specs.Sound.{HasNumbers, IsSoundState}
use Rattle.machine_meaning.specs.States.{State, SwitchOf, new_switch, opening}
use Rattle.machine_meaning.specs.Steps.{step_of}
use Rattle.machine_meaning.specs.Written.{HadBefore, IsWritten, begins_at, put_by, standing_at, table_at}
use Rattle.machine_meaning.proofs.Numbered.{behind, from_zero, here}
use Rattle.machine_meaning.proofs.TypedSteps.{cookie_fits, numbers_left}
use Rattle.written_tables.specs.Laws.{MadeTablesAgree, RunsMakeTables, StepsMakeTables, WrittenTablesAgree}
use Rattle.written_tables.specs.Making.{Makes, brings_up, made_by, put_from, put_more, put_since}
use Rattle.written_tables.proofs.InOrder.{made_both, may_make}
use Rattle.written_tables.proofs.Rounds.{comes}

-- a step ------------------------------------------------------------------------------------------------------------

module _ (p : PolicyOf) (s : State) (e : Event) (n : ℕ) (written : IsWritten p s e n) where
  -- what an event puts makes what stands after it
  made_of : (begins : Bool) → begins_at p s e n ≡ begins → (table : List FlowEntry)
      → HadBefore begins (standing_at s n) table
      → IsTableOf (standing_at (after p s e) n) (made_by (put_by p s e n) table)
  made_of begins is table had =
      written table (made_by (put_by p s e n) table)
      (subst (λ (b : Bool). HadBefore b (standing_at s n) table) (sym is) had) (may_make (put_by p s e n) table)

  made_more : (messages : List (List ℕ)) → Makes s n messages → (up : Bool) → brings_up n e ≡ up
      → begins_at p s e n ≡ brings_up n e
      → (brings_up n e ≡ false → (x : SwitchOf) × (slice_get s.switches n ≡ Some x) × (x.outbox.up ≡ true))
      → (table : List FlowEntry)
      → IsTableOf (standing_at (after p s e) n)
      (made_by (if up then put_by p s e n else messages ++ put_by p s e n) table)
  made_more messages makes true is begins was table = made_of true (begins ∙ is) table tt
  made_more messages makes false is begins was table =
      let x = was is in
      subst (IsTableOf (standing_at (after p s e) n)) (sym (made_both messages (put_by p s e n) table))
      (made_of false (begins ∙ is) (made_by messages table) (makes x.0 x.1 x.2 table))

pub steps_make : StepsAreWritten → StepsMakeTables
steps_make writes p policy s sound e given numbers n messages makes x at up table =
    let c = comes p s n e (x, at, up) in
    made_more p s e n (writes p policy s sound e given numbers n x at up) messages makes (brings_up n e) refl c.0 c.1
    table

-- runs --------------------------------------------------------------------------------------------------------------

-- at first no switch is up
opening_down : (p : PolicyOf) (n : ℕ) (messages : List (List ℕ)) → Makes (opening p) n messages
opening_down p n messages x at up =
    absurd (by (slice_get p.switches n) (sym (slice_get-map new_switch p.switches n) ∙ at))
  where
    by : (o : Option SwitchItem) → option_map new_switch o ≡ Some x → ⊥
    by None e = cc e
    by (Some item) e = true≢false (sym up ∙ ap (λ (y : SwitchOf). y.outbox.up) (sym (some_injective e)))

module _ (steps : StepsMakeTables) (kept : SoundnessIsKept) (p : PolicyOf) (policy : IsSound p) (n : ℕ) where
  made_from : (events : List Event) (s : State) → IsSoundState p s → AllByRecursion IsEvent events
      → HasNumbers (fold (after p) s events) → (messages : List (List ℕ)) → Makes s n messages
      → Makes (fold (after p) s events) n (put_from p n s messages events)
  made_from [] s sound given numbers messages makes = makes
  made_from (e ∷ es) s sound given numbers messages makes =
      let next = (step_of p s e).1 in
      let left = numbers_left p es next (cookie_fits p s e sound.written.1) numbers in
      made_from es next (kept p policy s sound e given.0 left) given.1 numbers (put_more p n s e messages)
      (steps p policy s sound e given.0 left n messages makes)

pub runs_make : StepsMakeTables → OpeningIsSound → SoundnessIsKept → RunsMakeTables
runs_make steps opens kept p policy events given numbers n =
    made_from steps kept p policy n events (opening p) (opens p policy) given numbers [] (opening_down p n [])

-- agreement ---------------------------------------------------------------------------------------------------------

-- a switch that is up in a setting is so in the state
up_of : (ups : List Bool) (k n : ℕ) (items : List SwitchItem)
    → option_map_or (λ (x : PhysicalSwitch). x.up)
    (slice_get (map (physical ups) (enumerate_from k items)) n) false ≡ true
    → holds_at ups (k + n) ≡ true
up_of ups k n [] h = absurd (true≢false (sym h))
up_of ups k zero (s ∷ ss) h = ap (holds_at ups) (sym (here k)) ∙ h
up_of ups k (suc n) (s ∷ ss) h = ap (holds_at ups) (sym (behind k n)) ∙ up_of ups (k + 1) n ss h

up_at : (xs : List SwitchOf) (n : ℕ) → holds_at (map (λ (x : SwitchOf). x.outbox.up) xs) n ≡ true
    → (x : SwitchOf) × (slice_get xs n ≡ Some x) × (x.outbox.up ≡ true)
up_at [] n h = absurd (true≢false (sym h))
up_at (x ∷ xs) zero h = (x, refl, h)
up_at (x ∷ xs) (suc n) h = up_at xs n h

-- in whatever order a table has its entries, they are the same
reordered : (a b c : List FlowEntry) → IsPermutation a b → SameEntries a c → SameEntries b c
reordered a b c moved same = record {
  there = λ e h. same.there e (Contains-permutation b a e (IsPermutation-sym a b moved) h);
  back = λ e h. Contains-permutation a b e moved (same.back e h);
}

pub made_agree : StandingIsInstalled → StatesAgree → MadeTablesAgree
made_agree stands agree p policy s sound messages makes tables =
    agree p policy s sound (λ n. made_by (messages n) (tables n)) each
  where
    each : AreInstalled (setting_of p s) (λ n. made_by (messages n) (tables n))
    each n up =
        let x = up_at s.switches n (ap (holds_at (ups_with s.switches)) (sym (from_zero n))
        ∙ up_of (ups_with s.switches) 0 n p.switches up) in
        reordered (table_at s n) (made_by (messages n) (tables n)) (table_of (setting_of p s) n)
        (makes n x.0 x.1 x.2 (tables n)) (stands p policy s sound n up)

module _ (kept : SoundnessIsKept) (p : PolicyOf) (policy : IsSound p) where
  pub sound_after : (events : List Event) (s : State) → IsSoundState p s → AllByRecursion IsEvent events
      → HasNumbers (fold (after p) s events) → IsSoundState p (fold (after p) s events)
  sound_after [] s sound given numbers = sound
  sound_after (e ∷ es) s sound given numbers =
      let next = (step_of p s e).1 in
      let left = numbers_left p es next (cookie_fits p s e sound.written.1) numbers in
      sound_after es next (kept p policy s sound e given.0 left) given.1 numbers

pub written_agree : OpeningIsSound → SoundnessIsKept → RunsMakeTables → MadeTablesAgree → WrittenTablesAgree
written_agree opens kept runs agree p policy events given numbers tables =
    agree p policy (run_of p events)
    (sound_after kept p policy events (opening p) (opens p policy) given numbers)
    (λ n. put_since p n events) (runs p policy events given numbers) tables
