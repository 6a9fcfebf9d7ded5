-- What an event puts to a switch that is up after it are messages of bytes, but for such as change no table.
use Rattle.std.proofs.Common.{◌≡◌, ◌∙◌, ℕ, inl, inr, true, List, [], ◌∷◌, ◌++◌, Option, Some}
use Rattle.std.proofs.Common.{None}
use Rattle.std.proofs.Common.{suc, zero, refl, sym, ap, subst, arith, append-nil}
use Rattle.std.specs.Prelude.{flat_map, slice_get}
use Rattle.std.specs.List.{AllByRecursion}
use Rattle.std.specs.Option.{option_map_or}
use Rattle.events.specs.declared.event.Event.{Event}
use Rattle.events.specs.declared.event.Event.TheVariants as events
use Rattle.events.specs.declared.event.Reply.{Reply}
use Rattle.of10_actions.specs.Spelling.{IsBytes}
use Rattle.of10_msgs.specs.Reading.{reading}
use Rattle.of10_msgs.specs.declared.message.Body.{Body}
use Rattle.of10_msgs.specs.declared.message.Body.TheVariants.{BarrierRequest}
use Rattle.policies.specs.Policies.{PolicyOf}
use Rattle.switch_state.specs.Frames.{IsQuiet, said_by}
use Rattle.switch_state.specs.Writing.{changes_of}
use Rattle.switch_state.proofs.Fitting.{all_joined}
use Rattle.machine_meaning.specs.Batches.{batch_between}
use Rattle.machine_meaning.specs.Drafts.{Draft, said_to}
use Rattle.machine_meaning.specs.Glances.{glance_of}
use Rattle.machine_meaning.specs.Hearing.{heard}
use Rattle.machine_meaning.specs.Laws.{AreWritable, SoundnessIsKept, StatesAreWritable}
use Rattle.machine_meaning.specs.Phases.{drafted}
use Rattle.machine_meaning.specs.Putting.{for_switch, put}
use Rattle.machine_meaning.specs.Runs.{after}
use Rattle.machine_meaning.specs.Sessions.{is_switch}
use Rattle.machine_meaning.specs.Sound.{IsSoundState}
use Rattle.machine_meaning.specs.States.{State, SwitchOf}
use Rattle.machine_meaning.specs.Steps.{step_by}
use Rattle.machine_meaning.specs.Written.{draft_at}
use Rattle.machine_meaning.proofs.ComposedSteps.{others_of, step_at}
use Rattle.machine_meaning.proofs.FitEntries.{coming_fit, going_fit}
use Rattle.machine_meaning.proofs.QuietMessages.{AreQuiet, IsQuietMessage}
use Rattle.written_tables.specs.Laws.{ChangesNothing, FlowModsAreBytes, IsBytesOrQuiet}
use Rattle.written_tables.proofs.Bytes.{AreBytes, batch_are}

-- bytes, by their places
placed : (bytes : List ℕ) → AreBytes bytes → IsBytes bytes
placed [] h i = omega arith
placed (b ∷ bytes) h zero = h.0
placed (b ∷ bytes) h (suc i) = placed bytes h.1 i

all_placed : (messages : List (List ℕ)) → AllByRecursion AreBytes messages → AllByRecursion IsBytesOrQuiet messages
all_placed [] h = tt
all_placed (m ∷ messages) h = (inl (placed m h.0), all_placed messages h.1)

-- what is quiet changes nothing
quiet_body : (body : Body) → IsQuiet body → changes_of body ≡ []
quiet_body BarrierRequest q = absurd q
quiet_body body q = q

quiet_bodies : (bodies : List Body) → AreQuiet bodies → flat_map changes_of bodies ≡ []
quiet_bodies [] q = refl
quiet_bodies (body ∷ bodies) q = (λ i. quiet_body body q.0 i ++ quiet_bodies bodies q.1 i)

quiet_message : (m : List ℕ) → IsQuietMessage m → ChangesNothing m
quiet_message m q =
    ap (flat_map changes_of) (append-nil (said_by (reading m))) ∙ quiet_bodies (said_by (reading m)) q

all_quiet : (messages : List (List ℕ)) → AllByRecursion IsQuietMessage messages
    → AllByRecursion IsBytesOrQuiet messages
all_quiet [] h = tt
all_quiet (m ∷ messages) h = (inr (quiet_message m h.0), all_quiet messages h.1)

module _ (p : PolicyOf) (s : State) (sound : IsSoundState p s) (before : AreWritable p s) (n : ℕ) where
  abbrev Puts : Option Reply → Event → Type 0
  Puts o e =
      AreWritable p (step_by o p s e).1 → (x : SwitchOf) → slice_get (step_by o p s e).1.switches n ≡ Some x
      → x.outbox.up ≡ true
      → AllByRecursion IsBytesOrQuiet (option_map_or (λ (d : Draft). for_switch d n) (draft_at o p s e) [])

  through : (e : Event) → AreWritable p (put p (drafted p (heard s e) e)) → (x : SwitchOf)
      → slice_get (put p (drafted p (heard s e) e)).switches n ≡ Some x → x.outbox.up ≡ true
      → AllByRecursion IsBytesOrQuiet (for_switch (drafted p (heard s e) e) n)
  through e later x at up =
      let d = drafted p (heard s e) e in
      let r = step_at p s sound before n e later x at up in
      let b = batch_between r.next r.stood r.wanted in
      let batch : AllByRecursion AreBytes (said_to n d.batches) =
      subst (AllByRecursion AreBytes) (sym r.said)
      (batch_are (is_switch n d.begun) b (record { known = r.switch.known; messages = [] })
      (going_fit r.stood r.wanted r.fits.fit) (coming_fit r.next r.stood r.wanted r.few r.writable) tt) in
      all_joined IsBytesOrQuiet (said_to n d.batches) (others_of d n) (all_placed (said_to n d.batches) batch)
      (all_quiet (others_of d n) r.others)

  forth : (e : Event) → Puts None e
  forth (events.Up who arp) = through (events.Up who arp)
  forth (events.Msg session frame) = through (events.Msg session frame)
  forth (events.Gone session) = through (events.Gone session)
  forth (events.Tick second) = through (events.Tick second)
  forth (events.Take session) = λ later x at up. tt
  forth (events.Policy v text) = through (events.Policy v text)

  each_puts : (o : Option Reply) (e : Event) → Puts o e
  each_puts None e = forth e
  each_puts (Some reply) e = λ later x at up. tt

pub flow_mods_are : StatesAreWritable → SoundnessIsKept → FlowModsAreBytes
flow_mods_are writable kept p policy s sound e given numbers n x at up =
    each_puts p s sound (writable p policy s sound) n (glance_of p s e) e
    (writable p policy (after p s e) (kept p policy s sound e given numbers)) x at up
