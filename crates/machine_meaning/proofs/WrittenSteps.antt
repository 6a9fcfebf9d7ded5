-- A switch that takes what a step puts to it has the entries that stand.
use Rattle.std.proofs.Common.{◌≡◌, ◌∙◌, ℕ, ◌<◌, ◌^◌, Bool, true, false, List, [], ◌∷◌, ◌++◌, map}
use Rattle.std.proofs.Common.{Option, Some, None, refl, sym, ap, subst}
use Rattle.std.proofs.lemmas.List.Sorted.{IsPermutation-map, IsPermutation-sym, IsPermutation-trans}
use Rattle.std.specs.Prelude.{IsPermutation, slice_get, unwrap_or}
use Rattle.std.specs.List.{AllByRecursion}
use Rattle.std.specs.Option.{option_map_or}
use Rattle.cv_io.specs.declared.leaf.Who.{Who}
use Rattle.cv_io.specs.declared.leaf.Who.TheVariants.{Audit, Member, Switch}
use Rattle.install_plan.specs.Tables.{after, entry_of}
use Rattle.install_plan.specs.declared.written.Batch.{Batch}
use Rattle.install_plan.specs.declared.written.Written.{Written}
use Rattle.install_plan.proofs.Cookies.{entries-numbered}
use Rattle.policies.specs.Policies.{PolicyOf}
use Rattle.switch_meaning.specs.BatchLaw.{HasOneAKey, IsTableOf}
use Rattle.switch_meaning.specs.Batches.{missing, by_key as entries_by_key}
use Rattle.switch_meaning.specs.Keys.{flow_of}
use Rattle.switch_meaning.specs.declared.entry.Change.{Change}
use Rattle.switch_meaning.specs.declared.entry.FlowEntry.{FlowEntry}
use Rattle.switch_meaning.specs.declared.entry.PhysEntry.{PhysEntry}
use Rattle.switch_meaning.proofs.Batched.{by_key-permutes}
use Rattle.switch_meaning.proofs.Members.{all-permuted}
use Rattle.switch_state.specs.Fitting.{CanAdd}
use Rattle.switch_state.specs.Frames.{BatchIsSendable, HasTypes, QuietChangesNothing, SentIsRead, bodies_in}
use Rattle.switch_state.specs.Messages.{switch_messages}
use Rattle.switch_state.specs.Writing.{BatchIsWritten, InstallationIsWritten, IsReadable, MayGo, MayMake}
use Rattle.switch_state.specs.Writing.{between_barriers}
use Rattle.machine_meaning.specs.Batches.{batch_between, coming, going, standing_after}
use Rattle.machine_meaning.specs.Drafts.{Draft, said_to}
use Rattle.machine_meaning.specs.Glances.{glance_of}
use Rattle.machine_meaning.specs.Hearing.{heard}
use Rattle.machine_meaning.specs.Laws.{AreWritable, IsWritable, SettingsAreSound, StepsAreWritten}
use Rattle.machine_meaning.specs.Phases.{drafted}
use Rattle.machine_meaning.specs.Putting.{for_switch, put}
use Rattle.machine_meaning.specs.Sessions.{is_switch, standing_of}
use Rattle.machine_meaning.specs.Sound.{IsSoundState}
use Rattle.machine_meaning.specs.States.{State, SwitchOf}
use Rattle.machine_meaning.specs.Steps.{step_by}
use Rattle.machine_meaning.specs.Takings.{left_by}
use Rattle.machine_meaning.specs.Written.{HadBefore, draft_at, standing_at}
use Rattle.events.specs.declared.event.Event.{Event}
use Rattle.events.specs.declared.event.Event.TheVariants as events
use Rattle.events.specs.declared.event.Reply.{Reply}
use Rattle.machine_meaning.proofs.QuietMessages.{all_quiet, bodies_both}
use Rattle.machine_meaning.proofs.StandingAfter.{all_missing, batch_is_difference, wanted_stands}
use Rattle.machine_meaning.proofs.Unchanged.{all_weaker}
use Rattle.machine_meaning.proofs.Writable.{states_writable, writable_after}
use Rattle.machine_meaning.proofs.FitEntries.{IsFit, StandsFit, addable, coming_fit, going_fit, nothing_fit, readable}
use Rattle.machine_meaning.proofs.FitEntries.{typed}
use Rattle.machine_meaning.proofs.ComposedSteps.{IsStepAt, others_of, step_at}

-- a batch -----------------------------------------------------------------------------------------------------------

-- of no messages a switch makes what it had
nothing_made : (old new : List FlowEntry) → MayMake [] old new → old ≡ new
nothing_made old new ([], permutes, same) = same
nothing_made old new (c ∷ cs, permutes, same) = absurd (all-permuted (λ (c : Change). ⊥) [] (c ∷ cs) permutes tt).0

module _ (writes : BatchIsWritten) (installs : InstallationIsWritten) (next : ℕ) (few : next < 2 ^ 64)
    (wanted : List PhysEntry) (fit : AllByRecursion IsWritable wanted) (one : HasOneAKey wanted) where
  -- what is wanted stands afterwards
  of_wanted : (stood : List Written) → StandsFit stood → (new : List FlowEntry) → IsTableOf wanted new
      → IsTableOf (map entry_of (standing_after next stood wanted)) new
  of_wanted stood h new made =
      let stands = map entry_of (standing_after next stood wanted) in
      IsPermutation-trans (map flow_of stands) (map flow_of wanted) new
      (IsPermutation-sym (map flow_of wanted) (map flow_of stands)
      (IsPermutation-map flow_of wanted stands (wanted_stands next stood wanted h.one one))) made

  changed : (stood : List Written) → StandsFit stood → (old new : List FlowEntry) → IsTableOf (map entry_of stood) old
      → MayMake (switch_messages false (batch_between next stood wanted)) old new
      → IsTableOf (map entry_of (standing_after next stood wanted)) new
  changed stood h old new had make =
      of_wanted stood h new
      (writes (map entry_of stood) wanted (batch_between next stood wanted) (batch_is_difference next stood wanted)
      h.one one (all_weaker IsFit IsReadable readable (going stood wanted) (going_fit stood wanted h.fit))
      (all_weaker IsFit IsReadable readable (coming next stood wanted) (coming_fit next stood wanted few fit)) old new
      had make)

  fresh : (old new : List FlowEntry) → MayMake (switch_messages true (batch_between next [] wanted)) old new
      → IsTableOf (map entry_of (standing_after next [] wanted)) new
  fresh old new make =
      let adds : map entry_of (coming next [] wanted) ≡ entries_by_key wanted =
      entries-numbered next (entries_by_key (missing [] wanted)) ∙ ap entries_by_key (all_missing wanted) in
      of_wanted [] nothing_fit new
      (installs wanted (batch_between next [] wanted) refl
      (subst (IsPermutation wanted) (sym adds) (by_key-permutes wanted)) one
      (all_weaker IsFit IsReadable readable (coming next [] wanted) (coming_fit next [] wanted few fit)) old new make)

  made : (begins : Bool) (stood : List Written) → StandsFit stood → (begins ≡ true → stood ≡ [])
      → (old new : List FlowEntry) → HadBefore begins (map entry_of stood) old
      → MayMake (switch_messages begins (batch_between next stood wanted)) old new
      → IsTableOf (map entry_of (standing_after next stood wanted)) new
  made true stood h none old new had make =
      subst (λ (ws : List Written). MayMake (switch_messages true (batch_between next ws wanted)) old new
      → IsTableOf (map entry_of (standing_after next ws wanted)) new) (sym (none refl)) (fresh old new) make
  made false stood h none old new had make = changed stood h old new had make

-- what had to be as it was
had_stood : (begins : Bool) (s : State) (n : ℕ) (stood : List Written) (old : List FlowEntry)
    → (begins ≡ false → stood ≡ standing_of s n) → HadBefore begins (standing_at s n) old
    → HadBefore begins (map entry_of stood) old
had_stood true s n stood old same had = had
had_stood false s n stood old same had =
    subst (λ (ws : List Written). IsTableOf (map entry_of ws) old) (sym (same refl)) had

-- a step ------------------------------------------------------------------------------------------------------------

module _ (writes : BatchIsWritten) (installs : InstallationIsWritten) (reads : SentIsRead) (sendable : BatchIsSendable)
    (quiet : QuietChangesNothing) (p : PolicyOf) (s : State) (sound : IsSoundState p s) (before : AreWritable p s)
    (n : ℕ) where
  module _ (d : Draft) (r : IsStepAt p s n d) where
    abbrev begins : Bool
    begins = is_switch n d.begun

    abbrev batch : Batch
    batch = batch_between r.next r.stood r.wanted

    -- what is read of the batch
    batch_read : bodies_in (said_to n d.batches) ≡ switch_messages begins batch
    batch_read =
        ap bodies_in r.said
        ∙ reads (switch_messages begins batch) (record { known = r.switch.known; messages = [] }) r.xid
        (sendable begins batch
        (all_weaker IsFit CanAdd addable batch.adds (coming_fit r.next r.stood r.wanted r.few r.writable))
        (all_weaker IsFit HasTypes typed batch.deletes (going_fit r.stood r.wanted r.fits.fit))
        (all_weaker IsFit HasTypes typed batch.adds (coming_fit r.next r.stood r.wanted r.few r.writable)))

    barriers : between_barriers (bodies_in (for_switch d n)) ≡ between_barriers (switch_messages begins batch)
    barriers =
        ap between_barriers (bodies_both (said_to n d.batches) (others_of d n)
        ∙ ap (λ bodies. bodies ++ bodies_in (others_of d n)) batch_read)
        ∙ quiet (switch_messages begins batch) (bodies_in (others_of d n)) (all_quiet (others_of d n) r.others)

    made_of : (old new : List FlowEntry) → HadBefore begins (standing_at s n) old
        → MayMake (bodies_in (for_switch d n)) old new → IsTableOf (standing_at (put p d) n) new
    made_of old new had make =
        subst (λ es. IsTableOf es new) (sym r.stands)
        (made writes installs r.next r.few r.wanted r.writable r.one begins r.stood r.fits r.none old new
        (had_stood begins s n r.stood old r.same had)
        (subst (λ (changes : List (List Change)). MayGo changes old new) barriers make))

  -- where nothing is put, and what stands stays
  unchanged : (t : State) → t.standing ≡ s.standing → (old new : List FlowEntry) → HadBefore false (standing_at s n) old
      → MayMake [] old new → IsTableOf (standing_at t n) new
  unchanged t same old new had make =
      subst (λ (standing : List (List Written)). IsTableOf (map entry_of (unwrap_or (slice_get standing n) [])) new)
      (sym same) (subst (IsTableOf (standing_at s n)) (nothing_made old new make) had)

  left_standing : (who : Who) (round : ℕ) → (left_by who round s).standing ≡ s.standing
  left_standing (Member k) round = refl
  left_standing (Switch k) round = refl
  left_standing Audit round = refl

  abbrev Writes : Option Reply → Event → Type 0
  Writes o e =
      AreWritable p (step_by o p s e).1 → (x : SwitchOf) → slice_get (step_by o p s e).1.switches n ≡ Some x
      → x.outbox.up ≡ true → (old new : List FlowEntry)
      → HadBefore (option_map_or (λ (d : Draft). is_switch n d.begun) (draft_at o p s e) false) (standing_at s n) old
      → MayMake (bodies_in (option_map_or (λ (d : Draft). for_switch d n) (draft_at o p s e) [])) old new
      → IsTableOf (standing_at (step_by o p s e).1 n) new

  through : (e : Event) → AreWritable p (put p (drafted p (heard s e) e)) → (x : SwitchOf)
      → slice_get (put p (drafted p (heard s e) e)).switches n ≡ Some x → x.outbox.up ≡ true
      → (old new : List FlowEntry)
      → HadBefore (is_switch n (drafted p (heard s e) e).begun) (standing_at s n) old
      → MayMake (bodies_in (for_switch (drafted p (heard s e) e) n)) old new
      → IsTableOf (standing_at (put p (drafted p (heard s e) e)) n) new
  through e after x at up old new had make =
      made_of (drafted p (heard s e) e) (step_at p s sound before n e after x at up) old new had make

  forth : (e : Event) → Writes None e
  forth (events.Up who arp) = through (events.Up who arp)
  forth (events.Msg session frame) = through (events.Msg session frame)
  forth (events.Gone session) = through (events.Gone session)
  forth (events.Tick second) = through (events.Tick second)
  forth (events.Take session) = λ after x at up old new had make.
      unchanged (left_by session.who session.round s) (left_standing session.who session.round) old new had make
  forth (events.Policy v text) = through (events.Policy v text)

  each_written : (o : Option Reply) (e : Event) → Writes o e
  each_written None e = forth e
  each_written (Some reply) e = λ after x at up old new had make. unchanged s refl old new had make

pub steps_written : BatchIsWritten → InstallationIsWritten → SentIsRead → BatchIsSendable → QuietChangesNothing
    → SettingsAreSound → StepsAreWritten
steps_written writes installs reads sendable quiet settings p policy s sound e given numbers n x at up =
    each_written writes installs reads sendable quiet p s sound (states_writable settings p policy s sound) n
    (glance_of p s e) e (writable_after settings p policy s sound e given numbers) x at up
