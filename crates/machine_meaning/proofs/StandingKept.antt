-- What stands on a switch that is up after a step is what the setting gives then.
use Rattle.std.proofs.Common.{◌≡◌, ◌∙◌, ℕ, zero, suc, ◌==◌, Bool, true, false, ◌&&◌, List, [], ◌∷◌, Option, Some, None}
use Rattle.std.proofs.Common.{map}
use Rattle.std.proofs.Common.{refl, sym, ap}
use Rattle.std.proofs.lemmas.Option.{slice_get-map}
use Rattle.std.specs.Prelude.{if◌then◌else◌, option_map, slice_get, unwrap_or}
use Rattle.agreement.specs.declared.state.Setting.{Setting}
use Rattle.install_plan.specs.Tables.{entry_of}
use Rattle.install_plan.specs.declared.written.Written.{Written}
use Rattle.outbox.specs.Outboxes.{OutboxOf, later, taken}
use Rattle.agreement.specs.Entries.{entries_of}
use Rattle.agreement.specs.FreeOrder.{BatchIsTheSame}
use Rattle.cv_io.specs.declared.leaf.Who.{Who}
use Rattle.cv_io.specs.declared.leaf.Who.TheVariants.{Audit, Member, Switch}
use Rattle.of10_match.specs.Ranges.{IsMatch}
use Rattle.policies.specs.Policies.{PolicyOf}
use Rattle.switch_meaning.specs.Batches.{by_key as entries_by_key}
use Rattle.switch_meaning.specs.Keys.{installed}
use Rattle.switch_meaning.specs.declared.entry.PhysEntry.{PhysEntry}
use Rattle.machine_meaning.specs.Hearing.{heard}
use Rattle.machine_meaning.specs.Laws.{AreWritable, IsWritable, SettingsAreSound, StandingIsKept}
use Rattle.machine_meaning.specs.Phases.{drafted}
use Rattle.machine_meaning.specs.Putting.{put}
use Rattle.machine_meaning.specs.Settings.{setting_of}
use Rattle.machine_meaning.specs.Sound.{IsSoundState}
use Rattle.machine_meaning.specs.States.{State, SwitchOf}
use Rattle.machine_meaning.specs.Steps.{step_by}
use Rattle.machine_meaning.specs.Written.{standing_at}
use Rattle.events.specs.declared.event.Event.{Event}
use Rattle.events.specs.declared.event.Event.TheVariants as events
use Rattle.events.specs.declared.event.Reply.{Reply}
use Rattle.machine_meaning.specs.Glances.{glance_of}
use Rattle.machine_meaning.proofs.ComposedSteps.{step_at}
use Rattle.machine_meaning.proofs.StandingAfter.{wanted_in_order}
use Rattle.machine_meaning.proofs.Unchanged.{all_weaker}
use Rattle.machine_meaning.proofs.Writable.{states_writable, writable_after}
use Rattle.machine_meaning.specs.Settings.{tables_with, ups_with}
use Rattle.machine_meaning.specs.States.{MemberOf}
use Rattle.machine_meaning.specs.Takings.{left_by}
use Rattle.policy_setting.specs.OfPolicies as of_policies
use Rattle.machine_meaning.proofs.Numbered.{changed_unseen}
use Rattle.machine_meaning.proofs.Quiet.{kept_of, same_tables}

-- a taking leaves settings, and which switches are up
taken_up : (round : ℕ) (o : OutboxOf) → (taken o round).up ≡ o.up
taken_up round o = by (o.up && (o.round == round))
  where
    by : (b : Bool) → (if b then record o { waiting = later o.waiting } else o).up ≡ o.up
    by true = refl
    by false = refl

left_ups : (who : Who) (round : ℕ) (s : State) → ups_with (left_by who round s).switches ≡ ups_with s.switches
left_ups (Member n) round s = refl
left_ups (Switch n) round s =
    changed_unseen (λ (x : SwitchOf). x.outbox.up) (λ (x : SwitchOf). record x { outbox = taken x.outbox round })
    (λ x. taken_up round x.outbox) n s.switches
left_ups Audit round s = refl

left_members : (who : Who) (round : ℕ) (s : State) → map kept_of (left_by who round s).members ≡ map kept_of s.members
left_members (Member n) round s =
    changed_unseen kept_of (λ (x : MemberOf). record x { outbox = taken x.outbox round }) (λ x. refl) n s.members
left_members (Switch n) round s = refl
left_members Audit round s = refl

left_exprs : (who : Who) (round : ℕ) (s : State) → (left_by who round s).exprs ≡ s.exprs
left_exprs (Member n) round s = refl
left_exprs (Switch n) round s = refl
left_exprs Audit round s = refl

left_standing : (who : Who) (round : ℕ) (s : State) → (left_by who round s).standing ≡ s.standing
left_standing (Member n) round s = refl
left_standing (Switch n) round s = refl
left_standing Audit round s = refl

left_setting : (p : PolicyOf) (who : Who) (round : ℕ) (s : State) → setting_of p (left_by who round s) ≡ setting_of p s
left_setting p who round s =
    let exprs = left_exprs who round s in
    let tables : tables_with p.members (left_by who round s).members ≡ tables_with p.members s.members =
    same_tables 0 p.members (left_by who round s).members s.members (left_members who round s) in
    let ups = left_ups who round s in
    λ i. of_policies.setting_of p (exprs i) (tables i) (ups i)

-- what stands on a switch is what the setting gives
abbrev Gives : PolicyOf → State → ℕ → Type 0
Gives p s n = standing_at s n ≡ entries_by_key (installed (entries_of (setting_of p s) n))

-- a switch that is up was up
record WasUp (xs : List SwitchOf) (n : ℕ) : Type 0 where
  switch : SwitchOf
  at : slice_get xs n ≡ Some switch
  up : switch.outbox.up ≡ true

was_up : (xs : List SwitchOf) (n : ℕ) → slice_get (map (λ (x : SwitchOf). x.outbox.up) xs) n ≡ Some true → WasUp xs n
was_up [] n e = absurd (cc)
was_up (x ∷ xs) zero e = record { switch = x; at = refl; up = cc }
was_up (x ∷ xs) (suc n) e = let r = was_up xs n e in record { switch = r.switch; at = r.at; up = r.up }

module _ (same : BatchIsTheSame) (p : PolicyOf) (s : State) (sound : IsSoundState p s) (before : AreWritable p s)
    (n : ℕ) where
  through : (e : Event) → AreWritable p (put p (drafted p (heard s e) e)) → (x : SwitchOf)
      → slice_get (put p (drafted p (heard s e) e)).switches n ≡ Some x → x.outbox.up ≡ true
      → Gives p (put p (drafted p (heard s e) e)) n
  through e after x at up =
      let r = step_at p s sound before n e after x at up in
      r.stands
      ∙ (wanted_in_order same r.next r.stood r.wanted r.fits.one r.one
      (all_weaker IsWritable (λ (e : PhysEntry). IsMatch e.m) (λ e h. h.match_in_range) r.wanted r.writable)
      ∙ ap entries_by_key r.is_wanted)

  left_gives : (who : Who) (round : ℕ) (x : SwitchOf) → slice_get (left_by who round s).switches n ≡ Some x
      → x.outbox.up ≡ true → Gives p (left_by who round s) n
  left_gives who round x at up =
      let t = left_by who round s in
      let was =
      was_up s.switches n (ap (λ (us : List Bool). slice_get us n) (sym (left_ups who round s))
      ∙ (slice_get-map (λ (y : SwitchOf). y.outbox.up) t.switches n
      ∙ (ap (option_map (λ (y : SwitchOf). y.outbox.up)) at ∙ ap (λ u. Some u) up))) in
      ap (λ (standing : List (List Written)). map entry_of (unwrap_or (slice_get standing n) []))
      (left_standing who round s)
      ∙ ((sound.switches n was.switch was.at).gives was.up
      ∙ ap (λ (t : Setting). entries_by_key (installed (entries_of t n))) (sym (left_setting p who round s)))

  abbrev Kept : Option Reply → Event → Type 0
  Kept o e =
      AreWritable p (step_by o p s e).1 → (x : SwitchOf) → slice_get (step_by o p s e).1.switches n ≡ Some x
      → x.outbox.up ≡ true → Gives p (step_by o p s e).1 n

  forth : (e : Event) → Kept None e
  forth (events.Up who arp) = through (events.Up who arp)
  forth (events.Msg session frame) = through (events.Msg session frame)
  forth (events.Gone session) = through (events.Gone session)
  forth (events.Tick second) = through (events.Tick second)
  forth (events.Take session) = λ after x at up. left_gives session.who session.round x at up
  forth (events.Policy v text) = through (events.Policy v text)

  each_kept : (o : Option Reply) (e : Event) → Kept o e
  each_kept None e = forth e
  each_kept (Some reply) e = λ after x at up. (sound.switches n x at).gives up

pub standing_kept : BatchIsTheSame → SettingsAreSound → StandingIsKept
standing_kept same settings p policy s sound e given numbers n x at up =
    each_kept same p s sound (states_writable settings p policy s sound) n (glance_of p s e) e
    (writable_after settings p policy s sound e given numbers) x at up
