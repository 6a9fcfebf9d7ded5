-- What a step writes to a switch that is up after it, and what stands there then.
use Rattle.std.proofs.Common.{◌≡◌, ◌∙◌, ℕ, zero, suc, ◌<◌, ◌^◌, Bool, true, false, List, [], ◌∷◌, ◌++◌, map}
use Rattle.std.proofs.Common.{Option, Some, refl, sym, ap, subst}
use Rattle.std.proofs.lemmas.Option.{slice_get-map}
use Rattle.std.specs.Prelude.{option_map, slice_get, unwrap_or}
use Rattle.std.specs.List.{AllByRecursion}
use Rattle.agreement.specs.Entries.{entries_of}
use Rattle.agreement.specs.declared.state.Setting.{Setting}
use Rattle.install_plan.specs.Tables.{after, entry_of}
use Rattle.install_plan.specs.declared.written.Written.{Written}
use Rattle.policies.specs.Policies.{PolicyOf}
use Rattle.switch_meaning.specs.BatchLaw.{HasOneAKey}
use Rattle.switch_meaning.specs.Keys.{installed}
use Rattle.switch_meaning.specs.declared.entry.PhysEntry.{PhysEntry}
use Rattle.switch_state.specs.Messages.{switch_messages}
use Rattle.switch_state.proofs.Fitting.{all_joined}
use Rattle.machine_meaning.specs.Batches.{batch_between, standing_after}
use Rattle.machine_meaning.specs.Composing.{compose}
use Rattle.machine_meaning.specs.Drafts.{Draft, said_to}
use Rattle.machine_meaning.specs.Hearing.{heard}
use Rattle.machine_meaning.specs.Laws.{AreWritable, IsWritable}
use Rattle.machine_meaning.specs.Phases.{settled_of, slow}
use Rattle.machine_meaning.specs.Putting.{put}
use Rattle.machine_meaning.specs.Sessions.{is_switch, standing_of}
use Rattle.machine_meaning.specs.Settings.{setting_of, ups_with}
use Rattle.machine_meaning.specs.Sound.{IsSoundState}
use Rattle.machine_meaning.specs.States.{State, SwitchOf}
use Rattle.machine_meaning.specs.Telling.{tell}
use Rattle.machine_meaning.specs.Written.{standing_at}
use Rattle.events.specs.declared.event.Event.{Event}
use Rattle.machine_meaning.specs.declared.said.Letter.{Letter}
use Rattle.machine_meaning.proofs.Composed.{IsComposed, Rest, all_composed, rest_composed, rest_of}
use Rattle.machine_meaning.proofs.QuietMessages.{IsQuietLetter, IsQuietMessage, said_quiet}
use Rattle.machine_meaning.proofs.Readied.{IsReady, IsReadyAt, seen_of, settled_ready, side_of}
use Rattle.machine_meaning.proofs.Requested.{IsTold, Kept, all_told, kept_in, put_setting, same_ups}
use Rattle.switch_state.specs.Sending.{send_all}
use Rattle.machine_meaning.proofs.FitEntries.{StandsFit, fit_stood, stood_fit, within}

-- what else is put to a switch than its batch
abbrev pub others_of : Draft → ℕ → List (List ℕ)
others_of d n = said_to n d.polls ++ (said_to n d.packets ++ said_to n d.echoes)

-- A switch is written the batch that makes what stood, or nothing where its round begins, what the setting gives after
-- the step; that stands then, and what else is put to it changes no table.
pub record IsStepAt (p : PolicyOf) (s : State) (n : ℕ) (d : Draft) : Type 0 where
  pub switch : SwitchOf
  pub xid : switch.known.xid < 2 ^ 32
  pub stood : List Written
  pub fits : StandsFit stood
  pub none : is_switch n d.begun ≡ true → stood ≡ []
  pub same : is_switch n d.begun ≡ false → stood ≡ standing_of s n
  pub wanted : List PhysEntry
  pub is_wanted : wanted ≡ installed (entries_of (setting_of p (put p d)) n)
  pub writable : AllByRecursion IsWritable wanted
  pub one : HasOneAKey wanted
  pub next : ℕ
  pub few : next < 2 ^ 64
  pub said :
      said_to n d.batches ≡ (send_all (switch_messages (is_switch n d.begun) (batch_between next stood wanted))
      (record { known = switch.known; messages = [] })).messages
  pub stands : standing_at (put p d) n ≡ map entry_of (standing_after next stood wanted)
  pub others : AllByRecursion IsQuietMessage (others_of d n)

up_there : (xs : List SwitchOf) (n : ℕ) → slice_get (map (λ (x : SwitchOf). x.outbox.up) xs) n ≡ Some true
    → (x : SwitchOf) × (slice_get xs n ≡ Some x) × (x.outbox.up ≡ true)
up_there [] n e = absurd (cc)
up_there (x ∷ xs) zero e = (x, refl, cc)
up_there (x ∷ xs) (suc n) e = up_there xs n e

module _ (p : PolicyOf) (s : State) (sound : IsSoundState p s) (before : AreWritable p s) (n : ℕ) (e : Event) where
  abbrev start : State
  start = heard s e

  abbrev settled : Draft
  settled = settled_of p start e (slow p start e)

  abbrev composed : Draft
  composed = compose p settled

  abbrev final : Draft
  final = tell p start composed

  abbrev wanted : List PhysEntry
  wanted = installed (entries_of (setting_of p settled.state) n)

  ready : IsReady s (seen_of settled)
  ready = settled_ready p s sound e (slow p start e)

  rest : rest_of composed ≡ rest_of settled
  rest = rest_composed p settled

  none_quiet : (ls : List Letter) → ls ≡ [] → AllByRecursion IsQuietLetter ls
  none_quiet ls h = subst (AllByRecursion IsQuietLetter) (sym h) tt

  told : IsTold (kept_in composed) final
  told =
      all_told (kept_in composed) p start composed
      (record {
        kept = refl;
        polls = none_quiet composed.polls (ap (λ (r : Rest). r.polls) rest ∙ ready.polls);
        packets = none_quiet composed.packets (ap (λ (r : Rest). r.packets) rest ∙ ready.packets);
      })

  ups : ups_with final.state.switches ≡ ups_with settled.state.switches
  ups = ap (λ (k : Kept). k.ups) told.kept ∙ ap (λ (r : Rest). r.ups) rest

  begun : final.begun ≡ settled.begun
  begun = ap (λ (k : Kept). k.begun) told.kept ∙ ap (λ (r : Rest). r.begun) rest

  echoes : AllByRecursion IsQuietLetter final.echoes
  echoes =
      subst (AllByRecursion IsQuietLetter)
      (sym (ap (λ (k : Kept). k.echoes) told.kept ∙ ap (λ (r : Rest). r.echoes) rest)) ready.echoes

  setting : setting_of p (put p final) ≡ setting_of p settled.state
  setting =
      put_setting p final settled.state
      (ap (λ (k : Kept). k.exprs) told.kept ∙ ap (λ (r : Rest). r.exprs) rest)
      (ap (λ (k : Kept). k.members) told.kept ∙ ap (λ (r : Rest). r.members) rest) ups

  others_quiet : AllByRecursion IsQuietMessage (others_of final n)
  others_quiet =
      all_joined IsQuietMessage (said_to n final.polls) (said_to n final.packets ++ said_to n final.echoes)
      (said_quiet n final.polls told.polls)
      (all_joined IsQuietMessage (said_to n final.packets) (said_to n final.echoes)
      (said_quiet n final.packets told.packets) (said_quiet n final.echoes echoes))

  module _ (after : AreWritable p (put p final)) (x : SwitchOf) (at : slice_get settled.state.switches n ≡ Some x)
      (up : x.outbox.up ≡ true) (stood : List Written) (there : slice_get settled.state.standing n ≡ Some stood) where
    abbrev begins : Bool
    begins = is_switch n settled.begun

    here : IsReadyAt s (seen_of settled) n (side_of x)
    here = ready.each n (side_of x) (slice_get-map side_of settled.state.switches n ∙ ap (option_map side_of) at)

    stands : unwrap_or (slice_get settled.state.standing n) [] ≡ stood
    stands = ap (λ (o : Option (List Written)). unwrap_or o []) there

    none : begins ≡ true → stood ≡ []
    none t = sym stands ∙ here.begins t

    same : begins ≡ false → stood ≡ standing_of s n
    same t = sym stands ∙ here.stays up t

    is : IsComposed n wanted x stood begins composed
    is =
        let said = ap (said_to n) ready.batches in
        all_composed (setting_of p settled.state) n x stood begins up settled.state.switches at settled
        (record {
          is = λ i. record { switch = at i; standing = there i; said = said i; begun = begins };
          few = ready.next;
        })

    begins_then : is_switch n final.begun ≡ begins
    begins_then = ap (is_switch n) begun

    step_with : IsStepAt p s n final
    step_with = record {
      switch = x;
      xid = here.xid;
      stood = stood;
      fits = fit_stood begins stood (standing_of s n) (stood_fit p s sound before n) none same;
      none = λ t. none (sym begins_then ∙ t);
      same = λ t. same (sym begins_then ∙ t);
      wanted = wanted;
      is_wanted = ap (λ (t : Setting). installed (entries_of t n)) (sym setting);
      writable = subst (λ (t : Setting). AllByRecursion IsWritable (installed (entries_of t n))) setting (after.each n);
      one = subst (λ (t : Setting). HasOneAKey (installed (entries_of t n))) setting (after.one_a_key n);
      next = is.next;
      few = is.few;
      said =
          ap (λ (k : Kept). said_to n k.batches) told.kept
          ∙ (is.said
          ∙ ap (λ (b : Bool).
          (send_all (switch_messages b (batch_between is.next stood wanted))
          (record { known = x.known; messages = [] })).messages) (sym begins_then));
      stands =
          ap (λ (k : Kept). map entry_of (unwrap_or (slice_get k.standing n) [])) told.kept
          ∙ ap (λ (o : Option (List Written)). map entry_of (unwrap_or o [])) is.standing;
      others = others_quiet;
    }

  pub step_at : AreWritable p (put p final) → (x : SwitchOf) → slice_get (put p final).switches n ≡ Some x
      → x.outbox.up ≡ true → IsStepAt p s n final
  step_at after x at up =
      let put_up : slice_get (ups_with (put p final).switches) n ≡ Some true =
      slice_get-map (λ (y : SwitchOf). y.outbox.up) (put p final).switches n
      ∙ (ap (option_map (λ (y : SwitchOf). y.outbox.up)) at ∙ ap (λ u. Some u) up) in
      let was_up : slice_get (ups_with settled.state.switches) n ≡ Some true =
      ap (λ (us : List Bool). slice_get us n) (sym (same_ups p final ∙ ups)) ∙ put_up in
      let was = up_there settled.state.switches n was_up in
      let side : slice_get (map side_of settled.state.switches) n ≡ Some (side_of was.0) =
      slice_get-map side_of settled.state.switches n ∙ ap (option_map side_of) was.1 in
      let stood =
      within (map side_of settled.state.switches) settled.state.standing ready.long n (side_of was.0) side in
      step_with after was.0 was.1 was.2 stood.0 stood.1
