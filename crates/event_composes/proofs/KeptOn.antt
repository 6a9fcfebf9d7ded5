-- What is kept goes on with what is held.
use Rattle.std.proofs.Common.{◌≡◌, ◌∙◌, ℕ, ◌<◌, ◌^◌, ◌-◌, true, true≢false, List, [], ◌∷◌, map}
use Rattle.std.proofs.Common.{Option, Some, None, refl, sym, ap, subst}
use Rattle.std.specs.Prelude.{IfSome, unwrap_or}
use Rattle.std.proofs.lemmas.List.{length-map}
use Rattle.composed_tables.specs.Composing.{ComposedOf}
use Rattle.cv_io.specs.declared.leaf.Session.{Session}
use Rattle.cv_io.specs.declared.leaf.Who.{Who}
use Rattle.cv_io.specs.declared.leaf.Who.TheVariants.{Audit, Member, Switch}
use Rattle.events.specs.declared.event.Event.{Event}
use Rattle.events.specs.declared.event.Reply.{Reply}
use Rattle.install_plan.specs.Tables.{entry_of}
use Rattle.install_plan.specs.declared.written.Written.{Written}
use Rattle.policies.specs.Policies.{PolicyOf}
use Rattle.policies.specs.Sound.{IsSound}
use Rattle.setting_laws.specs.Drafted.{HaveSerials}
use Rattle.setting_laws.proofs.Drafted.{drafts_sound, heard_sound, serials_stay, settled_sound}
use Rattle.setting_laws.proofs.Staying.{leaves_stay, settings_stay, steps_stay, takings_stay}
use Rattle.machine_meaning.specs.Acting.{act_on}
use Rattle.machine_meaning.specs.Drafts.{Draft, untouched}
use Rattle.machine_meaning.specs.Events.{IsEvent}
use Rattle.machine_meaning.specs.Glances.{glance_of}
use Rattle.machine_meaning.specs.Hearing.{heard}
use Rattle.machine_meaning.specs.Laws.{SoundnessIsKept}
use Rattle.machine_meaning.specs.Phases.{draft_of, drafted, settled_of, slow}
use Rattle.machine_meaning.specs.Putting.{put}
use Rattle.machine_meaning.specs.Rounds.{Closing, close}
use Rattle.machine_meaning.specs.Settings.{setting_of, ups_with}
use Rattle.machine_meaning.specs.Settling.{settle}
use Rattle.machine_meaning.specs.Sound.{AreSoundTables, HasNumbers, IsSoundState}
use Rattle.machine_meaning.specs.States.{State, SwitchOf}
use Rattle.machine_meaning.specs.Steps.{done, step_of}
use Rattle.machine_meaning.specs.Takings.{left_after, left_by}
use Rattle.machine_meaning.proofs.Places.{made_of}
use Rattle.machine_meaning.proofs.TypedSteps.{numbers_left}
use Rattle.event_composes.specs.Kept.{AreGiven, IsBegun, IsComposedOf, IsKept, IsKeptBy, IsSoundWhile}
use Rattle.machine_drafts.specs.Machines.{at_moment, bases_of, state_in_held}
use Rattle.machine_drafts.specs.Moments.{moment_of}
use Rattle.machine_drafts.specs.Outcomes.{Bases}
use Rattle.machine_drafts.specs.Views.{switch_of}
use Rattle.machine_drafts.specs.declared.held.Held.{Held}
use Rattle.event_composes.proofs.Phased.{act_at}

-- soundness ---------------------------------------------------------------------------------------------------------

-- a state that is sound as long as numbers are left is so after a step
pub sound_stepped : SoundnessIsKept → (p : PolicyOf) → IsSound p → (s : State) → s.next_cookie < 2 ^ 64 → (e : Event)
    → IsEvent e → IsSoundWhile p s → IsSoundWhile p (step_of p s e).1
sound_stepped kept p policy s fits e given h numbers =
    kept p policy s (h (numbers_left p (e ∷ []) s fits numbers)) e given numbers

-- nothing is kept of it
pub kept_none : (p : PolicyOf) (s : State) → IsSoundWhile p s → IsKept p s None
kept_none p s h = record { sound = h; numbers = λ e. absurd (true≢false (sym e)); of = tt }

-- a sound state has on its switches what its setting gives
pub given_sound : (p : PolicyOf) (s : State) → IsSoundState p s
    → AreGiven (setting_of p s) (ups_with s.switches) s.standing
given_sound p s h n stood up at =
    let made = made_of (λ (x : SwitchOf). x.outbox.up) s.switches n true up in
    ap (λ (o : Option (List Written)). map entry_of (unwrap_or o [])) (sym at)
    ∙ (h.switches n made.item made.at).gives made.is

-- an event begins ---------------------------------------------------------------------------------------------------

begun_one : (p : PolicyOf) (h new : Held) (e : Event) (c : ComposedOf) → IsEvent e
    → glance_of p (state_in_held h) e ≡ None → state_in_held new ≡ heard (state_in_held h) e
    → record new { counts = h.counts } ≡ h → IsSoundState p (state_in_held h) → IsComposedOf p (state_in_held h) c
    → IsBegun p (state_in_held new) e c
begun_one p h new e c given none is rest sound of =
    let same : Held = record new { counts = h.counts } in
    let there : IsSoundState p (state_in_held same) =
    subst (λ (x : Held). IsSoundState p (state_in_held x)) (sym rest) sound in
    let kept : IsComposedOf p (state_in_held same) c =
    subst (λ (x : Held). IsComposedOf p (state_in_held x) c) (sym rest) of in
    record {
      all = there.all_switches;
      before = record { exprs = there.exprs; all_members = there.all_members; members = there.members };
      after = λ closing serials.
          subst (λ (z : State). AreSoundTables p (settled_of p z e closing).state) (sym is)
          (drafts_sound heard_sound settled_sound p (state_in_held h) sound e given none closing
          (subst (λ (z : State). HaveSerials (settled_of p z e closing).state.members) is serials));
      given = given_sound p (state_in_held same) there;
      of = record { of = kept.of; compiled = kept.compiled; plan_is = kept.plan_is };
    }

-- of what is kept, once the event was heard
pub begun_kept : (p : PolicyOf) (h new : Held) (e : Event) (k : Option ComposedOf) → IsEvent e
    → glance_of p (state_in_held h) e ≡ None → state_in_held new ≡ heard (state_in_held h) e
    → record new { counts = h.counts } ≡ h → IsKept p (state_in_held h) k
    → IfSome k (IsBegun p (state_in_held new) e)
begun_kept p h new e None given none is rest kept = tt
begun_kept p h new e (Some c) given none is rest kept =
    begun_one p h new e c given none is rest (kept.sound (kept.numbers refl)) kept.of

-- an event is drafted -----------------------------------------------------------------------------------------------

-- what settles after it
pub all_settled : (p : PolicyOf) (s : State) (e : Event) (c : Closing) (begun acted closed settled : Draft)
    → begun ≡ untouched (at_moment (moment_of e s.moment) s) → acted ≡ act_on p e begun → closed ≡ close c acted
    → settled ≡ settle p closed → settled ≡ settled_of p s e c
all_settled p s e c begun acted closed settled is_begun is_acted is_closed is_settled =
    is_settled
    ∙ ap (settle p) (is_closed ∙ ap (close c) (is_acted ∙ (ap (act_on p e) is_begun ∙ act_at p s e)))

kept_one : (p : PolicyOf) (h : Held) (e : Event) (closing : Closing) (now : ℕ) (d : Draft) (c : ComposedOf)
    → d ≡ settled_of p (state_in_held h) e closing → IsBegun p (state_in_held h) e c
    → IsKeptBy p (bases_of now h) d.state c
kept_one p h e closing now d c is i = record {
  all = sym (length-map h.switches switch_of) ∙ i.all;
  before = record { exprs = i.before.exprs; all_members = i.before.all_members; members = i.before.members };
  after = λ serials.
      subst (λ (z : Draft). AreSoundTables p z.state) (sym is)
      (i.after closing (subst (λ (z : Draft). HaveSerials z.state.members) is serials));
  given = i.given;
  of = record { of = i.of.of; compiled = i.of.compiled; plan_is = i.of.plan_is };
}

-- what is kept as the event begins is what stands beside its draft
pub kept_settled : (p : PolicyOf) (h : Held) (e : Event) (closing : Closing) (now : ℕ) (b : Bases) (d : Draft)
    (k : Option ComposedOf) → b ≡ bases_of now h → d ≡ settled_of p (state_in_held h) e closing
    → IfSome k (IsBegun p (state_in_held h) e) → IfSome k (IsKeptBy p b d.state)
kept_settled p h e closing now b d None bases is i = tt
kept_settled p h e closing now b d (Some c) bases is i =
    subst (λ (z : Bases). IsKeptBy p z d.state c) (sym bases) (kept_one p h e closing now d c is i)

-- what is kept of what settled is kept of the state in which all is put
pub kept_done : (p : PolicyOf) (s : State) (e : Event) (reply : Reply) (new : State) (k : Option ComposedOf)
    → (reply, new) ≡ done p (drafted p s e)
    → IfSome k (IsComposedOf p (settled_of p s e (slow p s e)).state) → IfSome k (IsComposedOf p new)
kept_done p s e reply new None is i = tt
kept_done p s e reply new (Some c) is i =
    let settled = (settled_of p s e (slow p s e)).state in
    let after = put p (draft_of p s e (slow p s e)) in
    subst (λ (z : State). IsComposedOf p z c) (sym (ap (λ (x : Reply × State). x.1) is))
    (record {
      of = settings_stay p settled after (leaves_stay p settled after (steps_stay p s e (slow p s e))) c i.of;
      compiled = i.compiled;
      plan_is = i.plan_is;
    })

-- takings -----------------------------------------------------------------------------------------------------------

left_cookie : (who : Who) (round : ℕ) (s : State) → (left_by who round s).next_cookie ≡ s.next_cookie
left_cookie (Member n) round s = refl
left_cookie (Switch n) round s = refl
left_cookie Audit round s = refl

numbers_taken : (session : Session) (s : State) → HasNumbers s → HasNumbers (left_after session s)
numbers_taken session s h = record {
  cookies = subst (λ (n : ℕ). n < 2 ^ 64 - 1) (sym (left_cookie session.who session.round s)) h.cookies;
  serials = serials_stay s (left_after session s) (takings_stay session s) h.serials;
}

taken_if : (p : PolicyOf) (s : State) (session : Session) (k : Option ComposedOf) → IfSome k (IsComposedOf p s)
    → IfSome k (IsComposedOf p (left_after session s))
taken_if p s session None i = tt
taken_if p s session (Some c) i = record {
  of =
      settings_stay p s (left_after session s) (leaves_stay p s (left_after session s) (takings_stay session s)) c i.of;
  compiled = i.compiled;
  plan_is = i.plan_is;
}

-- what is kept stays in a taking
pub kept_taken : (p : PolicyOf) (s : State) (session : Session) (k : Option ComposedOf)
    → IsSoundWhile p (left_after session s) → IsKept p s k → IsKept p (left_after session s) k
kept_taken p s session k sound h = record {
  sound = sound;
  numbers = λ some. numbers_taken session s (h.numbers some);
  of = taken_if p s session k h.of;
}
