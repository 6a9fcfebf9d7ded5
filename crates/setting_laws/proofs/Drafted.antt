-- What an event leaves before it is composed has sound tables.
use Rattle.std.proofs.Common.{◌≡◌, ◌∙◌, ℕ, suc, ◌+◌, ◌<◌, ◌^◌, true, List, [], ◌∷◌, length, map, Option, Some, None}
use Rattle.std.proofs.Common.{IfSome, arith, refl, sym, ap, subst}
use Rattle.std.specs.Prelude.{slice_get}
use Rattle.std.specs.List.{enumerate_from}
use Rattle.cv_io.specs.declared.leaf.Who.TheVariants.{Switch}
use Rattle.events.specs.declared.event.Event.{Event}
use Rattle.events.specs.declared.event.Event.TheVariants as events
use Rattle.member_state.specs.States.{MemberStateOf}
use Rattle.policies.specs.Policies.{PolicyOf}
use Rattle.policies.specs.declared.policy.MemberItem.{MemberItem}
use Rattle.waitings.specs.Waitings.{asker_of}
use Rattle.waitings.specs.declared.state.Asker.{Asker}
use Rattle.waitings.specs.declared.state.Part.{Part}
use Rattle.waitings.specs.declared.state.Waiting.{Waiting}
use Rattle.machine_meaning.specs.Acting.{act}
use Rattle.machine_meaning.specs.Composing.{compose}
use Rattle.machine_meaning.specs.Drafts.{Draft}
use Rattle.machine_meaning.specs.Glances.{glance_of}
use Rattle.machine_meaning.specs.Hearing.{heard}
use Rattle.machine_meaning.specs.Phases.{draft_of, settled_of}
use Rattle.machine_meaning.specs.Putting.{put_to_member}
use Rattle.machine_meaning.specs.Rounds.{Closing, close}
use Rattle.machine_meaning.specs.Sessions.{is_up}
use Rattle.machine_meaning.specs.Sound.{IsSoundWaiting, IsUpAsker}
use Rattle.machine_meaning.specs.States.{MemberOf, State}
use Rattle.machine_meaning.proofs.KeptNumbers.{HasNext, composed_members, next_of, nexts, nexts_after}
use Rattle.machine_meaning.proofs.KeptNumbers.{same_nexts, told_members}
use Rattle.machine_meaning.proofs.KeptWaiting.{DownUnknown, IsAwaited, IsPartOfUp}
use Rattle.machine_meaning.proofs.Readied.{long_map}
use Rattle.machine_meaning.proofs.SoundActs.{act_holds}
use Rattle.machine_meaning.proofs.SoundPhases.{closed_holds, settled_holds}
use Rattle.machine_meaning.proofs.SoundShapes.{IsShaped}
use Rattle.machine_meaning.proofs.Unchanged.{all_weaker}
use Rattle.machine_meaning.proofs.WhoIsUp.{IsUpAt, is_up_member, is_up_switch, member_up, switch_up}
use Rattle.setting_laws.specs.Drafted.{DraftsAreReady, DraftsAreSound, HaveSerials, HeardIsSound, IsSoundStart}
use Rattle.setting_laws.specs.Drafted.{SerialsStay, SettledIsSound, SoundTablesHaveSerials}
use Rattle.setting_laws.specs.Ready.{SettingsAreReady}
use Rattle.setting_laws.specs.Staying.{kept_of}

-- a state, as an event finds it -------------------------------------------------------------------------------------

module _ (s : State) where
  abbrev IsAwaitedIn : Waiting → Type 0
  IsAwaitedIn w = IsAwaited (map switch_up s.switches) (map member_up s.members) w

  awaited : (w : Waiting) → IsSoundWaiting s w → IsAwaitedIn w
  awaited w h = record {
    parts =
        all_weaker (λ (part : Part). is_up s (Switch part.switch) ≡ true) (IsPartOfUp (map switch_up s.switches))
        (λ part k. sym (is_up_switch s part.switch) ∙ k) w.parts h.parts;
    asker = by (asker_of w.purpose) h.asker;
  }
    where
      by : (o : Option Asker) → IfSome o (IsUpAsker s)
          → IfSome o (λ (a : Asker). IsUpAt (map member_up s.members) a.member)
      by None h = tt
      by (Some a) h = sym (is_up_member s a.member) ∙ h

begins : (p : PolicyOf) (s : State) → IsSoundStart p s → IsShaped p s
begins p s h = record {
  exprs = h.tables.exprs;
  all_members = h.tables.all_members;
  members = h.tables.members;
  all_switches = long_map switch_up s.switches ∙ h.all_switches;
  all_standing = h.all_standing;
  waiting = all_weaker (IsSoundWaiting s) (IsAwaitedIn s) (awaited s) s.waiting h.waiting;
  begun = h.written.0;
  fits = h.written.1;
}

-- serial numbers ----------------------------------------------------------------------------------------------------

put_nexts : (d : Draft) (k : ℕ) (xs : List MemberOf)
    → map next_of (map (put_to_member d) (enumerate_from k xs)) ≡ map next_of xs
put_nexts d k [] = refl
put_nexts d k (x ∷ xs) = ap (λ (ns : List ℕ). next_of x ∷ ns) (put_nexts d (k + 1) xs)

serials_in : (items : List MemberItem) (xs : List MemberOf) → length xs ≡ length items
    → ((n : ℕ) (m : MemberItem) (x : MemberOf) → slice_get items n ≡ Some m → slice_get xs n ≡ Some x → HasNext x)
    → HaveSerials xs
serials_in items [] e f = tt
serials_in [] (x ∷ xs) e f = absurd (omega (arith, e))
serials_in (m ∷ ms) (x ∷ xs) e f =
    (f 0 m x refl refl, serials_in ms xs (omega (arith, e)) (λ n a y g h. f (suc n) a y g h))

pub sound_serials : SoundTablesHaveSerials
sound_serials p s h =
    serials_in p.members s.members h.all_members (λ n m x there at. (h.members n m x there at).sound.table.fits)

kept_serials : (xs ys : List MemberOf) → map kept_of ys ≡ map kept_of xs → HaveSerials xs → HaveSerials ys
kept_serials xs [] e h = tt
kept_serials [] (y ∷ ys) e h = absurd (cc)
kept_serials (x ∷ xs) (y ∷ ys) e h =
    let first : kept_of y ≡ kept_of x = cc in
    let rest : map kept_of ys ≡ map kept_of xs = cc in
    (subst (λ (z : MemberStateOf). z.table.next + 1 < 2 ^ 64) (sym first) h.0, kept_serials xs ys rest h.1)

pub serials_stay : SerialsStay
serials_stay s t k h = kept_serials s.members t.members k.kept h

-- what settles gives no entry a number
settled_nexts : (p : PolicyOf) (s : State) (e : Event) (c : Closing)
    → nexts (settled_of p s e c).state ≡ nexts (act p s e).state
settled_nexts p s e c =
    let settled = settled_of p s e c in
    let final = draft_of p s e c in
    sym (put_nexts final 0 final.state.members
    ∙ (ap (map next_of) (told_members p s (compose p settled)) ∙ ap (map next_of) (composed_members p settled)))
    ∙ nexts_after p s e c

-- drafts ------------------------------------------------------------------------------------------------------------

-- what is heard of counts doesn't matter to whether an event changes anything
glanced : (p : PolicyOf) (s : State) (e : Event) → glance_of p (heard s e) e ≡ glance_of p s e
glanced p s (events.Up who arp) = refl
glanced p s (events.Msg session frame) = refl
glanced p s (events.Gone session) = refl
glanced p s (events.Tick second) = refl
glanced p s (events.Take session) = refl
glanced p s (events.Policy v text) = refl

pub heard_sound : HeardIsSound
heard_sound p s h e = record {
  start = record {
    tables = record { exprs = h.exprs; all_members = h.all_members; members = h.members };
    all_switches = h.all_switches;
    all_standing = h.all_standing;
    down = λ n x at f. ((h.switches n x at).down f).0;
    waiting =
        all_weaker (IsSoundWaiting s) (IsSoundWaiting (heard s e))
        (λ w k. record { some = k.some; parts = k.parts; asker = k.asker }) s.waiting h.waiting;
    written = h.written;
  };
  glance = glanced p s e;
}

pub settled_sound : SettledIsSound
settled_sound p s h e given none c serials =
    let acted = act p s e in
    let settled = settled_of p s e c in
    let left = same_nexts settled.state.members acted.state.members (settled_nexts p s e c) serials in
    let down : DownUnknown s = h.down in
    let done = act_holds p s (begins p s h) down e given none left in
    let shape = (settled_holds p (close c acted) (closed_holds p c acted done)).shape in
    record { exprs = shape.exprs; all_members = shape.all_members; members = shape.members }

pub drafts_sound : HeardIsSound → SettledIsSound → DraftsAreSound
drafts_sound hears settles p s sound e given none c serials =
    let h = hears p s sound e in
    settles p (heard s e) h.start e given (h.glance ∙ none) c serials

pub drafts_ready : SettingsAreReady → DraftsAreSound → DraftsAreReady
drafts_ready ready drafts p h s sound e given none c serials =
    ready p h (settled_of p (heard s e) e c).state (drafts p s sound e given none c serials)
