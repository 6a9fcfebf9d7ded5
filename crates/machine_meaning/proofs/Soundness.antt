-- A sound state is sound after each step, and after any events tables agree with it.
use Rattle.std.proofs.Common.{List, [], ◌∷◌, fold}
use Rattle.std.specs.List.{AllByRecursion}
use Rattle.agreement.specs.FreeOrder.{BatchIsTheSame}
use Rattle.events.specs.declared.event.Event.{Event}
use Rattle.policies.specs.Policies.{PolicyOf}
use Rattle.policies.specs.Sound.{IsSound}
use Rattle.machine_meaning.specs.Events.{IsEvent}
use Rattle.machine_meaning.specs.Laws.{RunsAgree, SettingsAreSound, SoundnessIsKept, StandingIsInstalled, StatesAgree}
use Rattle.machine_meaning.specs.Runs.{after, run_of}
use Rattle.machine_meaning.specs.Sound.{HasNumbers, IsSoundState}
use Rattle.machine_meaning.specs.States.{State, opening}
use Rattle.machine_meaning.specs.Steps.{step_of}
use Rattle.machine_meaning.specs.Written.{table_at}
use Rattle.machine_meaning.proofs.KeptSteps.{counts_kept, owed_kept, switches_kept}
use Rattle.machine_meaning.proofs.Opening.{opening_sound}
use Rattle.machine_meaning.proofs.SoundTables.{sizes_kept, tables_kept, waiting_kept, written_kept}
use Rattle.machine_meaning.proofs.StandingKept.{standing_kept}
use Rattle.machine_meaning.proofs.TypedSteps.{cookie_fits, numbers_left, typed_kept}

pub soundness_kept : BatchIsTheSame → SettingsAreSound → SoundnessIsKept
soundness_kept same settings p policy s sound e given numbers =
    let tables = tables_kept p policy s sound e given numbers in
    let sizes = sizes_kept p policy s sound e given numbers in
    record {
      exprs = tables.exprs;
      all_members = tables.all_members;
      all_switches = sizes.0;
      all_standing = sizes.1;
      members = tables.members;
      typed = typed_kept p s e given sound.typed;
      switches = λ n x at.
          let h = switches_kept p policy s sound e given numbers n x at in
          record {
            outbox = h.outbox;
            down = h.down;
            gives = standing_kept same settings p policy s sound e given numbers n x at;
            begun = h.begun;
            cookies = h.cookies;
            deleted = h.deleted;
            once = h.once;
            xid = h.xid;
          };
      counts = counts_kept p policy s sound e given numbers;
      waiting = waiting_kept p policy s sound e given numbers;
      owed = owed_kept p policy s sound e given numbers;
      written = written_kept p policy s sound e given numbers;
    }

-- runs --------------------------------------------------------------------------------------------------------------

module _ (kept : SoundnessIsKept) (p : PolicyOf) (policy : IsSound p) where
  sound_after : (events : List Event) (s : State) → IsSoundState p s → AllByRecursion IsEvent events
      → HasNumbers (fold (after p) s events) → IsSoundState p (fold (after p) s events)
  sound_after [] s sound given numbers = sound
  sound_after (e ∷ es) s sound given numbers =
      let next = (step_of p s e).1 in
      let left = numbers_left p es next (cookie_fits p s e sound.written.1) numbers in
      sound_after es next (kept p policy s sound e given.0 left) given.1 numbers

-- after any events each packet leaves as the operators say over the members' tables
pub runs_agree : SoundnessIsKept → StatesAgree → StandingIsInstalled → RunsAgree
runs_agree kept agree stands p policy events given numbers =
    let s = run_of p events in
    let sound = sound_after kept p policy events (opening p) (opening_sound p policy) given numbers in
    agree p policy s sound (table_at s) (stands p policy s sound)
