-- What events do to counts, one thing after the other.
use Rattle.std.specs.Prelude.{ℕ, true, false, List, [], ◌∷◌, ◌++◌, Option, Some, None, filter, if◌then◌else◌, map}
use Rattle.std.specs.Prelude.{slice_get}
use Rattle.agreement.specs.Entries.{entries_of}
use Rattle.agreement.specs.declared.state.Setting.{Setting}
use Rattle.install_plan.specs.declared.written.Written.{Written}
use Rattle.policies.specs.Policies.{PolicyOf}
use Rattle.stats_map.specs.Histories.{Dropped, Step, Told, WentDown, Wrote}
use Rattle.switch_meaning.specs.Keys.{installed}
use Rattle.switch_meaning.specs.declared.entry.PhysEntry.{PhysEntry}
use Rattle.machine_meaning.specs.Batches.{coming}
use Rattle.machine_meaning.specs.Composing.{compose_at}
use Rattle.machine_meaning.specs.Counted.{dropped_between}
use Rattle.machine_meaning.specs.Drafts.{Draft}
use Rattle.machine_meaning.specs.Glances.{glance_of}
use Rattle.machine_meaning.specs.Hearing.{Report, heard, reports_in}
use Rattle.machine_meaning.specs.Lists.{places}
use Rattle.machine_meaning.specs.Phases.{drafted, settled_of, slow}
use Rattle.machine_meaning.specs.Runs.{after}
use Rattle.machine_meaning.specs.Sessions.{standing_of}
use Rattle.machine_meaning.specs.Settings.{setting_of}
use Rattle.machine_meaning.specs.States.{State, SwitchOf, opening}
use Rattle.events.specs.declared.event.Event.{Event}
use Rattle.events.specs.declared.event.Event.TheVariants.{Take}
use Rattle.events.specs.declared.event.Reply.{Reply}
use Rattle.machine_meaning.specs.declared.said.Down.{Down}

-- numbers of a cookie are told
abbrev pub told_by : Report → Step
told_by r = Told r.place r.numbers false

-- those of a removed entry are the last
abbrev pub last_by : Report → Step
last_by r = Told r.place r.numbers true

-- a switch goes down
abbrev pub down_by : Down → Step
down_by x = WentDown x.switch

-- an entry is written to a switch, under its cookie
abbrev pub wrote_by : ℕ → Written → Step
wrote_by n w = Wrote (n, w.cookie) w.entry.ancestry

-- the entries that are written to a switch that is up
abbrev pub wrote_on : ℕ → Option SwitchOf → List PhysEntry → Draft → List Step
wrote_on n None wanted d = []
wrote_on n (Some x) wanted d =
    if x.outbox.up then map (wrote_by n) (coming d.state.next_cookie (standing_of d.state n) wanted) else []

abbrev pub wrote_at : Setting → Draft → ℕ → List Step
wrote_at s d n = wrote_on n (slice_get d.state.switches n) (installed (entries_of s n)) d

-- those that are written to switches, one switch after the other
abbrev pub wrote_from : Setting → Draft → List ℕ → List Step
wrote_from s d [] = []
wrote_from s d (n ∷ ns) = wrote_at s d n ++ wrote_from s (compose_at s d n) ns

-- what the draft before composition writes
abbrev pub wrote : PolicyOf → Draft → List Step
wrote p d = wrote_from (setting_of p d.state) d (places d.state.switches)

-- what an event did to counts that began in a state and left a draft, of which another draft was composed
abbrev pub counted_in : PolicyOf → State → List Report → Draft → Draft → List Step
counted_in p before reports settled d =
    map told_by reports ++
    (map last_by (filter (λ (r : Report). r.last) reports)
    ++ (map down_by d.downs ++ (wrote p settled ++ map Dropped (dropped_between before d.state))))

-- what an event that goes through the phases does to counts
abbrev pub counted_through : PolicyOf → State → Event → List Step
counted_through p s e =
    counted_in p s (reports_in s e) (settled_of p (heard s e) e (slow p (heard s e) e)) (drafted p (heard s e) e)

abbrev pub counted_from : Option Reply → PolicyOf → State → Event → List Step
counted_from (Some reply) p s e = []
counted_from None p s (Take session) = []
counted_from None p s e = counted_through p s e

-- what an event does to counts: numbers are told; the removal of a cookie is; switches go down; entries are written;
-- entries that don't matter any more are forgotten
abbrev pub counted_by : PolicyOf → State → Event → List Step
counted_by p s e = counted_from (glance_of p s e) p s e

-- what events do to counts, one after the other
abbrev pub counted_along : PolicyOf → State → List Event → List Step
counted_along p s [] = []
counted_along p s (e ∷ events) = counted_by p s e ++ counted_along p (after p s e) events

-- what a run did to counts
abbrev pub counted_of : PolicyOf → List Event → List Step
counted_of p events = counted_along p (opening p) events
