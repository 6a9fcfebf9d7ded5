-- What changes no expression and no member's table leaves what is kept of a setting as it is.
use Rattle.std.specs.Prelude.{◌≡◌, map}
use Rattle.composed_tables.specs.Composing.{ComposedOf, IsOf}
use Rattle.cv_io.specs.declared.leaf.Session.{Session}
use Rattle.events.specs.declared.event.Event.{Event}
use Rattle.member_state.specs.States.{MemberStateOf}
use Rattle.policies.specs.Policies.{PolicyOf}
use Rattle.machine_meaning.specs.Composing.{compose}
use Rattle.machine_meaning.specs.Drafts.{Draft}
use Rattle.machine_meaning.specs.Phases.{draft_of, settled_of}
use Rattle.machine_meaning.specs.Putting.{put}
use Rattle.machine_meaning.specs.Rounds.{Closing}
use Rattle.machine_meaning.specs.Settings.{setting_of, tables_with}
use Rattle.machine_meaning.specs.States.{MemberOf, State}
use Rattle.machine_meaning.specs.Takings.{left_after}
use Rattle.machine_meaning.specs.Telling.{tell}

-- a member's table, with the levels of its ranks
abbrev pub kept_of : MemberOf → MemberStateOf
kept_of x = x.kept

-- expressions and members' tables stay, whatever becomes of sessions
pub record TablesStay (s t : State) : Type 0 where
  pub exprs : t.exprs ≡ s.exprs
  pub kept : map kept_of t.members ≡ map kept_of s.members

-- so do the tables as composition reads them
pub record LeavesStay (p : PolicyOf) (s t : State) : Type 0 where
  pub exprs : t.exprs ≡ s.exprs
  pub leaves : tables_with p.members t.members ≡ tables_with p.members s.members

abbrev pub LeavesAreOfTables : Type 0
LeavesAreOfTables = (p : PolicyOf) (s t : State) → TablesStay s t → LeavesStay p s t

-- then what is kept of the setting stays
abbrev pub SettingsStay : Type 0
SettingsStay =
    (p : PolicyOf) (s t : State) → LeavesStay p s t → (c : ComposedOf) → IsOf (setting_of p s) c
    → IsOf (setting_of p t) c

-- composing, telling and putting change neither
pub record PhasesStay (p : PolicyOf) (before : State) (d : Draft) : Type 0 where
  pub composed : TablesStay d.state (compose p d).state
  pub told : TablesStay d.state (tell p before d).state
  pub put : TablesStay d.state (put p d)

abbrev pub PhasesKeepTables : Type 0
PhasesKeepTables = (p : PolicyOf) (before : State) (d : Draft) → PhasesStay p before d

-- so a step leaves those that settled
abbrev pub StepsKeepTables : Type 0
StepsKeepTables =
    (p : PolicyOf) (s : State) (e : Event) (c : Closing)
    → TablesStay (settled_of p s e c).state (put p (draft_of p s e c))

-- nor does a taking
abbrev pub TakingsKeepTables : Type 0
TakingsKeepTables = (session : Session) (s : State) → TablesStay s (left_after session s)
