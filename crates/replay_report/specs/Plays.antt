-- What a call leaves of a replay, beside what it is to do.
use Rattle.std.specs.Prelude.{◌≡◌, Bool, true, false, List, [], ◌++◌, Option, Some, None, Result, Ok, Err}
use Rattle.machine_drafts.specs.Machines.{MachineOf, state_of}
use Rattle.replay_report.specs.Playing.{Played, Stand, nothing}
use Rattle.replay_report.specs.declared.streams.Stream.{Stream}
use Rattle.replay_report.specs.declared.telling.Stage.{Stage}

-- where a replay stands
abbrev pub stand_in : Stage → List Stream → Stand
stand_in stage streams = record { state = state_of stage.machine; streams = streams }

-- what was to be played was played
pub record HasPlayed (played : Played) (old new : Stage) (streams : List Stream) : Type 0 where
  pub report : new.report ≡ old.report ++ played.text
  pub stand : stand_in new streams ≡ played.stand

-- a line that names something unknown is not played
abbrev pub Plays : Bool → Option Played → Stage → Stage → List Stream → List Stream → Type 0
Plays true (Some played) old new before after = HasPlayed played old new after
Plays false None old new before after = HasPlayed (nothing (stand_in old before)) old new after
Plays true None old new before after = ⊥
Plays false (Some played) old new before after = ⊥
