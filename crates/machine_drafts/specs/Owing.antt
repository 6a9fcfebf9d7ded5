-- What is owed: as an event leaves it, beside what stands.
use Rattle.std.specs.Prelude.{List}
use Rattle.machine_meaning.specs.declared.state.Owed.{Owed}

-- the removed entries whose FLOW_REMOVED is owed: as they stand, and as the event leaves them so far
pub record OwingOf : Type 0 where
  pub base : List Owed
  pub now : List Owed
