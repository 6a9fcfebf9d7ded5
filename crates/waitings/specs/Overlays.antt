-- What is waited for while an event is drafted.
use Rattle.std.specs.Prelude.{List}
use Rattle.waitings.specs.declared.state.Waiting.{Waiting}

-- what was waited for as the event began, and what is waited for now; each in the order in which it began
pub record WaitingsOf : Type 0 where
  pub base : List Waiting
  pub now : List Waiting
