use Rattle.std.proofs.Common.{◌≡◌, ◌+◌, ◌≤◌, true}
use Rattle.std.specs.Prelude.{IfSome, is_some}
use Rattle.event_ends.specs.Closings.{closing_of}
use Rattle.event_composes.specs.Costs.{first_steps, kept_steps}
use Rattle.event_composes.specs.Kept.{IsBegun}
use Rattle.machine_drafts.specs.Machines.{state_in_held}
use Rattle.machine_meaning.specs.Phases.{is_empty, nobody, slow, slow_from}
use Rattle.hyper_core.proofs.drafting.draft_event.Given as goal

-- What is held stays as it is, and what is kept is kept of it as the event begins; from these sessions on, so many more
-- times, are all that are closed as slow. Only in the first attempt something is kept, and only that takes steps.
abbrev pub invariant-loop-closing : goal.invariant-loop-closing
invariant-loop-closing g l = record {
  state : state_in_held l.held ≡ state_in_held l.fn.held;
  kept : IfSome l.composed (IsBegun l.setup (state_in_held l.fn.held) l.event);
  rest : slow_from l.left l.setup (state_in_held l.fn.held) l.event (closing_of l.closing)
      ≡ slow l.setup (state_in_held l.fn.held) l.event;
  first : is_some l.composed ≡ true → closing_of l.closing ≡ nobody;
  follows : is_some l.fn.composed ≡ true → is_empty (slow l.setup (state_in_held l.fn.held) l.event) ≡ true
      → is_some l.composed ≡ true;
  steps : l.steps + kept_steps l.composed (first_steps l.setup (state_in_held l.fn.held) l.event)
      ≤ l.fn.steps + first_steps l.setup (state_in_held l.fn.held) l.event;
}

abbrev pub decreases-loop-closing : goal.decreases-loop-closing
decreases-loop-closing g l = l.left
