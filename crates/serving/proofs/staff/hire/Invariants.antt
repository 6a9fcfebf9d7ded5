use Rattle.std.proofs.Common.{◌≡◌, ◌+◌, ◌*◌, ◌++◌, List, length}
use Rattle.events.specs.declared.event.Event.{Event}
use Rattle.events.specs.declared.event.Reply.{Reply}
use Rattle.policy_lock.specs.Seat.{SeatOf}
use Rattle.serving.specs.Works.{AreTeams, IsReaderFor, IsWriterFor}
use Rattle.serving.specs.declared.dialling.Line.{Line}
use Rattle.serving.proofs.staff.hire.Given as goal

abbrev pub invariant-loop-line : goal.invariant-loop-line
invariant-loop-line g l = record {
  done : List (Line g.row.D.Denot);
  used : List (SeatOf Event Reply g.row.H-Machine-State.Denot);
  lines : l.fn.lines ≡ done ++ l.lines.items;
  seats : l.fn.seats ≡ used ++ l.seats.items;
  handovers : l.number + length l.lines.items ≡ length l.office.handovers.now;
  even : length l.seats.items ≡ 2 * length l.lines.items;
  teams : AreTeams (IsReaderFor l.office.lock.now) (IsWriterFor l.office.lock.now l.office.clock.now) done used l.tasks;
}

abbrev pub decreases-loop-line : goal.decreases-loop-line
decreases-loop-line g l = length l.lines.items
