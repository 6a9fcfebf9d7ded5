use Rattle.std.proofs.Common.{take}
use Rattle.machine_drafts.specs.Serials.{StandingHaveSerials}
use Rattle.event_composes.proofs.keeping.have_serials.Given as goal

abbrev pub invariant-loop-member : goal.invariant-loop-member
invariant-loop-member l = StandingHaveSerials (take l.member-index l.member-items)
