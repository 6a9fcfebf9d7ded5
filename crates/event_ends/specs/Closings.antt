-- Sessions to be closed, as the program has them.
use Rattle.machine_meaning.specs.Rounds.{Closing as ClosingOf}
use Rattle.event_ends.specs.declared.overfilled.Closing.{Closing}

abbrev pub closing_of : Closing → ClosingOf
closing_of c = record { switches = c.switches; members = c.members }
