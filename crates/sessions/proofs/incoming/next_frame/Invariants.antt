use Rattle.std.proofs.Common.{◌≡◌, ◌++◌, List, ℕ}
use Rattle.sessions.specs.Streams.{Reads}
use Rattle.sessions.proofs.incoming.next_frame.Given as goal

abbrev pub invariant-loop : goal.invariant-loop
invariant-loop g l = record {
  read : List ℕ;
  next : Reads (g.S.Source.remaining l.initial.source) (g.S.Source.remaining l.source) read;
  kept : l.framer ≡ l.initial.framer ++ read;
  faults : g.S.Source.faults l.source ≡ g.S.Source.faults l.initial.source;
  reliable : g.S.Source.is_reliable l.source ≡ g.S.Source.is_reliable l.initial.source;
}
