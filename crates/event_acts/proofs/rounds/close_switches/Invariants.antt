use Rattle.std.proofs.Common.{◌≡◌, drop}
use Rattle.std.specs.Prelude.{fold}
use Rattle.machine_drafts.specs.Outcomes.{bases, draft_in}
use Rattle.machine_meaning.specs.Rounds.{close_switch}
use Rattle.event_acts.proofs.rounds.close_switches.Given as goal

-- those that are left, closed, give what all give
abbrev pub invariant-loop-n : goal.invariant-loop-n
invariant-loop-n l = record {
  drafted : fold close_switch (draft_in l.draft) (drop l.n-index l.switches)
      ≡ fold close_switch (draft_in l.fn.draft) l.switches;
  based : bases l.draft ≡ bases l.fn.draft;
}
