use Rattle.std.proofs.Common.{◌≡◌, drop}
use Rattle.std.specs.Prelude.{fold}
use Rattle.machine_drafts.specs.Outcomes.{bases, draft_in}
use Rattle.machine_meaning.specs.Settling.{settle_one}
use Rattle.event_ends.proofs.settling.settle_all.Given as goal

-- those that are left, settled, give what all give
abbrev pub invariant-loop-waiting : goal.invariant-loop-waiting
invariant-loop-waiting l = record {
  drafted : fold (settle_one l.setup) (draft_in l.draft) (drop l.waiting-index l.done)
      ≡ fold (settle_one l.setup) (draft_in l.fn.draft) l.done;
  based : bases l.draft ≡ bases l.fn.draft;
}
