use Rattle.std.proofs.Common.{◌≡◌, drop}
use Rattle.std.specs.Prelude.{fold}
use Rattle.event_ends.specs.InsideSettling.{decided_in}
use Rattle.machine_drafts.specs.Outcomes.{bases, draft_in}
use Rattle.event_ends.proofs.doubts.decide_all.Given as goal

-- those that are left, decided, give what all give
abbrev pub invariant-loop-doubt : goal.invariant-loop-doubt
invariant-loop-doubt l = record {
  drafted : fold decided_in (draft_in l.draft) (drop l.doubt-index l.doubts)
      ≡ fold decided_in (draft_in l.fn.draft) l.doubts;
  based : bases l.draft ≡ bases l.fn.draft;
}
