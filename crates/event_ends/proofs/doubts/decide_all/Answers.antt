use Rattle.std.proofs.Common.{◌∙◌, sym, ap, arith}
use Rattle.std.specs.Prelude.{fold}
use Rattle.std.proofs.lemmas.List.{drop_all}
use Rattle.event_ends.proofs.Deciding.{each_decided}
use Rattle.event_ends.specs.InsideSettling.{decided_in}
use Rattle.machine_drafts.specs.Outcomes.{draft_in}
use Rattle.event_ends.proofs.doubts.decide_all.Goals as goal

pub returns-clause-drafted : goal.returns-clause-drafted
returns-clause-drafted c =
    ap (fold decided_in (draft_in c.loop-doubt.draft))
    (sym (drop_all c.loop-doubt.doubt-index c.args.doubts.now (omega arith)))
    ∙ (c.loop-doubt.invariant.drafted ∙ each_decided (draft_in c.args.draft.now) c.args.doubts.now)
