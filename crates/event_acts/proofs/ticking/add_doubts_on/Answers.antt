use Rattle.std.proofs.Common.{sym}
use Rattle.event_acts.proofs.Doubting.{mapped_none, no_doubts_there}
use Rattle.machine_drafts.specs.MemberDrafts.{MemberDraftOf}
use Rattle.machine_drafts.specs.Outcomes.{state_in}
use Rattle.event_acts.proofs.ticking.add_doubts_on.Goals as goal

pub returns-in-None : goal.returns-in-None
returns-in-None c =
    no_doubts_there (state_in c.args.draft.now) c.args.n c.args.doubts.now
    (mapped_none (λ (m : MemberDraftOf). m.now) c.args.draft.now.members c.args.n (sym c.in-None.ensures.value))
