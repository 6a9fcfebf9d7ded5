use Rattle.machine_drafts.proofs.member_draft.MemberDraft.touch.Goals as goal

pub invariant_of-self-2 : goal.invariant_of-self-2
invariant_of-self-2 c =
    let kept = c.self.inside.base.now.kept in (
      c.touch.ensures.ready kept c.in_ok-planned.ensures.ready,
      c.touch.ensures.plan kept.state c.in_ok-planned.ensures.plan,
    )
