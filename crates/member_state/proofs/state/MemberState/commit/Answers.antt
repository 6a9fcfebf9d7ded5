use Rattle.std.proofs.Common.{sym, subst}
use Rattle.member_state.specs.Plans.{IsReady}
use Rattle.member_state.specs.States.{HeldState, IsKept, held_by}
use Rattle.member_state.proofs.Plans.{kept_made}
use Rattle.member_state.proofs.state.MemberState.commit.Goals as goal

pub invariant_of-self : goal.invariant_of-self
invariant_of-self c =
    let h : HeldState = held_by c.self.inside.table c.self.inside.levels in
    subst IsKept (sym c.make.ensures)
    (kept_made h c.args.planned c.args.now
    (subst (λ (x : HeldState). IsReady x c.args.planned) (sym c.self.view_is) c.requires))
