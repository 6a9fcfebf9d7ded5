use Rattle.std.proofs.Common.{◌∙◌, subst, sym}
use Rattle.std.specs.BTreeMap.{is_at}
use Rattle.std.specs.Ordering.{nat_cmp}
use Rattle.switch_state.specs.InsideKnown.{Rise}
use Rattle.switch_state.proofs.Cookies.{behind, is_gone, none_gone, rise_left}
use Rattle.switch_state.proofs.outstanding.remove.Goals as goal

pub returns-in_ok-take-clause-removed : goal.returns-in_ok-take-clause-removed
returns-in_ok-take-clause-removed c rise =
    c.in_ok-take.ensures.left (behind c.args.cookie c.args.cookies.now rise)
    ∙ is_gone c.args.cookie c.args.cookies.now rise (c.if-has.ensures rise)

pub returns-in_ok-take-clause-rise : goal.returns-in_ok-take-clause-rise
returns-in_ok-take-clause-rise c rise =
    subst Rise
    (sym (c.in_ok-take.ensures.left (behind c.args.cookie c.args.cookies.now rise)
    ∙ is_gone c.args.cookie c.args.cookies.now rise (c.if-has.ensures rise)))
    (rise_left c.args.cookie (is_at (nat_cmp c.args.cookie)) c.args.cookies.now rise)

pub returns-else-has-clause-removed : goal.returns-else-has-clause-removed
returns-else-has-clause-removed c rise = none_gone c.args.cookie c.args.cookies.now (c.if-has.ensures rise)
