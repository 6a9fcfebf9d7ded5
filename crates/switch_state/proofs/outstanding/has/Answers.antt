use Rattle.switch_state.proofs.Cookies.{behind, has_none, has_some}
use Rattle.switch_state.proofs.outstanding.has.Goals as goal

pub returns-in-Some : goal.returns-in-Some
returns-in-Some c rise =
    has_some c.args.cookie c.args.cookies.now rise c.in-Some.found.now
    (c.in-Some.ensures (behind c.args.cookie c.args.cookies.now rise))

pub returns-in-None : goal.returns-in-None
returns-in-None c rise =
    has_none c.args.cookie c.args.cookies.now (c.in-None.ensures (behind c.args.cookie c.args.cookies.now rise))
