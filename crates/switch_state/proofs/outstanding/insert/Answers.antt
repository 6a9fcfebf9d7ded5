use Rattle.switch_state.proofs.Cookies.{behind, is_put, is_there, on_ok_then, rise_after}
use Rattle.switch_state.proofs.outstanding.insert.Goals as goal

pub returns-then-has-clause-inserted : goal.returns-then-has-clause-inserted
returns-then-has-clause-inserted c rise =
    is_there c.args.cookie c.args.cookies.now rise (c.if-has.ensures rise)

pub returns-clause-inserted : goal.returns-clause-inserted
returns-clause-inserted c rise =
    on_ok_then c.put.new.self _ _ c.put.result (c.put.ensures.put (behind c.args.cookie c.args.cookies.now rise))
    (is_put c.args.cookie c.args.cookies.now (c.if-has.ensures rise))

pub returns-clause-rise : goal.returns-clause-rise
returns-clause-rise c rise =
    rise_after c.args.cookie c.args.cookies.now c.put.new.self c.put.result
    (on_ok_then c.put.new.self _ _ c.put.result (c.put.ensures.put (behind c.args.cookie c.args.cookies.now rise))
    (is_put c.args.cookie c.args.cookies.now (c.if-has.ensures rise))) c.put.ensures.memory rise
