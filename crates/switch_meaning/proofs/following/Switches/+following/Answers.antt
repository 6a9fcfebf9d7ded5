use Rattle.std.proofs.Common.{◌-◌, ◌∷◌, arith}
use Rattle.switch_meaning.specs.Choosing.{chosen}
use Rattle.switch_meaning.specs.Following.{follow}
use Rattle.switch_meaning.proofs.Followed.{gone_all, gone_more, taken_up}
use Rattle.switch_meaning.proofs.following.Switches.+following.Goals as goal

pub take_up-loop-out-preserved : goal.take_up-loop-out-preserved
take_up-loop-out-preserved t c = λ way.
    gone_more c.args.self.now.wiring
    (follow c.args.self.now.wiring (chosen c.args.self.now.tables c.args.self.now.reading) (c.args.turns - 1)) way
    c.args.switch
    c.as_slice-out-items.result.now c.loop-out.out-index c.out-item.result c.loop-out.seen c.go.new.seen _
    c.loop-out-test.true c.out-item.is
    (c.in_ok-go.ensures (c.loop-out.out-index ∷ way)) (c.loop-out.invariant way)

pub take_up-returns : goal.take_up-returns
take_up-returns t c = λ way.
    let w = c.args.self.now.wiring in
    let choice = chosen c.args.self.now.tables c.args.self.now.reading in
    taken_up w choice c.args.turns way c.args.switch c.args.header.now c.args.seen.now c.copy_all.new.seen
    c.loop-out.seen c.in_ok-fired.fired c.as_slice-out-items.result.now
    c.as_slice-out-items.ensures c.if-turns-eq0.false c.in_ok-fired.ensures c.in_ok-copy_all.ensures
    (gone_all w (follow w choice (c.args.turns - 1)) way c.args.switch c.as_slice-out-items.result.now
    c.loop-out.out-index c.loop-out.seen _ (omega arith) (c.loop-out.invariant way))
