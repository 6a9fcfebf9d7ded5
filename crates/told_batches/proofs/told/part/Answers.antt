use Rattle.told_batches.proofs.Taken.{left_rise, taken_first, taken_last, taken_more}
use Rattle.told_batches.proofs.told.part.Goals as goal

pub loop-one-init : goal.loop-one-init
loop-one-init c rise listed =
    taken_first c.args.standing.now c.args.gone.now rise listed c.new-going.result c.in_ok-staying.staying
    c.new-going.ensures c.in_ok-staying.ensures

pub loop-one-preserved : goal.loop-one-preserved
loop-one-preserved c rise listed =
    let stood = c.args.standing.now in
    let gone = c.args.gone.now in
    let now = c.loop-one in
    let before = now.invariant rise listed in
    let rises =
    left_rise stood gone rise listed now.one-index c.one-item.result c.loop-one-test.true c.one-item.is now.going
    now.staying before in
    taken_more stood gone rise listed now.one-index c.one-item.result c.loop-one-test.true c.one-item.is now.going
    now.staying c.in_ok-rows.field-0.rows c.push_some.new.self c.in_ok-rows.field-0.row rises
    (c.in_ok-rows.ensures.rows rises) (c.in_ok-rows.ensures.row rises) c.in_ok-push_some.ensures.pushed before

pub returns-clause-going : goal.returns-clause-going
returns-clause-going c rise listed =
    let last = c.loop-one in
    (taken_last c.args.standing.now c.args.gone.now rise listed last.one-index last.going last.staying
    c.loop-one-test.false (last.invariant rise listed)).0

pub returns-clause-staying : goal.returns-clause-staying
returns-clause-staying c rise listed =
    let last = c.loop-one in
    (taken_last c.args.standing.now c.args.gone.now rise listed last.one-index last.going last.staying
    c.loop-one-test.false (last.invariant rise listed)).1
