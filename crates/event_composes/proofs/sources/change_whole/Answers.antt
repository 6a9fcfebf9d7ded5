use Rattle.event_composes.proofs.Wanted.{whole_change}
use Rattle.event_composes.proofs.sources.change_whole.Goals as goal

pub returns : goal.returns
returns c t good of =
    whole_change t c.args.composed.now c.args.n good of c.requires c.in_ok-wanted.wanted
    (c.in_ok-wanted.ensures t good of) c.args.next c.args.standing.now c.change_between-change.result
    c.change_between-change.ensures.batch c.change_between-change.ensures.standing c.change_between-change.ensures.next
