use Rattle.incr_compile.proofs.Showings.{hidden-one}
use Rattle.incr_compile.proofs.showing.hide_one.Goals as goal

pub returns-clause-items : goal.returns-clause-items
returns-clause-items c = hidden-one c.args.id c.args.index.now.items c.remove.new.self.items c.len-count.ensures.once
    c.remove.ensures.items
