use Rattle.std.proofs.Common.{ap}
use Rattle.std.specs.Option.{is_some}
use Rattle.made_rules.proofs.Widening.{narrow-fewer, narrowed, wide-there}
use Rattle.made_rules.proofs.stay.narrow_one.Goals as goal

pub shed-requires-clause-there : goal.shed-requires-clause-there
shed-requires-clause-there c =
    ap is_some (wide-there c.args.store.now c.requires.0 c.args.stay c.len-count.ensures.rising c.requires.1)

pub shed-requires-clause-fewer : goal.shed-requires-clause-fewer
shed-requires-clause-fewer c =
    narrow-fewer _ c.args.back c.args.stay _ c.made_on.result c.made_on.ensures
    (wide-there c.args.store.now c.requires.0 c.args.stay c.len-count.ensures.rising c.requires.1)

pub returns : goal.returns
returns c rest p = narrowed c.args.store.now rest c.args.stay c.len-count.ensures.rising p c.args.back c.shed.new.self
    c.made_on.result c.made_on.ensures c.shed.ensures.renamed
