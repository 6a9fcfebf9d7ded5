use Rattle.std.proofs.Common.{◌∙◌}
use Rattle.member_table.proofs.Exact.{rank_is}
use Rattle.member_table.proofs.rank.rank_of.Goals as goal

pub returns-clause-rank : goal.returns-clause-rank
returns-clause-rank c = c.rank.ensures.value ∙ rank_is c.read.result.exact c.args.m.now c.read.ensures.exact
