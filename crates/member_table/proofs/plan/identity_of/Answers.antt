use Rattle.std.proofs.Common.{◌≡◌, ◌∙◌}
use Rattle.member_table.specs.Tables.{rank_of}
use Rattle.member_table.proofs.Exact.{rank_is}
use Rattle.member_table.proofs.plan.identity_of.Goals as goal

pub returns-clause-identity : goal.returns-clause-identity
returns-clause-identity c =
    let rank : c.rank.result ≡ rank_of c.args.m.now = c.rank.ensures.value
    ∙ rank_is c.read-read.result.exact c.args.m.now c.read-read.ensures.exact in
    λ i. record { rank = rank i; normal = c.read-read.ensures.value i }
