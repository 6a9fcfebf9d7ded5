use Rattle.std.proofs.Common.{◌∙◌, sym}
use Rattle.member_state.proofs.Unused.{unused_one, used_one}
use Rattle.member_state.proofs.commit.drop_unused.Goals as goal

pub returns-then-not-has_rank : goal.returns-then-not-has_rank
returns-then-not-has_rank c =
    c.drop_rank.ensures.dropped ∙ unused_one c.args.table.now.table.entries c.args.rank c.args.levels.now c.requires
    (sym c.has_rank.ensures ∙ c.if-not-has_rank.true)

pub returns-else-not-has_rank : goal.returns-else-not-has_rank
returns-else-not-has_rank c = used_one c.args.table.now.table.entries c.args.rank c.args.levels.now
    (sym c.has_rank.ensures ∙ c.if-not-has_rank.false)
