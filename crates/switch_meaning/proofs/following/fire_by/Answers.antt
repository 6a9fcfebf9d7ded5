use Rattle.switch_meaning.proofs.Followed.{used-in_range}
use Rattle.switch_meaning.proofs.following.fire_by.Goals as goal

pub fire-requires : goal.fire-requires
fire-requires c = used-in_range c.args.table.now c.args.header.now c.in-Some.entry.now c.requires
    c.in-Some.ensures.may_use
