use Rattle.std.proofs.Common.{sym}
use Rattle.member_state.proofs.LeafLists.{at_in_range}
use Rattle.member_state.proofs.leaf.leaf_at.Goals as goal

pub leaf_entry-requires-clause-in_range : goal.leaf_entry-requires-clause-in_range
leaf_entry-requires-clause-in_range c = at_in_range c.args.table.now.table c.args.place c.in-Some.entry.now
    c.len.ensures.sound (sym c.in-Some.ensures)
