use Rattle.match_index.proofs.Tops.{least_top}
use Rattle.match_index.proofs.index.Index.first_in_way.Goals as goal

pub returns-in-Some : goal.returns-in-Some
returns-in-Some c = least_top c.args.rank c.args.m.now c.args.self.now.items c.in-Some.item c.in-Some.ensures
