use Rattle.std.proofs.lemmas.Option.{slice_get_within}
use Rattle.switch_tables.proofs.tables.undo_all.Goals as goal

pub returns-clause-undone : goal.returns-clause-undone
returns-clause-undone c n x y p q = c.undo_first.ensures.undone n (slice_get_within c.args.tables.now n x p) x y p q
