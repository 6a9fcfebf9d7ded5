use Rattle.composed_tables.proofs.After.{built-from}
use Rattle.composed_tables.proofs.composed.table_of.Goals as goal

pub returns-in-Ok : goal.returns-in-Ok
returns-in-Ok c =
    built-from c.args.setting.now c.args.n c.requires.good c.new-gone.result c.in_ok-come.come c.new-gone.ensures
    c.in_ok-come.ensures.from_scratch
    1 c.new-table.result c.change.new.self _ c.new-table.ensures c.in-Ok.ensures.turned
