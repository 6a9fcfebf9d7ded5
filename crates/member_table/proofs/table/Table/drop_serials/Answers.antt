use Rattle.std.proofs.Common.{◌∙◌, List, ap}
use Rattle.member_table.specs.declared.entry.Entry.{Entry}
use Rattle.member_table.proofs.Changing.{all_go}
use Rattle.member_table.proofs.table.Table.drop_serials.Goals as goal

pub returns-clause-table : goal.returns-clause-table
returns-clause-table c =
    let t = c.args.self.now.table in
    c.remove_all.ensures.table
    ∙ ap (λ (es : List Entry). record t { entries = es }) (all_go c.args.serials t.entries)
