use Rattle.std.proofs.Common.{◌∙◌, ◌&&◌, ap, ap₂, None}
use Rattle.member_table.specs.Tables.{is_meant, outputs_to}
use Rattle.member_table.specs.Timeouts.{serials_of}
use Rattle.member_table.proofs.table.Table.plan_removal.Goals as goal

pub returns-clause-change : goal.returns-clause-change
returns-clause-change c =
    let t = c.args.self.now.table in
    let numbers = c.from_vec.ensures
    ∙ (c.in_ok-removed.ensures
    ∙ ap (λ k. serials_of (λ e. is_meant c.args.strict k e && outputs_to c.args.m.now.out_port e) t.entries)
    c.requires) in
    ap₂ (λ rs ms. record { added = None; removed = rs; modified = ms }) numbers c.new.ensures
