use Rattle.std.proofs.Common.{◌∙◌, sym}
use Rattle.member_table.proofs.SameEntry.{entry_decides}
use Rattle.member_table.proofs.entry.same_entry.Goals as goal

pub returns : goal.returns
returns c = let d = entry_decides c.args.first.now c.args.second.now in
    (λ t. d.0 (sym c.eq.ensures ∙ t), λ e. c.eq.ensures ∙ d.1 e)
