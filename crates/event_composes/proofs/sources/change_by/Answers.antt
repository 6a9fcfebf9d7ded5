use Rattle.std.proofs.Common.{◌∙◌, sym}
use Rattle.event_composes.proofs.ToldChanges.{nothing_told}
use Rattle.event_composes.proofs.Wanted.{nothing_in}
use Rattle.event_composes.proofs.sources.change_by.Goals as goal

pub returns-then-is_empty-2 : goal.returns-then-is_empty-2
returns-then-is_empty-2 c wanted h =
    nothing_told c.args.standing.now wanted c.args.told.now
    (nothing_in c.args.told.now.deletes (sym c.is_empty.ensures ∙ c.if-is_empty.true))
    (nothing_in c.args.told.now.adds (sym c.is_empty-then-is_empty.ensures ∙ c.if-is_empty-2.true)) h
