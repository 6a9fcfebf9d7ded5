use Rattle.std.proofs.Common.{ap, sym, ◌∙◌, Some, None}
use Rattle.std.specs.Option.{option_copied}
use Rattle.rule_ancestry.proofs.Slots.{got}
use Rattle.rule_ancestry.proofs.store.Store.get.Goals as goal

pub returns-in-Some : goal.returns-in-Some
returns-in-Some g c = got c.args.self.now c.self.inside.slab.slots c.self.view_is c.args.id (Some c.kept.inside.item)
    (ap Some c.kept.view_is ∙ sym (ap option_copied c.in-Some.is) ∙ c.get.ensures)

pub returns-in-None : goal.returns-in-None
returns-in-None g c = got c.args.self.now c.self.inside.slab.slots c.self.view_is c.args.id None
    (sym (ap option_copied c.in-None.is) ∙ c.get.ensures)
