use Rattle.std.proofs.Common.{◌≡◌, take}
use Rattle.std.specs.Prelude.{filter}
use Rattle.rule_ancestry.specs.Holding.{is_outside}
use Rattle.rule_ancestry.proofs.store.Store.remove_all.Given as goal

abbrev pub invariant-loop-id : goal.invariant-loop-id
invariant-loop-id g l = l.self ≡ filter (is_outside (take l.id-index l.ids)) l.fn.self
