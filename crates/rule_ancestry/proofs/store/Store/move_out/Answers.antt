use Rattle.std.specs.Prelude.{map}
use Rattle.std.proofs.lemmas.List.Sorted.{IsPermutation-append_right}
use Rattle.rule_ancestry.specs.Holding.{item_of}
use Rattle.rule_ancestry.proofs.Lists.{moved-some}
use Rattle.rule_ancestry.proofs.store.Store.move_out.Goals as goal

pub returns-in-Some-clause-moved : goal.returns-in-Some-clause-moved
returns-in-Some-clause-moved g c = moved-some c.args.gone.now.items c.push_reserved.new.self.items
    (map item_of c.args.self.now) (map item_of c.remove.new.self) c.in-Some.item c.in-Some.ensures.moved
    c.push_reserved.ensures.items

pub returns-in_default-clause-moved : goal.returns-in_default-clause-moved
returns-in_default-clause-moved g c = IsPermutation-append_right c.args.gone.now.items (map item_of c.args.self.now)
    (map item_of c.remove.new.self) c.in_default.ensures.moved
