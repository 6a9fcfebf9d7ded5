use Rattle.std.proofs.Common.{sym}
use Rattle.install_plan.proofs.Finding.{goes, indexed-less, others-stay}
use Rattle.install_plan.proofs.finder.Finder.remove.Goals as goal

pub invariant_of-self : goal.invariant_of-self
invariant_of-self c =
    indexed-less c.self.inside.numbers.entries c.take.new.numbers.entries c.self.inside.index.items c.self.inside.next
    c.args.key.now c.self.invariant c.take.ensures.others
    c.remove.new.self.items c.in-Some.number (sym c.in-Some.ensures.value) c.len.ensures.once c.remove.ensures.items

pub returns-in-Some : goal.returns-in-Some
returns-in-Some c = record {
  gone = goes c.self.inside.numbers.entries c.take.new.numbers.entries c.args.key.now c.take.ensures.others;
  others = others-stay c.self.inside.numbers.entries c.args.self.now c.take.new.numbers.entries c.args.key.now
      c.self.view_is c.take.ensures.others;
}

pub returns-in_default : goal.returns-in_default
returns-in_default c = record {
  gone = goes c.self.inside.numbers.entries c.take.new.numbers.entries c.args.key.now c.take.ensures.others;
  others = others-stay c.self.inside.numbers.entries c.args.self.now c.take.new.numbers.entries c.args.key.now
      c.self.view_is c.take.ensures.others;
}
