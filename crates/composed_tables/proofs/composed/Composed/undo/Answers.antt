use Rattle.std.specs.Prelude.{IfSome}
use Rattle.std.proofs.Common.{Option, refl, sym, subst, arith}
use Rattle.composed_tables.specs.Composing.{ComposedOf, WasOf}
use Rattle.composed_tables.specs.Rules.{AreTied, RulesOf}
use Rattle.composed_tables.proofs.After.{undone-of}
use Rattle.composed_tables.proofs.composed.Composed.undo.Goals as goal

pub invariant_of-self : goal.invariant_of-self
invariant_of-self c =
    let few = c.self.invariant.1 in
    let long = c.undo_tables.ensures.long in
    (subst (λ (z : Option RulesOf). IfSome z AreTied) (sym c.give_up.ensures) tt, (few.0, omega (arith, long, few.1)))

pub returns-clause-of : goal.returns-clause-of
returns-clause-of c s was =
    let i = c.self.inside in
    let old : ComposedOf = record { wiring = i.wiring; switches = i.switches; rules = i.rules; tables = i.tables } in
    undone-of s old
    (record {
      wiring = i.wiring;
      switches = i.switches;
      rules = c.give_up.new.rules;
      tables = c.undo_tables.new.tables;
    })
    (subst (WasOf s) (sym c.self.view_is) was) c.undo_tables.ensures.long c.undo_tables.ensures.undone refl refl
    c.give_up.ensures
