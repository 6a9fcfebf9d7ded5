use Rattle.std.proofs.Common.{◌≡◌, List, Option, Some, None, length, refl, ap, sym, subst, ◌∙◌, arith}
use Rattle.std.specs.Prelude.{is_some}
use Rattle.switch_meaning.proofs.Items.{some_injective}
use Rattle.switch_tables.specs.Tables.{SwitchTableOf}
use Rattle.switch_tables.specs.Turning.{AreBatches, StandAsBefore}
use Rattle.switch_tables.proofs.Outcomes.{on-err}
use Rattle.composed_tables.specs.Composing.{ComposedOf, IsOf}
use Rattle.composed_tables.specs.Rules.{RulesOf}
use Rattle.composed_tables.proofs.After.{batches-moved, kept-stands, of-kept, of-moved, was-moved}
use Rattle.composed_tables.proofs.composed.Composed.apply.Goals as goal

pub turn_some-requires-clause-can : goal.turn_some-requires-clause-can
turn_some-requires-clause-can g c r e = c.requires.can r (sym (ap (λ (z : ComposedOf). z.rules) c.self.view_is) ∙ e)

pub turn_some-requires-clause-ups : goal.turn_some-requires-clause-ups
turn_some-requires-clause-ups g c = c.requires.ups ∙ sym (ap (λ (z : ComposedOf). length z.tables) c.self.view_is)

pub invariant_of-self : goal.invariant_of-self
invariant_of-self g c =
    let few = c.self.invariant.1 in
    let long = c.in_err-batches.ensures.long in
    (c.in_err-batches.ensures.tied, (few.0, omega (arith, long, few.1)))

pub invariant_of-self-2 : goal.invariant_of-self-2
invariant_of-self-2 g c =
    let few = c.self.invariant.1 in
    let long = c.in_ok-batches.ensures.long in
    (c.in_ok-batches.ensures.tied, (few.0, omega (arith, long, few.1)))

pub returns-in_err-batches-clause-memory : goal.returns-in_err-batches-clause-memory
returns-in_err-batches-clause-memory g c before of =
    let i = c.self.inside in
    let old : ComposedOf = record { wiring = i.wiring; switches = i.switches; rules = i.rules; tables = i.tables } in
    let new : ComposedOf = record {
      wiring = i.wiring;
      switches = i.switches;
      rules = c.turn_some.new.rules;
      tables = c.turn_some.new.tables;
    } in
    on-err c.from_residual.result _
    (of-kept before old new (subst (IsOf before) (sym c.self.view_is) of) refl refl c.in_err-batches.ensures.none
    c.in_err-batches.ensures.long c.in_err-batches.ensures.memory)

pub returns-in_err-batches-clause-memory_standing : goal.returns-in_err-batches-clause-memory_standing
returns-in_err-batches-clause-memory_standing g c =
    let i = c.self.inside in
    on-err c.from_residual.result _
    (subst (λ (z : List SwitchTableOf). StandAsBefore z c.turn_some.new.tables)
    (ap (λ (z : ComposedOf). z.tables) c.self.view_is)
    (kept-stands i.tables c.turn_some.new.tables c.in_err-batches.ensures.memory))

pub returns-clause-of : goal.returns-clause-of
returns-clause-of g c before after good good' of ch =
    let i = c.self.inside in
    let old : ComposedOf = record { wiring = i.wiring; switches = i.switches; rules = i.rules; tables = i.tables } in
    let new : ComposedOf = record {
      wiring = i.wiring;
      switches = i.switches;
      rules = c.turn_some.new.rules;
      tables = c.turn_some.new.tables;
    } in
    of-moved c.args.v c.args.delta c.args.next old new c.in_ok-batches.batches refl refl c.in_ok-batches.ensures.long
    c.in_ok-batches.ensures.moved
    before after good good' (subst (IsOf before) (sym c.self.view_is) of) ch

pub returns-clause-was : goal.returns-clause-was
returns-clause-was g c before of =
    let i = c.self.inside in
    let old : ComposedOf = record { wiring = i.wiring; switches = i.switches; rules = i.rules; tables = i.tables } in
    let new : ComposedOf = record {
      wiring = i.wiring;
      switches = i.switches;
      rules = c.turn_some.new.rules;
      tables = c.turn_some.new.tables;
    } in
    was-moved c.args.v c.args.delta c.args.next old new c.in_ok-batches.batches refl refl c.in_ok-batches.ensures.long
    c.in_ok-batches.ensures.moved
    before (subst (IsOf before) (sym c.self.view_is) of)

pub returns-clause-compiled : goal.returns-clause-compiled
returns-clause-compiled g c = ap (λ (o : Option RulesOf). is_some o) c.in_ok-batches.ensures.moved.is

pub returns-clause-batches : goal.returns-clause-batches
returns-clause-batches g c =
    let i = c.self.inside in
    let old : ComposedOf = record { wiring = i.wiring; switches = i.switches; rules = i.rules; tables = i.tables } in
    let new : ComposedOf = record {
      wiring = i.wiring;
      switches = i.switches;
      rules = c.turn_some.new.rules;
      tables = c.turn_some.new.tables;
    } in
    subst (λ (z : List SwitchTableOf). AreBatches c.args.next z c.turn_some.new.tables c.in_ok-batches.batches)
    (ap (λ (z : ComposedOf). z.tables) c.self.view_is)
    (batches-moved c.args.v c.args.delta c.args.next old new c.in_ok-batches.batches refl refl
    c.in_ok-batches.ensures.long c.in_ok-batches.ensures.moved)

pub returns-in_err-batches-clause-plan : goal.returns-in_err-batches-clause-plan
returns-in_err-batches-clause-plan g c r s was is = let none : None ≡ Some s = sym c.in_err-batches.ensures.none
    ∙ is in cc

pub returns-clause-plan : goal.returns-clause-plan
returns-clause-plan g c r s was is =
    let m = c.in_ok-batches.ensures.moved in
    let from : m.from ≡ r = some_injective (sym m.was ∙ (ap (λ (z : ComposedOf). z.rules) c.self.view_is ∙ was)) in
    let to : m.to ≡ s = some_injective (sym m.is ∙ is) in
    ap (λ (z : RulesOf). z.hops.plan) (sym to) ∙ (m.moved.plan ∙ ap (λ (z : RulesOf). z.hops.plan) from)

pub returns-in_err-batches-clause-steps : goal.returns-in_err-batches-clause-steps
returns-in_err-batches-clause-steps g c r was before after of ch =
    let rules = ap (λ (z : ComposedOf). z.rules) c.self.view_is ∙ was in
    c.turn_some.ensures.steps r rules before after (of.rules r was) ch

pub returns-clause-steps : goal.returns-clause-steps
returns-clause-steps g c r was before after of ch =
    let rules = ap (λ (z : ComposedOf). z.rules) c.self.view_is ∙ was in
    c.turn_some.ensures.steps r rules before after (of.rules r was) ch
