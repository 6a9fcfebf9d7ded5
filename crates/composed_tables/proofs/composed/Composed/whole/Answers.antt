use Rattle.std.proofs.Common.{◌<◌, List, length, refl, ap, sym, subst, ◌∙◌, arith}
use Rattle.switch_tables.specs.Tables.{SwitchTableOf}
use Rattle.switch_tables.proofs.Outcomes.{on-err}
use Rattle.composed_tables.specs.Composing.{ComposedOf, IsOf, WasOf}
use Rattle.composed_tables.proofs.Kept.{within}
use Rattle.composed_tables.proofs.Standing.{standing-of, whole-of, whole-was}
use Rattle.composed_tables.proofs.composed.Composed.whole.Goals as goal

pub whole_nth-requires : goal.whole_nth-requires
whole_nth-requires c = subst (λ (z : ComposedOf). c.args.n < length z.tables) (sym c.self.view_is) c.requires

pub invariant_of-self : goal.invariant_of-self
invariant_of-self c =
    let few = c.self.invariant.1 in
    let long = ap (λ (z : List SwitchTableOf). length z) c.in_err-batch.ensures.memory in
    (c.self.invariant.0, (few.0, omega (arith, long, few.1)))

pub invariant_of-self-2 : goal.invariant_of-self-2
invariant_of-self-2 c =
    let few = c.self.invariant.1 in
    let long = c.in_ok-batch.ensures.whole.long in
    (c.self.invariant.0, (few.0, omega (arith, long, few.1)))

pub returns-in_err-batch-clause-of : goal.returns-in_err-batch-clause-of
returns-in_err-batch-clause-of c s of =
    let i = c.self.inside in
    subst
    (λ (z : List SwitchTableOf). IsOf s
    (record { wiring = i.wiring; switches = i.switches; rules = i.rules; tables = z }))
    (sym c.in_err-batch.ensures.memory)
    (subst (IsOf s) (sym c.self.view_is) of)

pub returns-in_err-batch-clause-was : goal.returns-in_err-batch-clause-was
returns-in_err-batch-clause-was c s was =
    let i = c.self.inside in
    subst
    (λ (z : List SwitchTableOf). WasOf s
    (record { wiring = i.wiring; switches = i.switches; rules = i.rules; tables = z }))
    (sym c.in_err-batch.ensures.memory)
    (subst (WasOf s) (sym c.self.view_is) was)

pub returns-in_err-batch-clause-memory : goal.returns-in_err-batch-clause-memory
returns-in_err-batch-clause-memory c =
    let i = c.self.inside in
    on-err c.from_residual.result _
    (ap (λ (z : List SwitchTableOf). record { wiring = i.wiring; switches = i.switches; rules = i.rules; tables = z })
    c.in_err-batch.ensures.memory ∙ c.self.view_is)

pub returns-clause-of : goal.returns-clause-of
returns-clause-of c s of =
    let i = c.self.inside in
    let old : ComposedOf = record { wiring = i.wiring; switches = i.switches; rules = i.rules; tables = i.tables } in
    let new : ComposedOf = record {
      wiring = i.wiring;
      switches = i.switches;
      rules = i.rules;
      tables = c.whole_nth.new.tables;
    } in
    whole-of s old new c.args.n c.in_ok-batch.batch c.in_ok-batch.ensures.whole refl refl refl
    (subst (IsOf s) (sym c.self.view_is) of)

pub returns-clause-was : goal.returns-clause-was
returns-clause-was c s was =
    let i = c.self.inside in
    let old : ComposedOf = record { wiring = i.wiring; switches = i.switches; rules = i.rules; tables = i.tables } in
    let new : ComposedOf = record {
      wiring = i.wiring;
      switches = i.switches;
      rules = i.rules;
      tables = c.whole_nth.new.tables;
    } in
    whole-was s old new c.args.n c.in_ok-batch.batch c.in_ok-batch.ensures.whole refl refl
    (subst (WasOf s) (sym c.self.view_is) was)

pub returns-clause-deletes : goal.returns-clause-deletes
returns-clause-deletes c = c.in_ok-batch.ensures.whole.deletes

pub returns-clause-standing : goal.returns-clause-standing
returns-clause-standing c s good of =
    let i = c.self.inside in
    let old : ComposedOf = record { wiring = i.wiring; switches = i.switches; rules = i.rules; tables = i.tables } in
    let new : ComposedOf = record {
      wiring = i.wiring;
      switches = i.switches;
      rules = i.rules;
      tables = c.whole_nth.new.tables;
    } in
    let h = c.in_ok-batch.ensures.whole in
    let few : c.args.n < length i.tables =
    subst (λ (z : ComposedOf). c.args.n < length z.tables) (sym c.self.view_is) c.requires in
    let long = h.long in
    let x = within c.whole_nth.new.tables c.args.n (omega (arith, few, long)) in
    standing-of s new c.args.n x.item c.in_ok-batch.batch.adds good
    (whole-of s old new c.args.n c.in_ok-batch.batch h refl refl refl (subst (IsOf s) (sym c.self.view_is) of))
    x.is (h.table x.item x.is) (h.standing x.item x.is)
