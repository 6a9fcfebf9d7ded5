use Rattle.std.proofs.Common.{◌≡◌, ◌∙◌, false, List, ap, subst, sym, arith}
use Rattle.hop_rules.specs.Kept.{IsKept, rules_of, with_rules}
use Rattle.hop_rules.specs.Tables.{AreDeltas, AreOfPorts, IsHanded, TableOf}
use Rattle.hop_rules.specs.declared.delta.PortDelta.{PortDelta}
use Rattle.hop_rules.proofs.Through.{ports-count, same-table, through-deltas, through-ports, tolds-count}
use Rattle.hop_rules.proofs.table.HopTable.change.Goals as goal

pub change-requires-clause-there : goal.change-requires-clause-there
change-requires-clause-there g c =
    let t = c.args.self.now in
    let k = subst (λ (u : TableOf). IsKept u c.self.inside.parts) c.self.view_is
    (c.self.invariant (ap (λ (u : TableOf). u.lost) c.self.view_is ∙ c.requires.lost)) in
    let s = k.sizes in
    let r = c.requires.there in
    omega arith

pub change-requires-clause-kept : goal.change-requires-clause-kept
change-requires-clause-kept g c =
    let t = c.args.self.now in
    let k = subst (λ (u : TableOf). IsKept u c.self.inside.parts) c.self.view_is
    (c.self.invariant (ap (λ (u : TableOf). u.lost) c.self.view_is ∙ c.requires.lost)) in
    (t, k, c.requires.come)

pub port_deltas-requires-clause-nodes : goal.port_deltas-requires-clause-nodes
port_deltas-requires-clause-nodes g c =
    let t = c.args.self.now in
    let k = subst (λ (u : TableOf). IsKept u c.self.inside.parts) c.self.view_is
    (c.self.invariant (ap (λ (u : TableOf). u.lost) c.self.view_is ∙ c.requires.lost)) in
    let d = c.args.delta.now in
    let old = c.self.inside.parts in
    let new = c.change.new.self in
    let tolds = c.in_ok-tolds.tolds in
    let th = c.in_ok-tolds.ensures.through t k c.requires.come in
    ports-count (with_rules t new.given) new th.kept

pub port_deltas-requires-clause-tolds : goal.port_deltas-requires-clause-tolds
port_deltas-requires-clause-tolds g c =
    let t = c.args.self.now in
    let k = subst (λ (u : TableOf). IsKept u c.self.inside.parts) c.self.view_is
    (c.self.invariant (ap (λ (u : TableOf). u.lost) c.self.view_is ∙ c.requires.lost)) in
    let d = c.args.delta.now in
    let old = c.self.inside.parts in
    let new = c.change.new.self in
    let tolds = c.in_ok-tolds.tolds in
    let th = c.in_ok-tolds.ensures.through t k c.requires.come in
    tolds-count t old new k c.args.v d.gone d.come tolds th

pub returns-clause-handed : goal.returns-clause-handed
returns-clause-handed g c =
    let t = c.args.self.now in
    let k = subst (λ (u : TableOf). IsKept u c.self.inside.parts) c.self.view_is
    (c.self.invariant (ap (λ (u : TableOf). u.lost) c.self.view_is ∙ c.requires.lost)) in
    let d = c.args.delta.now in
    let old = c.self.inside.parts in
    let new = c.change.new.self in
    let tolds = c.in_ok-tolds.tolds in
    let th = c.in_ok-tolds.ensures.through t k c.requires.come in
    let final : TableOf = record {
      plan = c.self.inside.topology;
      sizes = c.self.inside.sizes;
      hops = c.self.inside.hops;
      whole = c.self.inside.whole;
      rules = rules_of new.given;
      lost = false;
    } in
    let same : final ≡ with_rules t new.given =
    same-table t final new.given (λ i. record (c.self.view_is i) { rules = rules_of new.given; lost = false })
    c.requires.lost in
    subst (λ (u : TableOf). IsHanded t u c.args.v d.gone d.come) (sym same) th.handed

pub returns-clause-ports : goal.returns-clause-ports
returns-clause-ports g c =
    let t = c.args.self.now in
    let k = subst (λ (u : TableOf). IsKept u c.self.inside.parts) c.self.view_is
    (c.self.invariant (ap (λ (u : TableOf). u.lost) c.self.view_is ∙ c.requires.lost)) in
    let d = c.args.delta.now in
    let old = c.self.inside.parts in
    let new = c.change.new.self in
    let tolds = c.in_ok-tolds.tolds in
    let th = c.in_ok-tolds.ensures.through t k c.requires.come in
    let final : TableOf = record {
      plan = c.self.inside.topology;
      sizes = c.self.inside.sizes;
      hops = c.self.inside.hops;
      whole = c.self.inside.whole;
      rules = rules_of new.given;
      lost = false;
    } in
    let same : final ≡ with_rules t new.given =
    same-table t final new.given (λ i. record (c.self.view_is i) { rules = rules_of new.given; lost = false })
    c.requires.lost in
    subst (λ (u : TableOf). AreDeltas t u c.in_ok-deltas.deltas) (sym same)
    (subst (λ (ds : List PortDelta). AreDeltas t (with_rules t new.given) ds) (sym c.in_ok-deltas.ensures)
    (through-deltas t old new k c.args.v d.gone d.come tolds th))

pub returns-clause-others : goal.returns-clause-others
returns-clause-others g c =
    let t = c.args.self.now in
    let k = subst (λ (u : TableOf). IsKept u c.self.inside.parts) c.self.view_is
    (c.self.invariant (ap (λ (u : TableOf). u.lost) c.self.view_is ∙ c.requires.lost)) in
    let d = c.args.delta.now in
    let old = c.self.inside.parts in
    let new = c.change.new.self in
    let tolds = c.in_ok-tolds.tolds in
    let th = c.in_ok-tolds.ensures.through t k c.requires.come in
    subst (AreOfPorts t) (sym c.in_ok-deltas.ensures) (through-ports t old new k c.args.v d.gone d.come tolds th)

pub returns-clause-steps : goal.returns-clause-steps
returns-clause-steps g c after handed apart =
    let t = c.args.self.now in
    let k = subst (λ (u : TableOf). IsKept u c.self.inside.parts) c.self.view_is
    (c.self.invariant (ap (λ (u : TableOf). u.lost) c.self.view_is ∙ c.requires.lost)) in
    c.change.ensures.steps t k c.requires.come after handed apart

pub returns-in_err-tolds-clause-steps : goal.returns-in_err-tolds-clause-steps
returns-in_err-tolds-clause-steps g c after handed apart =
    let t = c.args.self.now in
    let k = subst (λ (u : TableOf). IsKept u c.self.inside.parts) c.self.view_is
    (c.self.invariant (ap (λ (u : TableOf). u.lost) c.self.view_is ∙ c.requires.lost)) in
    c.change.ensures.steps t k c.requires.come after handed apart

pub returns-in_err-deltas-clause-steps : goal.returns-in_err-deltas-clause-steps
returns-in_err-deltas-clause-steps g c after handed apart =
    let t = c.args.self.now in
    let k = subst (λ (u : TableOf). IsKept u c.self.inside.parts) c.self.view_is
    (c.self.invariant (ap (λ (u : TableOf). u.lost) c.self.view_is ∙ c.requires.lost)) in
    c.change.ensures.steps t k c.requires.come after handed apart
