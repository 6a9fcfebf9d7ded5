use Rattle.std.proofs.Common.{ℕ, ◌+◌, ◌≤◌, Bool, false, List, length, refl, ap, sym, subst, ◌∙◌, arith}
use Rattle.std.specs.Prelude.{slice_index_or}
use Rattle.hop_rules.specs.Tables.{TableOf}
use Rattle.composed_tables.specs.Composing.{AreExact, rules_in}
use Rattle.composed_tables.specs.Rules.{AreRulesOf, AreTied, CanTake, RulesOf}
use Rattle.composed_tables.proofs.Applied.{exact-parted, exact-whole, gone-there, rules-after, same-rest, tied-parted}
use Rattle.composed_tables.proofs.Applied.{tied-whole}
use Rattle.composed_tables.specs.Steps.{setting_steps}
use Rattle.composed_tables.proofs.Spending.{all-spent, tree-spent, tree-within}
use Rattle.composed_tables.proofs.rules.Rules.apply.Goals as goal

pub change_tree-requires : goal.change_tree-requires
change_tree-requires g c = subst (λ (z : RulesOf). CanTake z c.args.v c.args.delta) (sym c.self.view_is) c.requires.can

pub returns-then-whole_at-clause-tied : goal.returns-then-whole_at-clause-tied
returns-then-whole_at-clause-tied g c =
    let i = c.self.inside in
    let r : RulesOf = record { trees = i.trees; sizes = i.sizes; whole = i.whole; hops = i.hops } in
    let r' : RulesOf = record { trees = c.change_tree.new.trees; sizes = i.sizes; whole = i.whole; hops = i.hops } in
    let tied : AreTied r = subst AreTied (sym c.self.view_is) c.requires.tied in
    let whole = ap (λ (z : List Bool). slice_index_or z c.args.v false) tied.wholes
    ∙ (sym c.whole_at.ensures ∙ c.if-whole_at.true) in
    tied-whole c.args.v c.args.delta r r' c.in_ok-told.told tied c.in_ok-told.ensures.changed refl refl whole refl

pub returns-then-whole_at-clause-rules : goal.returns-then-whole_at-clause-rules
returns-then-whole_at-clause-rules g c before after of ch =
    let i = c.self.inside in
    let r : RulesOf = record { trees = i.trees; sizes = i.sizes; whole = i.whole; hops = i.hops } in
    let r' : RulesOf = record { trees = c.change_tree.new.trees; sizes = i.sizes; whole = i.whole; hops = i.hops } in
    rules-after c.args.v c.args.delta before after ch r r' c.in_ok-told.told
    (subst (AreRulesOf before) (sym c.self.view_is) of) c.in_ok-told.ensures.changed
    (same-rest i.hops i.hops refl)

pub returns-then-whole_at-clause-exact : goal.returns-then-whole_at-clause-exact
returns-then-whole_at-clause-exact g c before after of ch =
    let i = c.self.inside in
    let r : RulesOf = record { trees = i.trees; sizes = i.sizes; whole = i.whole; hops = i.hops } in
    let r' : RulesOf = record { trees = c.change_tree.new.trees; sizes = i.sizes; whole = i.whole; hops = i.hops } in
    let tied : AreTied r = subst AreTied (sym c.self.view_is) c.requires.tied in
    let can : CanTake r c.args.v c.args.delta =
    subst (λ (z : RulesOf). CanTake z c.args.v c.args.delta) (sym c.self.view_is) c.requires.can in
    let whole = ap (λ (z : List Bool). slice_index_or z c.args.v false) tied.wholes
    ∙ (sym c.whole_at.ensures ∙ c.if-whole_at.true) in
    subst (AreExact before.network.switches (rules_in before) (rules_in after)) (sym c.in_ok-all.ensures)
    (exact-whole c.args.v c.args.delta r r' c.in_ok-told.told tied c.in_ok-told.ensures.changed refl refl can.there
    before after (subst (AreRulesOf before) (sym c.self.view_is) of) ch whole refl)

pub change_ports-requires-clause-kept : goal.change_ports-requires-clause-kept
change_ports-requires-clause-kept g c =
    let i = c.self.inside in
    let r : RulesOf = record { trees = i.trees; sizes = i.sizes; whole = i.whole; hops = i.hops } in
    let tied : AreTied r = subst AreTied (sym c.self.view_is) c.requires.tied in
    tied.kept

pub change_ports-requires-clause-sizes : goal.change_ports-requires-clause-sizes
change_ports-requires-clause-sizes g c =
    let i = c.self.inside in
    let r : RulesOf = record { trees = i.trees; sizes = i.sizes; whole = i.whole; hops = i.hops } in
    let tied : AreTied r = subst AreTied (sym c.self.view_is) c.requires.tied in
    sym tied.sizes

pub change_ports-requires-clause-there : goal.change_ports-requires-clause-there
change_ports-requires-clause-there g c =
    let i = c.self.inside in
    let r : RulesOf = record { trees = i.trees; sizes = i.sizes; whole = i.whole; hops = i.hops } in
    let tied : AreTied r = subst AreTied (sym c.self.view_is) c.requires.tied in
    let can : CanTake r c.args.v c.args.delta =
    subst (λ (z : RulesOf). CanTake z c.args.v c.args.delta) (sym c.self.view_is) c.requires.can in
    let same = ap (λ (z : List ℕ). length z) tied.sizes in
    let count = tied.count in
    let there = can.there in
    omega (arith, same, count, there)

pub change_ports-requires-clause-parted : goal.change_ports-requires-clause-parted
change_ports-requires-clause-parted g c =
    let i = c.self.inside in
    let r : RulesOf = record { trees = i.trees; sizes = i.sizes; whole = i.whole; hops = i.hops } in
    let tied : AreTied r = subst AreTied (sym c.self.view_is) c.requires.tied in
    ap (λ (z : List Bool). slice_index_or z c.args.v false) tied.wholes ∙ (sym c.whole_at.ensures ∙ c.if-whole_at.false)

pub change_ports-requires-clause-gone : goal.change_ports-requires-clause-gone
change_ports-requires-clause-gone g c =
    let i = c.self.inside in
    let r : RulesOf = record { trees = i.trees; sizes = i.sizes; whole = i.whole; hops = i.hops } in
    let tied : AreTied r = subst AreTied (sym c.self.view_is) c.requires.tied in
    let can : CanTake r c.args.v c.args.delta =
    subst (λ (z : RulesOf). CanTake z c.args.v c.args.delta) (sym c.self.view_is) c.requires.can in
    let parted = ap (λ (z : List Bool). slice_index_or z c.args.v false) tied.wholes
    ∙ (sym c.whole_at.ensures ∙ c.if-whole_at.false) in
    gone-there c.args.v c.args.delta r c.change_tree.new.trees c.in_ok-told.told tied c.in_ok-told.ensures.changed
    parted can.there

pub returns-clause-tied : goal.returns-clause-tied
returns-clause-tied g c =
    let i = c.self.inside in
    let r : RulesOf = record { trees = i.trees; sizes = i.sizes; whole = i.whole; hops = i.hops } in
    let r' : RulesOf = record {
      trees = c.change_tree.new.trees;
      sizes = i.sizes;
      whole = i.whole;
      hops = c.change_ports.new.hops;
    } in
    let tied : AreTied r = subst AreTied (sym c.self.view_is) c.requires.tied in
    tied-parted c.args.v c.args.delta r r' c.in_ok-told.told tied c.in_ok-told.ensures.changed refl refl
    c.in_ok-deltas.ensures.handed

pub returns-clause-rules : goal.returns-clause-rules
returns-clause-rules g c before after of ch =
    let i = c.self.inside in
    let r : RulesOf = record { trees = i.trees; sizes = i.sizes; whole = i.whole; hops = i.hops } in
    let r' : RulesOf = record {
      trees = c.change_tree.new.trees;
      sizes = i.sizes;
      whole = i.whole;
      hops = c.change_ports.new.hops;
    } in
    let handed = c.in_ok-deltas.ensures.handed in
    rules-after c.args.v c.args.delta before after ch r r' c.in_ok-told.told
    (subst (AreRulesOf before) (sym c.self.view_is) of) c.in_ok-told.ensures.changed handed.rest

pub returns-clause-exact : goal.returns-clause-exact
returns-clause-exact g c before after of ch =
    let i = c.self.inside in
    let r : RulesOf = record { trees = i.trees; sizes = i.sizes; whole = i.whole; hops = i.hops } in
    let r' : RulesOf = record {
      trees = c.change_tree.new.trees;
      sizes = i.sizes;
      whole = i.whole;
      hops = c.change_ports.new.hops;
    } in
    let tied : AreTied r = subst AreTied (sym c.self.view_is) c.requires.tied in
    let can : CanTake r c.args.v c.args.delta =
    subst (λ (z : RulesOf). CanTake z c.args.v c.args.delta) (sym c.self.view_is) c.requires.can in
    let parted = ap (λ (z : List Bool). slice_index_or z c.args.v false) tied.wholes
    ∙ (sym c.whole_at.ensures ∙ c.if-whole_at.false) in
    exact-parted c.args.v c.args.delta r r' c.in_ok-told.told tied c.in_ok-told.ensures.changed refl refl can.there
    before after (subst (AreRulesOf before) (sym c.self.view_is) of) ch parted
    c.in_ok-deltas.ensures.handed c.in_ok-deltas.deltas c.in_ok-deltas.ensures.deltas

pub returns-in_err-told-clause-steps : goal.returns-in_err-told-clause-steps
returns-in_err-told-clause-steps g c before after of ch =
    let i = c.self.inside in
    let r : RulesOf = record { trees = i.trees; sizes = i.sizes; whole = i.whole; hops = i.hops } in
    let can : CanTake r c.args.v c.args.delta =
    subst (λ (z : RulesOf). CanTake z c.args.v c.args.delta) (sym c.self.view_is) c.requires.can in
    subst (λ (z : RulesOf). c.change_tree.new.steps ≤ c.args.steps.now + setting_steps z.hops.plan before after)
    c.self.view_is
    (tree-within c.args.v c.args.delta before after ch r (subst (AreRulesOf before) (sym c.self.view_is) of) can.there
    c.args.steps.now c.change_tree.new.steps
    (tree-spent c.args.v c.args.delta before after ch r (subst (AreRulesOf before) (sym c.self.view_is) of) can.there
    c.args.steps.now c.change_tree.new.steps c.change_tree.ensures.steps))

pub returns-in_err-all-clause-steps : goal.returns-in_err-all-clause-steps
returns-in_err-all-clause-steps g c before after of ch =
    let i = c.self.inside in
    let r : RulesOf = record { trees = i.trees; sizes = i.sizes; whole = i.whole; hops = i.hops } in
    let can : CanTake r c.args.v c.args.delta =
    subst (λ (z : RulesOf). CanTake z c.args.v c.args.delta) (sym c.self.view_is) c.requires.can in
    subst (λ (z : RulesOf). c.change_tree.new.steps ≤ c.args.steps.now + setting_steps z.hops.plan before after)
    c.self.view_is
    (tree-within c.args.v c.args.delta before after ch r (subst (AreRulesOf before) (sym c.self.view_is) of) can.there
    c.args.steps.now c.change_tree.new.steps
    (tree-spent c.args.v c.args.delta before after ch r (subst (AreRulesOf before) (sym c.self.view_is) of) can.there
    c.args.steps.now c.change_tree.new.steps c.change_tree.ensures.steps))

pub returns-then-whole_at-clause-steps : goal.returns-then-whole_at-clause-steps
returns-then-whole_at-clause-steps g c before after of ch =
    let i = c.self.inside in
    let r : RulesOf = record { trees = i.trees; sizes = i.sizes; whole = i.whole; hops = i.hops } in
    let can : CanTake r c.args.v c.args.delta =
    subst (λ (z : RulesOf). CanTake z c.args.v c.args.delta) (sym c.self.view_is) c.requires.can in
    subst (λ (z : RulesOf). c.change_tree.new.steps ≤ c.args.steps.now + setting_steps z.hops.plan before after)
    c.self.view_is
    (tree-within c.args.v c.args.delta before after ch r (subst (AreRulesOf before) (sym c.self.view_is) of) can.there
    c.args.steps.now c.change_tree.new.steps
    (tree-spent c.args.v c.args.delta before after ch r (subst (AreRulesOf before) (sym c.self.view_is) of) can.there
    c.args.steps.now c.change_tree.new.steps c.change_tree.ensures.steps))

pub returns-in_err-deltas-clause-steps : goal.returns-in_err-deltas-clause-steps
returns-in_err-deltas-clause-steps g c before after of ch =
    let i = c.self.inside in
    let r : RulesOf = record { trees = i.trees; sizes = i.sizes; whole = i.whole; hops = i.hops } in
    let tied : AreTied r = subst AreTied (sym c.self.view_is) c.requires.tied in
    let can : CanTake r c.args.v c.args.delta =
    subst (λ (z : RulesOf). CanTake z c.args.v c.args.delta) (sym c.self.view_is) c.requires.can in
    let parted = ap (λ (z : List Bool). slice_index_or z c.args.v false) tied.wholes
    ∙ (sym c.whole_at.ensures ∙ c.if-whole_at.false) in
    let was = subst (AreRulesOf before) (sym c.self.view_is) of in
    subst (λ (z : RulesOf). c.change_ports.new.steps ≤ c.args.steps.now + setting_steps z.hops.plan before after)
    c.self.view_is
    (all-spent c.args.v c.args.delta before after ch r was can.there c.change_tree.new.trees c.in_ok-told.told tied
    c.in_ok-told.ensures.changed parted c.args.steps.now c.change_tree.new.steps
    c.change_ports.new.steps (tree-spent c.args.v c.args.delta before after ch r was can.there c.args.steps.now
    c.change_tree.new.steps c.change_tree.ensures.steps)
    c.change_ports.ensures.steps)

pub returns-clause-steps : goal.returns-clause-steps
returns-clause-steps g c before after of ch =
    let i = c.self.inside in
    let r : RulesOf = record { trees = i.trees; sizes = i.sizes; whole = i.whole; hops = i.hops } in
    let tied : AreTied r = subst AreTied (sym c.self.view_is) c.requires.tied in
    let can : CanTake r c.args.v c.args.delta =
    subst (λ (z : RulesOf). CanTake z c.args.v c.args.delta) (sym c.self.view_is) c.requires.can in
    let parted = ap (λ (z : List Bool). slice_index_or z c.args.v false) tied.wholes
    ∙ (sym c.whole_at.ensures ∙ c.if-whole_at.false) in
    let was = subst (AreRulesOf before) (sym c.self.view_is) of in
    subst (λ (z : RulesOf). c.change_ports.new.steps ≤ c.args.steps.now + setting_steps z.hops.plan before after)
    c.self.view_is
    (all-spent c.args.v c.args.delta before after ch r was can.there c.change_tree.new.trees c.in_ok-told.told tied
    c.in_ok-told.ensures.changed parted c.args.steps.now c.change_tree.new.steps
    c.change_ports.new.steps (tree-spent c.args.v c.args.delta before after ch r was can.there c.args.steps.now
    c.change_tree.new.steps c.change_tree.ensures.steps)
    c.change_ports.ensures.steps)

pub returns-then-whole_at-clause-plan : goal.returns-then-whole_at-clause-plan
returns-then-whole_at-clause-plan g c = ap (λ (z : RulesOf). z.hops.plan) c.self.view_is

pub returns-clause-plan : goal.returns-clause-plan
returns-clause-plan g c = ap (λ (z : TableOf). z.plan) c.in_ok-deltas.ensures.handed.rest
    ∙ ap (λ (z : RulesOf). z.hops.plan) c.self.view_is
