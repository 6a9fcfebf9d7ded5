use Rattle.std.proofs.Common.{ℕ, Bool, false, List, [], ◌++◌, length, refl, ap, sym, subst, ◌∙◌, arith}
use Rattle.std.specs.Prelude.{IsPermutation, slice_index_or}
use Rattle.std.proofs.lemmas.Option.{slice_get_read}
use Rattle.hop_rules.specs.Tables.{IsHanded, rules_at as rules_kept}
use Rattle.incr_compile.specs.Compiling.{rules_at}
use Rattle.incr_compile.specs.Trees.{tree_of}
use Rattle.incr_compile.specs.declared.tree.Tree.{Tree}
use Rattle.list_change.proofs.Permute.{by-equation}
use Rattle.policy_meaning.specs.declared.rule.Rule.{Rule}
use Rattle.switch_meaning.proofs.Items.{some_injective}
use Rattle.composed_tables.proofs.Building.{handed-over, whole-over}
use Rattle.composed_tables.proofs.Starting.{handing-spent}
use Rattle.composed_tables.proofs.rules.hand_over.Goals as goal

pub returns-then-whole_at-clause-handed : goal.returns-then-whole_at-clause-handed
returns-then-whole_at-clause-handed g c =
    whole-over c.args.v c.args.trees.now c.args.hops.now
    (ap (λ (z : List Bool). slice_index_or z c.args.v false) c.requires.wholes_are
    ∙ (sym c.whole_at.ensures ∙ c.if-whole_at.true))

pub change_ports-requires-clause-sizes : goal.change_ports-requires-clause-sizes
change_ports-requires-clause-sizes g c = sym c.requires.sizes_are

pub change_ports-requires-clause-there : goal.change_ports-requires-clause-there
change_ports-requires-clause-there g c =
    let same = ap (λ (z : List ℕ). length z) c.requires.sizes_are in
    let count = c.requires.count in
    let there = c.requires.there in
    omega (arith, same, count)

pub change_ports-requires-clause-parted : goal.change_ports-requires-clause-parted
change_ports-requires-clause-parted g c =
    ap (λ (z : List Bool). slice_index_or z c.args.v false) c.requires.wholes_are
    ∙ (sym c.whole_at.ensures ∙ c.if-whole_at.false)

pub change_ports-requires-clause-gone : goal.change_ports-requires-clause-gone
change_ports-requires-clause-gone g c = (
  [],
  by-equation (rules_kept c.args.hops.now c.args.v) (c.new-gone.result ++ [])
      (c.requires.none ∙ sym (ap (λ (z : List Rule). z ++ []) c.new-gone.ensures)),
)

pub returns-clause-handed : goal.returns-clause-handed
returns-clause-handed g c =
    let trees = c.args.trees.now in
    let v = c.args.v in
    let come = c.in_ok-come.come in
    let is = slice_get_read trees (length trees) v c.index-trees-v.result refl c.requires.there c.index-trees-v.is in
    handed-over v trees c.args.hops.now c.change_ports.new.hops come c.requires.none
    (subst (λ (z : List Rule). IsHanded c.args.hops.now c.change_ports.new.hops v z come) c.new-gone.ensures
    c.in_ok-change_ports.ensures.handed)
    (λ t at. subst (λ (z : Tree). IsPermutation (rules_at (tree_of z)) come) (some_injective (sym is ∙ at))
    c.in_ok-come.ensures.listed.same)

pub returns-in_err-change_ports-clause-steps : goal.returns-in_err-change_ports-clause-steps
returns-in_err-change_ports-clause-steps g c s sound has of =
    let trees = c.args.trees.now in
    let v = c.args.v in
    let is = slice_get_read trees (length trees) v c.index-trees-v.result refl c.requires.there c.index-trees-v.is in
    handing-spent s trees sound
    (record { trees = trees; sizes = c.args.sizes.now; whole = c.args.whole.now; hops = c.args.hops.now }) refl of
    c.requires.wholes c.requires.wholes_are v has
    c.requires.none c.index-trees-v.result is c.in_ok-come.come c.in_ok-come.ensures.listed.same c.new-gone.result
    c.new-gone.ensures c.args.steps.now c.change_ports.new.steps
    c.change_ports.ensures.steps

pub returns-clause-steps : goal.returns-clause-steps
returns-clause-steps g c s sound has of =
    let trees = c.args.trees.now in
    let v = c.args.v in
    let is = slice_get_read trees (length trees) v c.index-trees-v.result refl c.requires.there c.index-trees-v.is in
    handing-spent s trees sound
    (record { trees = trees; sizes = c.args.sizes.now; whole = c.args.whole.now; hops = c.args.hops.now }) refl of
    c.requires.wholes c.requires.wholes_are v has
    c.requires.none c.index-trees-v.result is c.in_ok-come.come c.in_ok-come.ensures.listed.same c.new-gone.result
    c.new-gone.ensures c.args.steps.now c.change_ports.new.steps
    c.change_ports.ensures.steps
