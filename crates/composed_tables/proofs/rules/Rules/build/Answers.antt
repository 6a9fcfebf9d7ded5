use Rattle.std.proofs.Common.{ℕ, Bool, List, length, ap, subst, ◌∙◌, arith}
use Rattle.std.proofs.lemmas.List.{length-map}
use Rattle.alg_priority.specs.Levels.{capped}
use Rattle.hop_rules.specs.Tables.{TableOf}
use Rattle.incr_compile.specs.declared.tree.Tree.{Tree}
use Rattle.policy_meaning.specs.Fitting.{levels_of}
use Rattle.policy_meaning.specs.Switches.{SwitchOf}
use Rattle.composed_tables.specs.Rules.{AreHandedOver}
use Rattle.composed_tables.proofs.Built.{few-over-hops, made-of, made-steps, made-tied}
use Rattle.composed_tables.proofs.rules.Rules.build.Goals as goal

pub empty_hops-requires-clause-sizes : goal.empty_hops-requires-clause-sizes
empty_hops-requires-clause-sizes g c =
    let s = c.args.setting.now in
    let sizes = ap (λ (z : List ℕ). length z) c.in_ok-sizes.ensures in
    let mapped = length-map s.network.switches (λ (x : SwitchOf). capped (levels_of s.network.tables x.expr)) in
    let count = c.requires.ready.count in
    omega (arith, sizes, mapped, count)

pub empty_hops-requires-clause-wholes : goal.empty_hops-requires-clause-wholes
empty_hops-requires-clause-wholes g c =
    let wholes = ap (λ (z : List Bool). length z) c.in_ok-whole.ensures in
    let mapped = length-map c.args.setting.now.network.switches (λ (x : SwitchOf). x.whole) in
    let count = c.requires.ready.count in
    omega (arith, wholes, mapped, count)

pub empty_hops-requires-clause-fits : goal.empty_hops-requires-clause-fits
empty_hops-requires-clause-fits g c =
    few-over-hops c.args.setting.now c.args.topology.now c.requires.ready c.in_ok-sizes.sizes c.in_ok-whole.whole
    c.in_ok-sizes.ensures c.in_ok-whole.ensures
    c.requires.fits

pub hand_over_all-requires-clause-few : goal.hand_over_all-requires-clause-few
hand_over_all-requires-clause-few g c =
    let items = ap (λ (z : List Tree). length z) c.as_slice.ensures in
    let count = c.in_ok-trees.ensures.count in
    let few = c.requires.fits.switches in
    omega (arith, items, count, few)

pub hand_over_all-requires-clause-count : goal.hand_over_all-requires-clause-count
hand_over_all-requires-clause-count g c =
    let s = c.args.setting.now in
    let items = ap (λ (z : List Tree). length z) c.as_slice.ensures in
    let sizes = ap (λ (z : List ℕ). length z) c.in_ok-sizes.ensures in
    let mapped = length-map s.network.switches (λ (x : SwitchOf). capped (levels_of s.network.tables x.expr)) in
    let count = c.in_ok-trees.ensures.count in
    omega (arith, items, sizes, mapped, count)

pub hand_over_all-requires-clause-wholes : goal.hand_over_all-requires-clause-wholes
hand_over_all-requires-clause-wholes g c =
    let items = ap (λ (z : List Tree). length z) c.as_slice.ensures in
    let wholes = ap (λ (z : List Bool). length z) c.in_ok-whole.ensures in
    let mapped = length-map c.args.setting.now.network.switches (λ (x : SwitchOf). x.whole) in
    let count = c.in_ok-trees.ensures.count in
    omega (arith, items, wholes, mapped, count)

pub returns-in-Ok-clause-tied : goal.returns-in-Ok-clause-tied
returns-in-Ok-clause-tied g c =
    let over = subst (λ (z : List Tree). AreHandedOver z c.in_ok-hops.hops c.hand_over_all.new.hops) c.as_slice.ensures
    c.in-Ok.ensures.handed in
    made-tied c.args.setting.now c.args.topology.now c.requires.ready c.in_ok-sizes.sizes c.in_ok-whole.whole
    c.in_ok-sizes.ensures c.in_ok-whole.ensures
    c.in_ok-trees.trees c.in_ok-hops.hops c.hand_over_all.new.hops c.in_ok-hops.ensures.empty c.in_ok-hops.ensures.plan
    c.in_ok-hops.ensures.hops over.rest
    c.in_ok-trees.ensures.count c.in_ok-trees.ensures.trees c.in_ok-trees.ensures.sound over

pub returns-in-Ok-clause-rules : goal.returns-in-Ok-clause-rules
returns-in-Ok-clause-rules g c =
    let over = subst (λ (z : List Tree). AreHandedOver z c.in_ok-hops.hops c.hand_over_all.new.hops) c.as_slice.ensures
    c.in-Ok.ensures.handed in
    made-of c.args.setting.now c.args.topology.now c.requires.ready c.in_ok-sizes.sizes c.in_ok-whole.whole
    c.in_ok-sizes.ensures c.in_ok-whole.ensures
    c.in_ok-trees.trees c.in_ok-hops.hops c.hand_over_all.new.hops c.in_ok-hops.ensures.empty c.in_ok-hops.ensures.plan
    c.in_ok-hops.ensures.hops over.rest
    c.in_ok-trees.ensures.count c.in_ok-trees.ensures.trees c.in_ok-trees.ensures.sound

pub returns-in-Ok-clause-plan : goal.returns-in-Ok-clause-plan
returns-in-Ok-clause-plan g c = ap (λ (z : TableOf). z.plan) c.in-Ok.ensures.handed.rest ∙ c.in_ok-hops.ensures.plan

pub returns-in_err-trees-clause-steps : goal.returns-in_err-trees-clause-steps
returns-in_err-trees-clause-steps g c = let le = c.compile_all.ensures.steps in omega (arith, le)

pub returns-in_err-sizes-clause-steps : goal.returns-in_err-sizes-clause-steps
returns-in_err-sizes-clause-steps g c = let le = c.compile_all.ensures.steps in omega (arith, le)

pub returns-in_err-whole-clause-steps : goal.returns-in_err-whole-clause-steps
returns-in_err-whole-clause-steps g c = let le = c.compile_all.ensures.steps in omega (arith, le)

pub returns-in_err-hops-clause-steps : goal.returns-in_err-hops-clause-steps
returns-in_err-hops-clause-steps g c = let le = c.compile_all.ensures.steps in omega (arith, le)

pub returns-in-Err-clause-steps : goal.returns-in-Err-clause-steps
returns-in-Err-clause-steps g c =
    made-steps c.args.setting.now c.args.topology.now c.requires.ready c.in_ok-sizes.sizes c.in_ok-whole.whole
    c.in_ok-sizes.ensures c.in_ok-whole.ensures c.in_ok-trees.trees
    c.in_ok-hops.hops c.in_ok-hops.ensures.empty c.in_ok-hops.ensures.plan c.in_ok-hops.ensures.hops
    c.in_ok-trees.ensures.count c.in_ok-trees.ensures.trees c.in_ok-trees.ensures.sound
    c.as_slice.result.now c.as_slice.ensures c.args.steps.now c.compile_all.new.steps c.hand_over_all.new.steps
    c.compile_all.ensures.steps c.hand_over_all.ensures.steps

pub returns-in-Ok-clause-steps : goal.returns-in-Ok-clause-steps
returns-in-Ok-clause-steps g c =
    made-steps c.args.setting.now c.args.topology.now c.requires.ready c.in_ok-sizes.sizes c.in_ok-whole.whole
    c.in_ok-sizes.ensures c.in_ok-whole.ensures c.in_ok-trees.trees
    c.in_ok-hops.hops c.in_ok-hops.ensures.empty c.in_ok-hops.ensures.plan c.in_ok-hops.ensures.hops
    c.in_ok-trees.ensures.count c.in_ok-trees.ensures.trees c.in_ok-trees.ensures.sound
    c.as_slice.result.now c.as_slice.ensures c.args.steps.now c.compile_all.new.steps c.hand_over_all.new.steps
    c.compile_all.ensures.steps c.hand_over_all.ensures.steps
