use Rattle.std.proofs.Common.{◌≡◌, ◌∙◌, ◌<◌, ℕ, List, ap, subst, sym, length, arith}
use Rattle.std.specs.Prelude.{filter_map}
use Rattle.hop_rules.specs.Building.{CanBuild, IsRisen, joint_stand, none_of}
use Rattle.hop_rules.specs.Handed.{GivenOf}
use Rattle.hop_rules.specs.Kept.{with_rules}
use Rattle.hop_rules.specs.Levels.{given_at}
use Rattle.hop_rules.specs.Links.{ends}
use Rattle.hop_rules.specs.Tables.{empty_table, fabric}
use Rattle.hop_rules.specs.declared.exits.LinkEnd.{LinkEnd}
use Rattle.hop_rules.proofs.Empties.{fits-all, is-fabric, is-kept, rules-empty}
use Rattle.hop_rules.proofs.table.parts_of.Goals as goal

pub none_given-requires : goal.none_given-requires
none_given-requires c = let few = c.plan-plan.ensures.virtuals in let s = c.requires.sizes in omega arith

pub levels_below-requires : goal.levels_below-requires
levels_below-requires c =
    let plan = c.args.topology.now in
    let sizes = c.args.sizes.now in
    let hops = c.args.hops in
    let whole = c.args.whole.now in
    let gs = c.in_ok-given.given in
    let all : c.as_slice-ends.result.now ≡ ends plan = c.as_slice-ends.ensures ∙ c.in_ok-all.ensures in
    let count : length gs ≡ length sizes = c.in_ok-given.ensures.count in
    let each : (v : ℕ) → v < length gs → given_at gs v ≡ none_of (ends plan) v =
    λ v lt. c.in_ok-given.ensures.each v (omega arith) ∙ ap (λ (es : List LinkEnd). none_of es v) all in
    let f = fabric (with_rules (empty_table plan sizes hops whole) gs) in
    let can : CanBuild f (ends plan) gs sizes hops = record {
      fabric = is-fabric plan sizes hops whole gs count c.requires.sizes each;
      positive = c.requires.hop;
      fits = λ n v lt. fits-all plan sizes hops whole gs count c.requires.sizes each c.requires.fits n v (omega arith);
    } in
    let built = subst (λ (es : List LinkEnd). CanBuild f es c.as_slice.result.now sizes hops) (sym all)
    (subst (λ (xs : List GivenOf). CanBuild f (ends plan) xs sizes hops) (sym c.as_slice.ensures) can) in
    (f, built)

pub returns-clause-kept : goal.returns-clause-kept
returns-clause-kept c =
    let plan = c.args.topology.now in
    let sizes = c.args.sizes.now in
    let hops = c.args.hops in
    let whole = c.args.whole.now in
    let gs = c.in_ok-given.given in
    let all : c.as_slice-ends.result.now ≡ ends plan = c.as_slice-ends.ensures ∙ c.in_ok-all.ensures in
    let count : length gs ≡ length sizes = c.in_ok-given.ensures.count in
    let each : (v : ℕ) → v < length gs → given_at gs v ≡ none_of (ends plan) v =
    λ v lt. c.in_ok-given.ensures.each v (omega arith) ∙ ap (λ (es : List LinkEnd). none_of es v) all in
    let f = fabric (with_rules (empty_table plan sizes hops whole) gs) in
    let can : CanBuild f (ends plan) gs sizes hops = record {
      fabric = is-fabric plan sizes hops whole gs count c.requires.sizes each;
      positive = c.requires.hop;
      fits = λ n v lt. fits-all plan sizes hops whole gs count c.requires.sizes each c.requires.fits n v (omega arith);
    } in
    let built = subst (λ (es : List LinkEnd). CanBuild f es c.as_slice.result.now sizes hops) (sym all)
    (subst (λ (xs : List GivenOf). CanBuild f (ends plan) xs sizes hops) (sym c.as_slice.ensures) can) in
    let r = c.in_ok-rising.rising in
    let risen : IsRisen f (ends plan) (length gs) r =
    subst (λ (es : List LinkEnd). IsRisen f es (length gs) r) all
    (subst (λ (xs : List GivenOf). IsRisen f c.as_slice-ends.result.now (length xs) r) c.as_slice.ensures
    (c.in_ok-rising.ensures.risen f built)) in
    let stands =
    c.in_ok-top.ensures.stands ∙ c.in_ok-stands.ensures
    ∙ (λ i. filter_map (joint_stand whole (c.as_slice-2.ensures i)) (c.outside_ports-outside.ensures.ports i)) in
    is-kept plan sizes hops whole gs count c.requires.sizes each c.requires.fits c.requires.whole c.in_ok-last.last
    (c.in_ok-last.ensures.count ∙ ap length all) c.in_ok-last.ensures.each
    r c.in_ok-rising.ensures.count risen c.in_ok-top.top stands
    (c.in_ok-top.ensures.count ∙ ap length (sym c.in_ok-top.ensures.stands)) c.in_ok-top.ensures.nodes

pub returns-clause-empty : goal.returns-clause-empty
returns-clause-empty c =
    let plan = c.args.topology.now in
    let sizes = c.args.sizes.now in
    let gs = c.in_ok-given.given in
    let all : c.as_slice-ends.result.now ≡ ends plan = c.as_slice-ends.ensures ∙ c.in_ok-all.ensures in
    let count : length gs ≡ length sizes = c.in_ok-given.ensures.count in
    let each : (v : ℕ) → v < length gs → given_at gs v ≡ none_of (ends plan) v =
    λ v lt. c.in_ok-given.ensures.each v (omega arith) ∙ ap (λ (es : List LinkEnd). none_of es v) all in
    rules-empty plan sizes c.args.hops c.args.whole.now gs count c.requires.sizes each
