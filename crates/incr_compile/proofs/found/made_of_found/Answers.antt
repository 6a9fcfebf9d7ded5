use Rattle.std.proofs.Common.{◌+◌, List, arith, map, subst, sym, ℕ}
use Rattle.std.specs.Prelude.{IsPermutation, count_by, filter}
use Rattle.std.proofs.lemmas.Slice.Zip.{AllZip-long}
use Rattle.policy_meaning.specs.declared.rule.Rule.{Rule}
use Rattle.rule_ancestry.specs.Holding.{Held, id_of}
use Rattle.made_rules.specs.Rules.{rules_in}
use Rattle.incr_compile.specs.Candidates.{could_meet}
use Rattle.incr_compile.proofs.Enough.{cost-more, cost-within, lefts-more}
use Rattle.incr_compile.proofs.Finding.{all-at}
use Rattle.incr_compile.proofs.found.made_of_found.Goals as goal

pub bounds-found-i : goal.bounds-found-i
bounds-found-i g c =
    let same = AllZip-long _ c.args.come.now c.args.found.now c.requires.found in
    let within = c.loop-i-test.true in
    omega arith

pub add_found-requires-clause-found : goal.add_found-requires-clause-found
add_found-requires-clause-found g c =
    let here = all-at _ c.args.come.now c.args.found.now c.loop-i.i c.index-come-i.result c.index-found-i.result
    c.requires.found c.loop-i-test.true c.index-come-i.is c.index-found-i.is in
    subst
    (λ (z : List ℕ). IsPermutation
    (map id_of (filter (λ (b : Held Rule). could_meet c.args.op c.index-come-i.result.item b.item)
    (rules_in c.args.right.now))) z) (sym c.deref.ensures.value) here

pub returns-in_err-add_found-clause-steps : goal.returns-in_err-add_found-clause-steps
returns-in_err-add_found-clause-steps g c =
    cost-within (λ (a : Held Rule). 1 + count_by (λ (b : Held Rule). could_meet c.args.op a.item b.item)
    (rules_in c.args.right.now))
    c.args.come.now c.loop-i.i c.index-come-i.result c.args.steps.now c.loop-i.steps c.add_found.new.steps
    c.loop-i-test.true c.index-come-i.is c.loop-i.invariant.steps c.add_found.ensures.steps

pub loop-i-preserved : goal.loop-i-preserved
loop-i-preserved g c = record {
  made =
      lefts-more c.args.op c.args.size (rules_in c.args.right.now) c.args.come.now c.loop-i.i c.index-come-i.result
      c.loop-i.fresh.items c.add_found.new.fresh.items c.loop-i-test.true c.index-come-i.is c.loop-i.invariant.made
      c.in_ok-add_found.ensures.made;
  steps =
      cost-more (λ (a : Held Rule). 1 + count_by (λ (b : Held Rule). could_meet c.args.op a.item b.item)
      (rules_in c.args.right.now))
      c.args.come.now c.loop-i.i c.index-come-i.result c.args.steps.now c.loop-i.steps c.add_found.new.steps
      c.loop-i-test.true c.index-come-i.is c.loop-i.invariant.steps c.add_found.ensures.steps;
}
