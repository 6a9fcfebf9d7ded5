use Rattle.std.proofs.Common.{IfOk, ap, subst, ◌∙◌}
use Rattle.std.specs.Borrow.{Bor}
use Rattle.std.specs.List.{AllZip}
use Rattle.std.specs.Prelude.{IsPermutation, filter, map}
use Rattle.std.proofs.lemmas.List.Sorted.{IsPermutation-sym, IsPermutation-trans}
use Rattle.policy_meaning.specs.declared.rule.Rule.{Rule}
use Rattle.rule_ancestry.specs.Holding.{Held, id_of}
use Rattle.rayon.proofs.ToStd.{slice-AllZip}
use Rattle.incr_compile.specs.Candidates.{asked, could_meet, overlapping, reach}
use Rattle.incr_compile.proofs.Finding.{found-each, found-ids}
use Rattle.incr_compile.specs.contracts.found.fn.found_rights.map as closure
use Rattle.incr_compile.proofs.found.found_rights.Goals as goal

pub returns : goal.returns
returns g c rights p =
    let h = c.in_ok-found.ensures in
    let slice = ap (λ it. it.base.slice.now) c.map.ensures.base
    ∙ (ap (λ it. it.slice.now) c.with_min_len.ensures.base ∙ c.par_iter.ensures) in
    let each =
    subst
    (λ f. AllZip
    (λ (z : Bor (Held Rule)) r. IfOk r
    (λ ids. IsPermutation
    (overlapping (reach (closure.captures f).op z.now.item) (closure.captures f).index.now.items) ids.items)) h.1.0
    h.0) c.map.ensures.f h.1.2 in
    found-each (λ v. v.items)
    (λ (a : Held Rule) ids. IsPermutation (overlapping (reach c.args.op a.item) c.args.index.now.items) ids.items)
    (λ (a : Held Rule) ids. IsPermutation
    (map id_of (filter (λ (b : Held Rule). could_meet c.args.op a.item b.item) rights)) ids.items)
    (λ a ids q. IsPermutation-trans _ _ _
    (IsPermutation-sym _ _ (found-ids (asked c.args.op) (reach c.args.op a.item) c.args.index.now.items rights p))
    q)
    c.args.come.now h.0 c.in_ok-found.found
    (slice-AllZip h.1.0 c.args.come.now (h.1.1 ∙ slice)
    (λ (a : Held Rule) r. IfOk r
    (λ ids. IsPermutation (overlapping (reach c.args.op a.item) c.args.index.now.items) ids.items)) h.0 each) h.2
