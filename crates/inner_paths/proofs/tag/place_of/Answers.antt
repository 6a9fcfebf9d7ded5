use Rattle.std.proofs.Common.{◌∙◌, ◌≤◌, ℕ, Bool, if◌then◌else◌, ap, subst, sym, arith}
use Rattle.inner_paths.specs.Tags.{stands_before}
use Rattle.inner_paths.proofs.Rows.{at_most_one, passing_more}
use Rattle.inner_paths.proofs.tag.place_of.Goals as goal

pub loop-outside-preserved : goal.loop-outside-preserved
loop-outside-preserved c =
    let p = stands_before c.args.topology.now c.args.v c.args.port in
    let items = c.outside_ports-outside-items.result.now in
    let i = c.loop-outside.outside-index in
    let before = c.loop-outside.invariant in
    let one : c.one_if-place.result ≤ 1 = subst (λ n. n ≤ 1) (sym c.one_if-place.ensures)
    (at_most_one c.stands_before.result) in
    let same = c.one_if-place.ensures ∙ ap (λ (b : Bool). if b then 1 else 0) c.stands_before.ensures in
    let d : (ℕ × ℕ) × (ℕ × ℕ) = ((0, 0), (0, 0)) in
    let more = passing_more p items i d c.loop-outside-test.true in
    (omega (arith, before.0, one), omega (arith, before.1, same, more))
