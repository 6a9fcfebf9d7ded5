use Rattle.std.proofs.Common.{◌≡◌, ◌∙◌, ◌+◌, ◌-◌, suc, ap, sym, length, arith}
use Rattle.machine_meaning.specs.Ways.{over_links, with_next}
use Rattle.machine_drafts.proofs.ways.group.Goals as goal

pub loop-link-preserved : goal.loop-link-preserved
loop-link-preserved c =
    let t = c.args.topology.now in
    let i = c.loop-link._link in
    let k = length t.virtuals - (i + 1) in
    let count = c.virtual_count-count.ensures in
    let test = c.loop-link-test.true in
    let more : length t.virtuals - i ≡ suc k = omega arith in
    ap (over_links t k) (c.in_ok-wider.ensures ∙ ap (with_next t) c.as_slice.ensures)
    ∙ (ap (λ m. over_links t m c.loop-link.group) (sym more) ∙ c.loop-link.invariant)
