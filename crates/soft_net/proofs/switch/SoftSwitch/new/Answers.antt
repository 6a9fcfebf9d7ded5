use Rattle.std.proofs.Common.{◌≡◌, ◌∙◌, ◌+◌, ◌∷◌, suc, ap, sym, drop, get_or, arith}
use Rattle.std.proofs.Math.Seq.{drop-cons}
use Rattle.std.specs.BTreeMap.{insert_entry}
use Rattle.std.specs.Ordering.{nat_cmp}
use Rattle.soft_net.specs.Counting.{put_zeros}
use Rattle.soft_net.proofs.switch.SoftSwitch.new.Goals as goal

pub loop-port-preserved : goal.loop-port-preserved
loop-port-preserved c =
    let ps = c.args.ports.now in
    let i = c.loop-port.port-index in
    let q = get_or ps i 0 in
    let old = c.loop-port.counts.entries in
    let next : suc i ≡ i + 1 = omega arith in
    ap (λ es. put_zeros es (drop (i + 1) ps))
    (c.in_ok-insert.ensures.entries ∙ ap (insert_entry nat_cmp old q) c.zero_port.ensures)
    ∙ (ap (put_zeros old) (sym (drop-cons ps i 0 c.loop-port-test.true ∙ ap (λ k. q ∷ drop k ps) next))
    ∙ c.loop-port.invariant)
