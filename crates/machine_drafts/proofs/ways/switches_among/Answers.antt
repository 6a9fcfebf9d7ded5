use Rattle.std.proofs.Common.{◌<◌, ◌≤◌, ◌++◌, ◌∷◌, [], ◌∙◌, Bool, ap, length, arith}
use Rattle.std.specs.Prelude.{if◌then◌else◌}
use Rattle.machine_drafts.proofs.Numbers.{all_kept, more_kept}
use Rattle.machine_meaning.specs.Ways.{is_switch_by}
use Rattle.machine_drafts.proofs.ways.switches_among.Goals as goal

pub loop-n-preserved : goal.loop-n-preserved
loop-n-preserved c =
    let t = c.args.topology.now in
    let n = c.loop-n.n in
    let count = c.switch_count-count.ensures in
    let test = c.loop-n-test.true in
    let within : n < length t.switches = omega arith in
    more_kept (is_switch_by t c.args.wiring.now c.args.group.now c.args.v) t.switches n c.loop-n.switches
    c.push_if.new.numbers _ within
    (c.in_ok-push_if.ensures ∙ ap (λ (b : Bool). c.loop-n.switches ++ (if b then n ∷ [] else []))
    c.is_switch_of.ensures) c.loop-n.invariant

pub returns : goal.returns
returns c =
    let t = c.args.topology.now in
    let count = c.switch_count-count.ensures in
    let test = c.loop-n-test.false in
    let end : length t.switches ≤ c.loop-n.n = omega arith in
    all_kept (is_switch_by t c.args.wiring.now c.args.group.now c.args.v) t.switches c.loop-n.n c.loop-n.switches _ end
    c.loop-n.invariant
