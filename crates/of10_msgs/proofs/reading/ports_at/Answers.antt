use Rattle.std.proofs.Common.{◌∷◌, ◌++◌, ◌+◌, ◌-◌, ◌*◌, List, [], ap, ◌∙◌}
use Rattle.of10_msgs.specs.Reading.{ports_at}
use Rattle.of10_msgs.specs.declared.message.PhyPort.{PhyPort}
use Rattle.of10_msgs.proofs.Ports.{ports_more, ports_end}
use Rattle.of10_msgs.proofs.reading.ports_at.Goals as goal

pub loop-place-preserved : goal.loop-place-preserved
loop-place-preserved c =
    let pushed = c.in_ok-push.ensures.pushed ∙ ap (λ (p : PhyPort). c.loop-place.ports ++ p ∷ []) c.port_at.ensures in
    ap (λ (ps : List PhyPort). ps ++ ports_at (c.args.count - (c.loop-place.place + 1))
    (32 + 48 * (c.loop-place.place + 1)) c.args.frame.now) pushed
    ∙ ports_more c.args.count c.loop-place.place c.args.frame.now c.loop-place.ports _ c.loop-place-test.true
    c.loop-place.invariant

pub returns : goal.returns
returns c = ports_end c.args.count c.loop-place.place c.args.frame.now c.loop-place.ports _ c.loop-place-test.false
    c.loop-place.invariant
