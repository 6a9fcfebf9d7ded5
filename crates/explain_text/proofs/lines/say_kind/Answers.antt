use Rattle.switch_meaning.proofs.Items.{apart}
use Rattle.explain_text.proofs.lines.say_kind.Goals as goal

pub returns : goal.returns
returns c =
    let known = apart c.args.kind 0 c.if-kind-eq0.false in
    let hit = apart c.args.kind 1 c.if-kind-eq1.false in
    rw (known, hit) c.say_serial.ensures
