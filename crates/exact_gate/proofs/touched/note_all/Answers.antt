use Rattle.exact_gate.proofs.Noting.{noted-more}
use Rattle.exact_gate.proofs.touched.note_all.Goals as goal

pub loop-key-preserved : goal.loop-key-preserved
loop-key-preserved c =
    noted-more c.args.keys.now.keys c.loop-key.keys.keys c.note.new.keys.keys c.as_slice-key-items.result.now
    c.loop-key.key-index c.key-item.result c.loop-key-test.true c.key-item.is c.loop-key.invariant
    c.in_ok-note.ensures
