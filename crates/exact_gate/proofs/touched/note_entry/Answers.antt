use Rattle.match_index.proofs.Lists.{ok_then}
use Rattle.exact_gate.proofs.Noting.{entry-noted}
use Rattle.exact_gate.proofs.touched.note_entry.Goals as goal

pub returns-clause-noted : goal.returns-clause-noted
returns-clause-noted c =
    ok_then _ _ c.note_all-2.result
    (λ added. entry-noted c.args.pool.now c.args.keys.now.keys c.note.new.keys.keys c.note_all-2.new.keys.keys
    c.in_ok-reached.field-0 c.args.entry.now c.of-key.result c.of-key.ensures c.in_ok-note.ensures added
    c.in_ok-reached.ensures)
    c.note_all-2.ensures
