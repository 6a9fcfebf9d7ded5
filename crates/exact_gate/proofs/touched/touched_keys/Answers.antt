use Rattle.exact_gate.proofs.Noting.{all-noted-on}
use Rattle.exact_gate.proofs.touched.touched_keys.Goals as goal

pub returns-clause-gone : goal.returns-clause-gone
returns-clause-gone c =
    all-noted-on c.args.pool.now c.note_entries.new.keys.keys c.note_entries-2.new.keys.keys c.args.gone.now
    c.in_ok-note_entries-2.ensures.more c.in_ok-note_entries.ensures.noted
