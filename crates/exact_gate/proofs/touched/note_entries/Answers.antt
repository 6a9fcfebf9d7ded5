use Rattle.std.proofs.Common.{List, subst, take_all}
use Rattle.std.specs.List.{All}
use Rattle.switch_meaning.specs.declared.entry.PhysEntry.{PhysEntry}
use Rattle.exact_gate.specs.InsideChanges.{IsNoted}
use Rattle.exact_gate.proofs.Noting.{all-noted}
use Rattle.exact_gate.proofs.touched.note_entries.Goals as goal

pub loop-entry-preserved : goal.loop-entry-preserved
loop-entry-preserved c = record {
  more = λ k t. c.in_ok-note_entry.ensures.more k (c.loop-entry.invariant.more k t);
  noted = all-noted c.args.pool.now c.loop-entry.keys.keys c.note_entry.new.keys.keys c.args.entries.now
      c.loop-entry.entry-index c.entry-item.result c.loop-entry-test.true c.entry-item.is
      c.in_ok-note_entry.ensures.more c.loop-entry.invariant.noted c.in_ok-note_entry.ensures.noted;
}

pub returns-clause-noted : goal.returns-clause-noted
returns-clause-noted c =
    let P : List PhysEntry → Type 0 = All (IsNoted c.args.pool.now c.loop-entry.keys.keys) in
    subst P (take_all c.loop-entry.entry-index c.args.entries.now c.loop-entry-test.false) c.loop-entry.invariant.noted
