use Rattle.std.proofs.Common.{◌≡◌, ◌&&◌, [], take}
use Rattle.std.specs.Prelude.{not}
use Rattle.switch_meaning.specs.declared.entry.PhysEntry.{PhysEntry}
use Rattle.exact_gate.specs.InsideLogs.{turned_back}
use Rattle.exact_gate.specs.Standing.{HaveSame, stands_in}
use Rattle.exact_gate.proofs.log.leave_all.Given as goal

-- those so far went
abbrev pub invariant-loop-entry : goal.invariant-loop-entry
invariant-loop-entry l = record {
  gone : (e : PhysEntry)
      → stands_in l.pool e ≡ (stands_in l.initial.pool e && not (stands_in (take l.entry-index l.gone) e));
  same : HaveSame (turned_back l.initial.pool l.initial.log) (turned_back l.pool l.log);
  come : l.log.come ≡ [];
}
