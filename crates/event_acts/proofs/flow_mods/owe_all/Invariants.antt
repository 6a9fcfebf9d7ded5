use Rattle.std.proofs.Common.{◌≡◌, ◌++◌, map}
use Rattle.member_table.specs.declared.entry.Entry.{Entry}
use Rattle.event_acts.proofs.flow_mods.owe_all.Given as goal

abbrev pub invariant-loop-entry : goal.invariant-loop-entry
invariant-loop-entry l = record {
  base : l.owed.base ≡ l.fn.owed.base;
  now : l.owed.now
      ≡ l.fn.owed.now
      ++ map (λ (e : Entry). record { member = l.n; entry = e; reason = l.reason; moment = l.moment }) l.yielded;
}
