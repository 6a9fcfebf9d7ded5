use Rattle.std.proofs.Common.{◌≡◌, ◌++◌, drop}
use Rattle.std.specs.Prelude.{filter, not}
use Rattle.std.specs.List.{list_any}
use Rattle.switch_meaning.specs.Keys.{passes_over, passing}
use Rattle.switch_meaning.specs.declared.entry.PhysEntry.{PhysEntry}
use Rattle.switch_meaning.proofs.keys.passing.Given as goal

-- what was kept, and then what is kept of the entries that are left
abbrev pub invariant-loop-entry : goal.invariant-loop-entry
invariant-loop-entry l =
    l.kept ++ filter (λ (e : PhysEntry). not (list_any (λ (d : PhysEntry). passes_over d e) l.entries))
    (drop l.entry-index l.entry-items) ≡ passing l.entries
