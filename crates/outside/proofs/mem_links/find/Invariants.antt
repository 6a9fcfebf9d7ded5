use Rattle.std.proofs.Common.{◌≡◌, drop}
use Rattle.outside.specs.InMemory.{end_of}
use Rattle.outside.proofs.mem_links.find.Given as goal

abbrev pub invariant-loop-item : goal.invariant-loop-item
invariant-loop-item l = end_of l.ends l.end ≡ end_of (drop l.item-index l.ends) l.end
