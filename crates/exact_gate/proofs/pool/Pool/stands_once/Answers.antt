use Rattle.std.proofs.Common.{List, subst}
use Rattle.std.specs.List.{IsDistinct}
use Rattle.switch_meaning.specs.Same.{same_entry}
use Rattle.switch_meaning.specs.declared.entry.PhysEntry.{PhysEntry}
use Rattle.exact_gate.proofs.Once.{buckets-once}
use Rattle.exact_gate.proofs.pool.Pool.stands_once.Goals as goal

pub returns : goal.returns
returns c =
    let D : List PhysEntry → Type 0 = IsDistinct same_entry in
    subst D c.self.view_is (buckets-once c.self.inside.buckets.entries c.self.invariant.0)
