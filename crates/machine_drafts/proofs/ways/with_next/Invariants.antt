use Rattle.std.proofs.Common.{◌≡◌, ◌||◌, ◌++◌, ℕ, drop}
use Rattle.std.specs.Prelude.{filter}
use Rattle.grants.specs.Ports.{is_one_of}
use Rattle.machine_meaning.specs.Lists.{places}
use Rattle.machine_meaning.specs.Ways.{is_next, with_next}
use Rattle.machine_drafts.proofs.ways.with_next.Given as goal

-- those so far, and then those of the virtual switches that are left
abbrev pub invariant-loop-u : goal.invariant-loop-u
invariant-loop-u l =
    l.wider ++ filter (λ (u : ℕ). is_one_of l.group u || is_next l.topology l.group u)
    (drop l.u (places l.topology.virtuals)) ≡ with_next l.topology l.group
