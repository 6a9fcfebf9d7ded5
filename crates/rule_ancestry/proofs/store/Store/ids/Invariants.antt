use Rattle.std.proofs.Common.{◌≡◌, ◌++◌, ℕ}
use Rattle.std.specs.Prelude.{map}
use Rattle.rule_ancestry.proofs.store.Store.ids.Given as goal

abbrev pub invariant-loop-id : goal.invariant-loop-id
invariant-loop-id g l = l.ids.items ++ map (λ e. e.0) l.id-iterator ≡ map (λ e. e.0) l.initial.id-iterator
