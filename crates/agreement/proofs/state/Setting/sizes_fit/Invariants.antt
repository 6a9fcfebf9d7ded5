use Rattle.std.proofs.Common.{ℕ, ◌<◌, ◌≤◌}
use Rattle.policy_meaning.specs.Hops.{hop_size}
use Rattle.policy_meaning.specs.Networks.{fabric_of}
use Rattle.alg_priority.specs.Sizes.{WIDEST}
use Rattle.agreement.proofs.state.Setting.sizes_fit.Given as goal

abbrev pub invariant-loop-v : goal.invariant-loop-v
invariant-loop-v l = (u : ℕ) → u < l.v → hop_size (fabric_of l.self.network) l.self.hops u ≤ WIDEST
