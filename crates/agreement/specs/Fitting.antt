-- What is asked of a setting so that the entries of its switches can be made.
use Rattle.std.specs.Prelude.{ℕ, ◌<◌, ◌≤◌, ◌^◌, All, length}
use Rattle.policy_meaning.specs.Fitting.{IsFittingTable}
use Rattle.policy_meaning.specs.Hops.{hop_size}
use Rattle.policy_meaning.specs.Networks.{fabric_of}
use Rattle.switch_meaning.specs.Fixed.{AreTagsInRange}
use Rattle.agreement.specs.declared.state.Setting.{Setting}
use Rattle.alg_priority.specs.Sizes.{WIDEST}

-- the sizes over hops leave room for priorities
abbrev pub SizesFit : Setting → Type 0
SizesFit s = (v : ℕ) → hop_size (fabric_of s.network) s.hops v ≤ WIDEST

-- levels, kinds of leaves, numbers of virtual switches and tags fit their types, and packets have a hop
pub record IsFittingSetting (s : Setting) : Type 0 where
  pub tables : All IsFittingTable s.network.tables
  pub hops : 0 < s.hops
  pub switches : length s.network.switches < 2 ^ 32
  pub sizes : SizesFit s
  pub tags : AreTagsInRange s.wiring
