-- A table of ports of which the rules of the virtual switches are known.
use Rattle.std.specs.Prelude.{◌≡◌, ℕ, false, ◌<◌, IsPermutation, List, length, slice_index_or}
use Rattle.policy_meaning.specs.declared.rule.Rule.{Rule}
use Rattle.hop_rules.specs.Tables.{TableOf, is_whole, rules_at}

-- the table isn't lost, and a virtual switch, of 8 levels and not whole, has these rules, in any order
pub record IsHolding (t : TableOf) (v : ℕ) (held : List Rule) : Type 0 where
  pub kept : t.lost ≡ false
  pub there : v < length t.sizes
  pub size : slice_index_or t.sizes v 1 ≡ 8
  pub parted : is_whole t v ≡ false
  pub rules : IsPermutation (rules_at t v) held

-- the same of two virtual switches
pub record AreHeld (t : TableOf) (first second : List Rule) : Type 0 where
  pub one : IsHolding t 0 first
  pub other : IsHolding t 1 second
