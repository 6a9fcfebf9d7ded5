-- A switch has one entry for each key.
use Rattle.std.specs.Prelude.{◌≡◌, ℕ, false, ◌==◌, Some, slice_get}
use Rattle.policy_meaning.specs.Disjoint.{IsOrderlyPolicy}
use Rattle.policy_meaning.specs.LeafFact.{EachPair}
use Rattle.policy_meaning.specs.Switches.{SwitchOf}
use Rattle.switch_meaning.specs.BatchLaw.{HasNoTwins, HasOneAKey}
use Rattle.switch_meaning.specs.Keys.{installed}
use Rattle.agreement.specs.declared.state.Setting.{Setting}
use Rattle.agreement.specs.Entries.{entries_of, ports_at}
use Rattle.agreement.specs.Premises.{IsSoundSetting}

-- no serial is named twice in a table, no member in an expression, and no port of a physical switch
pub record IsNamedOnce (s : Setting) : Type 0 where
  pub policies : (v : ℕ) (x : SwitchOf) → slice_get s.network.switches v ≡ Some x
      → IsOrderlyPolicy s.network.tables x.expr
  pub ports : (switch : ℕ) → EachPair (λ p q. (q == p) ≡ false) (ports_at s switch)

-- so no two entries of a switch have one match, priority and ancestry
abbrev pub NoTwins : Type 0
NoTwins = (s : Setting) → IsSoundSetting s → IsNamedOnce s → (switch : ℕ) → HasNoTwins (entries_of s switch)

-- and what is installed of them has one entry for each key
abbrev pub OneEntryAKey : Type 0
OneEntryAKey = (s : Setting) → IsSoundSetting s → IsNamedOnce s → (switch : ℕ)
    → HasOneAKey (installed (entries_of s switch))
