-- How many bytes the actions of entries have, so that each ADD fits a message.
use Rattle.std.specs.Prelude.{◌≡◌, ℕ, ◌+◌, ◌*◌, ◌<◌, ◌≤◌, ◌^◌, Some, length, slice_get}
use Rattle.std.specs.List.{AllByRecursion}
use Rattle.of10_actions.specs.Spelling.{spellings}
use Rattle.policy_expr.specs.Sizes.{leaf_count}
use Rattle.policy_meaning.specs.Switches.{SwitchOf}
use Rattle.policy_meaning.specs.Written.{EntriesAreWrittenBy}
use Rattle.switch_meaning.specs.Keys.{installed}
use Rattle.switch_meaning.specs.declared.entry.PhysEntry.{PhysEntry}
use Rattle.agreement.specs.declared.state.Setting.{Setting}
use Rattle.agreement.specs.Entries.{entries_of}
use Rattle.agreement.specs.Premises.{IsSoundSetting}

-- the bytes of an entry's actions
abbrev pub bytes_of : PhysEntry → ℕ
bytes_of e = length (spellings e.actions)

-- no expression has more leaves, and no entry of a member is written by more actions
pub record IsWrittenWithin (s : Setting) (most each : ℕ) : Type 0 where
  pub leaves : (v : ℕ) (x : SwitchOf) → slice_get s.network.switches v ≡ Some x → leaf_count x.expr ≤ most
  pub actions : AllByRecursion (EntriesAreWrittenBy each) s.network.tables

-- an entry's actions have at most 16 bytes for each action that may stand in a member's entry, each leaf and each hop,
-- and
-- 8 for a telling
abbrev pub ListsAreShort : Type 0
ListsAreShort =
    (s : Setting) (most each : ℕ) → 0 < most → 0 < each → IsSoundSetting s → IsWrittenWithin s most each
    → (switch : ℕ) → AllByRecursion (λ e. bytes_of e ≤ 16 * (each * (s.hops * most)) + 8) (entries_of s switch)

-- the limits of policies: four hops, twelve leaves, 64 actions
pub record HasLimits (s : Setting) : Type 0 where
  pub hops : s.hops ≤ 4
  pub within : IsWrittenWithin s 12 64

-- beside its actions an ADD has 72 bytes
abbrev pub AddFits : PhysEntry → Type 0
AddFits e = 72 + bytes_of e < 2 ^ 16

-- within these limits each entry's ADD fits a message
abbrev pub AddsFit : Type 0
AddsFit =
    (s : Setting) → IsSoundSetting s → HasLimits s
    → (switch : ℕ) → AllByRecursion AddFits (entries_of s switch)
    × AllByRecursion AddFits (installed (entries_of s switch))
