-- The settings of a policy's states are as the composed part asks.
use Rattle.std.specs.Prelude.{List, ◌<◌, ◌^◌, length}
use Rattle.agreement.specs.Fitting.{IsFittingSetting}
use Rattle.composed_tables.specs.Composing.{ComposedOf, IsGood, IsOf}
use Rattle.composed_tables.specs.Rules.{IsReadyFor}
use Rattle.policy_expr.specs.Policy.{Policy}
use Rattle.policies.specs.Policies.{PolicyOf, plan}
use Rattle.policies.specs.Sound.{IsSound}
use Rattle.machine_meaning.specs.Settings.{setting_of, setting_with}
use Rattle.machine_meaning.specs.Sound.{AreSoundTables}
use Rattle.machine_meaning.specs.States.{MemberOf, State, SwitchOf}

-- all that is asked of a setting before it is composed
pub record IsReady (p : PolicyOf) (s : State) : Type 0 where
  pub good : IsGood (setting_of p s)
  pub fits : IsFittingSetting (setting_of p s)
  pub ready : IsReadyFor (plan p) (setting_of p s)
  pub few : length (setting_of p s).switches < 2 ^ 32

abbrev pub SettingsAreReady : Type 0
SettingsAreReady = (p : PolicyOf) → IsSound p → (s : State) → AreSoundTables p s → IsReady p s

-- what is kept of a setting is kept of it with other switches that are up
abbrev pub UpsAreFree : Type 0
UpsAreFree =
    (p : PolicyOf) (exprs : List Policy) (members : List MemberOf) (one other : List SwitchOf) (c : ComposedOf)
    → IsOf (setting_with p exprs members one) c → IsOf (setting_with p exprs members other) c
