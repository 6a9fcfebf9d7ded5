-- Agreement.
use Rattle.std.specs.Prelude.{ℕ, List}
use Rattle.switch_meaning.specs.declared.entry.FlowEntry.{FlowEntry}
use Rattle.agreement.specs.declared.state.Setting.{Setting}
use Rattle.agreement.specs.Agree.{Agree, AreInstalled}
use Rattle.agreement.specs.Premises.{IsSoundSetting}

-- tables that are installed of a sound setting agree with it
abbrev pub Agreement : Type 0
Agreement = (s : Setting) → IsSoundSetting s → (tables : ℕ → List FlowEntry) → AreInstalled s tables → Agree s tables
