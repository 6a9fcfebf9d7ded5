-- The program's rows of keys and its references to values as definitions see them.
use denote.Ref.{Bor}
use Rattle.std.specs.Prelude.{Option, option_map}
use Rattle.toml.specs.Data.{Data}
use Rattle.toml.specs.View.{view}
use Rattle.toml.specs.declared.value.Value.{Value}
use Rattle.policy_file.specs.declared.keys.KeyRow.{KeyRow}
use Rattle.policy_file.specs.Keys.{Row}

abbrev pub shown_row : KeyRow → Row
shown_row row = record { key = row.key.now; needed = row.needed; only = row.only }

-- what a value that may stand is
abbrev pub shown_value : Option (Bor Value) → Option Data
shown_value = option_map (λ v. view v.now)
