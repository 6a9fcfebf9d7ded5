-- What stands on a switch of the entries that are put there.
use Rattle.std.specs.Prelude.{List}
use Rattle.install_plan.specs.Tables.{IsTable}
use Rattle.switch_meaning.specs.BatchLaw.{HasNoTwins}
use Rattle.switch_meaning.specs.declared.entry.PhysEntry.{PhysEntry}
use Rattle.switch_tables.specs.Tables.{HasNow, Stands, SwitchTableOf}

-- what stands on a switch that has these entries is what is installed of them
abbrev pub StandsAsInstalled : Type 0
StandsAsInstalled =
    (entries : List PhysEntry) (x : SwitchTableOf) → HasNoTwins entries → HasNow entries x → IsTable x.installed.now
    → Stands entries x.installed.now
