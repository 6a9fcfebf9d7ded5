-- What the messages to a switch make of its table.
use Rattle.std.specs.Prelude.{◌≡◌, Option, Some, List, [], ◌∷◌, ◌++◌, map, IsPermutation}
use Rattle.std.specs.List.{AllByRecursion}
use Rattle.install_plan.specs.Tables.{entries_in, entry_of}
use Rattle.install_plan.specs.declared.written.Batch.{Batch}
use Rattle.install_plan.specs.declared.written.Written.{Written}
use Rattle.of10_match.specs.Normal.{IsNormal}
use Rattle.of10_match.specs.Ranges.{IsMatch}
use Rattle.of10_match.specs.Wildcards.{normal_of}
use Rattle.of10_msgs.specs.Commands.{command_at}
use Rattle.of10_msgs.specs.declared.command.Command.{Command}
use Rattle.of10_msgs.specs.declared.command.Command.TheVariants as commands
use Rattle.of10_msgs.specs.declared.message.Body.{Body}
use Rattle.of10_msgs.specs.declared.message.Body.TheVariants.{BarrierRequest, FlowMod}
use Rattle.of10_msgs.specs.declared.message.FlowMod.{FlowMod as FlowModOf}
use Rattle.switch_meaning.specs.BatchLaw.{HasOneAKey, IsTableOf}
use Rattle.switch_meaning.specs.Batches.{difference}
use Rattle.switch_meaning.specs.Tables.{table_after_all}
use Rattle.switch_meaning.specs.declared.entry.Change.{Change}
use Rattle.switch_meaning.specs.declared.entry.Change.TheVariants.{Add, Delete, DeleteStrict}
use Rattle.switch_meaning.specs.declared.entry.FlowEntry.{FlowEntry}
use Rattle.switch_meaning.specs.declared.entry.PhysEntry.{PhysEntry}
use Rattle.switch_state.specs.Messages.{batch_messages, installation}

-- what a FLOW_MOD changes, of the commands that are written to switches
abbrev pub changes_by : Option Command → FlowModOf → List Change
changes_by (Some commands.Add) f = Add (record { m = normal_of f.m; priority = f.priority; actions = f.actions }) ∷ []
changes_by (Some commands.Delete) f = Delete (normal_of f.m) ∷ []
changes_by (Some commands.DeleteStrict) f = DeleteStrict (normal_of f.m) f.priority ∷ []
changes_by command f = []

-- what a message changes in a switch's table
abbrev pub changes_of : Body → List Change
changes_of (FlowMod f) = changes_by (command_at f.command) f
changes_of body = []

-- with changes before those up to the first barrier
abbrev pub in_first : List Change → List (List Change) → List (List Change)
in_first changes [] = changes ∷ []
in_first changes (first ∷ later) = (changes ++ first) ∷ later

-- the changes of messages, apart where a barrier stands between them
abbrev pub between_barriers : List Body → List (List Change)
between_barriers [] = [] ∷ []
between_barriers (BarrierRequest ∷ bodies) = [] ∷ between_barriers bodies
between_barriers (body ∷ bodies) = in_first (changes_of body) (between_barriers bodies)

-- a switch may go from one table to the other: it takes the changes between two barriers in any order
abbrev pub MayGo : List (List Change) → List FlowEntry → List FlowEntry → Type 0
MayGo [] old new = old ≡ new
MayGo (changes ∷ later) old new =
    (order : List Change) × IsPermutation changes order × MayGo later (table_after_all old order) new

-- and so by messages
abbrev pub MayMake : List Body → List FlowEntry → List FlowEntry → Type 0
MayMake bodies old new = MayGo (between_barriers bodies) old new

-- a switch reads the match as it is: its numbers are in range, and no field stands without its prerequisite
pub record IsReadable (w : Written) : Type 0 where
  pub in_range : IsMatch w.entry.m
  pub normal : IsNormal w.entry.m

-- the messages of a batch make the table that stands afterwards of that which stood before
abbrev pub BatchIsWritten : Type 0
BatchIsWritten =
    (before after : List PhysEntry) (b : Batch) → entries_in b ≡ difference before after
    → HasOneAKey before → HasOneAKey after
    → AllByRecursion IsReadable b.deletes → AllByRecursion IsReadable b.adds
    → (old new : List FlowEntry) → IsTableOf before old → MayMake (batch_messages b) old new → IsTableOf after new

-- those of an installation make it of whatever the switch had
abbrev pub InstallationIsWritten : Type 0
InstallationIsWritten =
    (after : List PhysEntry) (b : Batch) → b.deletes ≡ [] → IsPermutation after (map entry_of b.adds)
    → HasOneAKey after → AllByRecursion IsReadable b.adds
    → (old new : List FlowEntry) → MayMake (installation ++ batch_messages b) old new → IsTableOf after new
