-- Why a member's FLOW_MOD is refused, once its form isn't.
use Rattle.std.specs.Prelude.{◌≡◌, ℕ, Bool, ◌&&◌, ◌==◌, ◌-◌, List, [], ◌∷◌, Option, Some, None, is_none, length}
use Rattle.std.specs.Prelude.{option_map}
use Rattle.of10_actions.specs.declared.effects.PortView.{PortView}
use Rattle.of10_msgs.specs.declared.message.FlowMod.{FlowMod}
use Rattle.grants.specs.Denials.{denial_of}
use Rattle.grants.specs.Rows.{first_of, flow_denial, when}
use Rattle.grants.specs.declared.denial.Denial.{Denial}
use Rattle.grants.specs.declared.denial.Detail.TheVariants.{Overlap, Entries, Budget}
use Rattle.grants.specs.declared.grant.Grant.{Grant}
use Rattle.level_map.specs.Levels.{Levels, level_of}
use Rattle.member_table.specs.Planning.{change_of}
use Rattle.member_table.specs.Refusals.{refusal}
use Rattle.member_table.specs.Tables.{TableOf}
use Rattle.member_table.specs.declared.entry.Entry.{Entry}
use Rattle.member_table.specs.declared.fault.TableFault.{TableFault}
use Rattle.member_table.specs.declared.fault.TableFault.TheVariants as faults
use Rattle.member_state.specs.States.{MemberStateOf}
use Rattle.member_state.specs.declared.fault.FlowFault.{FlowFault}
use Rattle.member_state.specs.declared.fault.FlowFault.TheVariants.{Denied, Memory}

-- overlap and entries: what the table refuses
abbrev pub table_row : Option TableFault → Option Denial
table_row None = None
table_row (Some (faults.Overlap serial)) = Some (denial_of (Overlap serial))
table_row (Some (faults.Entries limit)) = Some (denial_of (Entries limit))
table_row (Some faults.Memory) = None

-- the rank of the entry that a message adds, if it adds one, whatever the moment
abbrev pub rank_added : TableOf → FlowMod → Option ℕ
rank_added t m = option_map (λ (e : Entry). e.rank) (change_of t m 0).added

-- the rank has no level, and all levels but those of what lies outside and of a miss are taken
abbrev pub gets_no_level : Levels → ℕ → Bool
gets_no_level l rank = is_none (level_of l rank) && (length l.ranked == l.size - 2)

-- budget: the entry that comes gets no level
abbrev pub budget_row : Levels → Option ℕ → Option Denial
budget_row l None = None
budget_row l (Some rank) = when (gets_no_level l rank) (Budget (length l.ranked) (l.size - 2))

-- the first row that applies: those of the grant at a virtual switch of these ports, then overlap, entries, budget
abbrev pub denial : Grant → PortView → MemberStateOf → FlowMod → Option Denial
denial g v x m =
    first_of (flow_denial g v m ∷ table_row (refusal x.table m) ∷ budget_row x.levels (rank_added x.table m) ∷ [])

-- a fault is the denial, unless memory ran out
abbrev pub IsFaultOf : Option Denial → FlowFault → Type 0
IsFaultOf denied (Denied d) = denied ≡ Some d
IsFaultOf denied Memory = Unit {0}
