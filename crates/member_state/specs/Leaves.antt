-- A member's table as composition reads it.
use Rattle.std.specs.Prelude.{ℕ, Option, Some, None}
use Rattle.of10_actions.specs.declared.effects.PortView.{PortView}
use Rattle.grants.specs.declared.grant.Grant.{Grant}
use Rattle.level_map.specs.Levels.{Levels, level_of}
use Rattle.member_table.specs.declared.entry.Entry.{Entry}
use Rattle.packet_map.specs.Networks.{LevelsOf, leaf_entry, leaf_table}
use Rattle.policy_meaning.specs.declared.leaf.LeafEntry.{LeafEntry}
use Rattle.policy_meaning.specs.declared.leaf.LeafTable.{LeafTable}
use Rattle.member_state.specs.States.{MemberStateOf}

-- the level, or 0 where there is none
abbrev pub level_or_zero : Option ℕ → ℕ
level_or_zero None = 0
level_or_zero (Some level) = level

-- levels as leaf tables read them
abbrev pub levels_of : Levels → LevelsOf
levels_of l = record { size = l.size; level = λ rank. level_or_zero (level_of l rank) }

-- an entry with its level, of the member of this number, which sees these ports
abbrev pub leaf_by : Levels → ℕ → PortView → Entry → LeafEntry
leaf_by l i view e = leaf_entry (levels_of l) i view e

-- the leaf table of the member of this number, with its levels
abbrev pub leaf_of : ℕ → Grant → MemberStateOf → LeafTable
leaf_of i g x = leaf_table (levels_of x.levels) i g x.table.entries
