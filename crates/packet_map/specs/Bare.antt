-- What following packets doesn't look at: levels, and whether a virtual switch is all of its physical one.
use Rattle.std.specs.Prelude.{◌≡◌, ℕ, false, List, map, option_map}
use Rattle.of10_match.specs.Fields.{HeaderOf}
use Rattle.of10_actions.specs.declared.effects.PortView.{PortView}
use Rattle.member_table.specs.Best.{best_entry as best_of_table}
use Rattle.member_table.specs.declared.entry.Entry.{Entry}
use Rattle.policy_meaning.specs.Leaf.{best_entry}
use Rattle.policy_meaning.specs.Networks.{ground_of}
use Rattle.policy_meaning.specs.Switches.{SwitchOf}
use Rattle.policy_meaning.specs.Walk.{walk}
use Rattle.policy_meaning.specs.declared.leaf.LeafEntry.{LeafEntry}
use Rattle.policy_meaning.specs.declared.leaf.LeafTable.{LeafTable}
use Rattle.policy_meaning.specs.declared.network.Network.{Network}
use Rattle.packet_map.specs.Networks.{LevelsOf, leaf_entry}

-- an entry without its level
abbrev pub bare_entry : LeafEntry → LeafEntry
bare_entry e = record e { level = 0 }

-- a table without its levels
abbrev pub bare_table : LeafTable → LeafTable
bare_table t = record t { size = 0; entries = map bare_entry t.entries }

-- a virtual switch, whether it is whole or not
abbrev pub bare_switch : SwitchOf → SwitchOf
bare_switch s = record s { whole = false }

-- a network without what walks don't look at
abbrev pub bare : Network → Network
bare net = record { tables = map bare_table net.tables; switches = map bare_switch net.switches }

-- networks that differ in nothing else have the same walks
abbrev pub WalksAreBare : Type 0
WalksAreBare = (a b : Network) → bare a ≡ bare b → (n v : ℕ) (h : HeaderOf)
    → walk (ground_of a) n v h ≡ walk (ground_of b) n v h

-- the entry that a member's table finds is the best one of its leaf, whatever the levels
abbrev pub BestIsTheLeafs : Type 0
BestIsTheLeafs =
    (levels : LevelsOf) (i : ℕ) (view : PortView) (es : List Entry) (h : HeaderOf)
    → best_entry (map (leaf_entry levels i view) es) h ≡ option_map (leaf_entry levels i view) (best_of_table es h)
