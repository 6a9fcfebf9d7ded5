-- Entries of a switch in memory, and what tells them apart.
use Rattle.std.specs.Prelude.{◌≡◌, ℕ, Bool, false, ◌==◌, ◌&&◌, ◌||◌, ◌%◌, not, List, map}
use Rattle.std.specs.List.{list_any}
use Rattle.match_index.specs.declared.item.Item.{Item}
use Rattle.of10_actions.specs.Actions.{AreInRange}
use Rattle.of10_actions.specs.Numbers.{NONE}
use Rattle.of10_actions.specs.declared.action.Action.{Action}
use Rattle.of10_actions.specs.declared.action.Action.TheVariants.{Output}
use Rattle.of10_match.specs.Same.{same_match}
use Rattle.of10_match.specs.Wildcards.{normal_of}
use Rattle.of10_msgs.specs.Ranges.{IsClear}
use Rattle.of10_msgs.specs.declared.message.FlowMod.{FlowMod}
use Rattle.switch_meaning.specs.MayUse.{rank_of}
use Rattle.switch_meaning.specs.Tables.{has_key}
use Rattle.switch_meaning.specs.declared.entry.FlowEntry.{FlowEntry}
use Rattle.soft_net.specs.declared.entry.Key.{Key}
use Rattle.soft_net.specs.declared.entry.SoftEntry.{SoftEntry}

-- the entry has the number
abbrev pub has_serial : ℕ → SoftEntry → Bool
has_serial serial e = serial == e.serial

-- what tells it apart
abbrev pub key_of : SoftEntry → Key
key_of e = record { m = e.flow.m; priority = e.flow.priority }

-- equal matches and equal priorities
abbrev pub same_key : Key → Key → Bool
same_key a b = same_match a.m b.m && (a.priority == b.priority)

-- the entry has the key
abbrev pub is_at : Key → SoftEntry → Bool
is_at k e = has_key k.m k.priority e.flow

-- its match and rank, as they are looked up
abbrev pub item_of : SoftEntry → Item
item_of e = record { id = e.serial; rank = rank_of e.flow; normal = e.flow.m }

-- the entries as the definitions of switches see them
abbrev pub flows : List SoftEntry → List FlowEntry
flows es = map (λ (e : SoftEntry). e.flow) es

-- what a FLOW_MOD describes
abbrev pub flow_in : FlowMod → FlowEntry
flow_in m = record { m = normal_of m.m; priority = m.priority; actions = m.actions }

-- the entry that a FLOW_MOD describes, with zero counts
abbrev pub entry_of : ℕ → FlowMod → SoftEntry
entry_of serial m = record {
  serial = serial;
  raw = m.m;
  flow = flow_in m;
  cookie = m.cookie;
  flags = m.flags;
  packets = 0;
  bytes = 0;
}

-- the action is an OUTPUT to this number
unfoldable pub is_output_to : ℕ → Action → Bool
is_output_to port (Output p max_len) = p == port
is_output_to port _ = false

-- no port is asked for, or the entry has an OUTPUT to that number as it is written
abbrev pub outputs_to : ℕ → SoftEntry → Bool
outputs_to port e = (port == NONE) || list_any (is_output_to port) e.flow.actions

-- a FLOW_REMOVED is to tell that it went: the lowest bit of its flags (section 5.3.3)
abbrev pub asks_removal : SoftEntry → Bool
asks_removal e = not (e.flags % 2 == 0)

-- an entry's match is as it was written, with zero padding, and the numbers of its actions are in their ranges
pub record IsAsWritten (e : SoftEntry) : Type 0 where
  pub clear : IsClear e.raw
  pub read : e.flow.m ≡ normal_of e.raw
  pub actions : AreInRange e.flow.actions
