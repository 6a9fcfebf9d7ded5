-- The rules of a member's table.
use Rattle.std.specs.Prelude.{ℕ, Bool, true, false, ◌+◌, ◌||◌, not, Option, Some, None, List, [], ◌∷◌, ◌++◌}
use Rattle.std.specs.Prelude.{if◌then◌else◌, map, filter_map, flat_map, option_map}
use Rattle.std.specs.List.{list_any}
use Rattle.of10_match.specs.Fields.{MatchOf}
use Rattle.of10_match.specs.Matching.{at_port, meet, everything, each}
use Rattle.of10_actions.specs.declared.effects.Tail.TheVariants.{Nothing}
use Rattle.policy_meaning.specs.Leaf.{has_port, miss_outs}
use Rattle.policy_meaning.specs.declared.leaf.LeafEntry.{LeafEntry}
use Rattle.policy_meaning.specs.declared.leaf.LeafTable.{LeafTable}
use Rattle.policy_meaning.specs.declared.rule.Rule.{Rule}

-- nothing is asked of this field
abbrev pub is_open : {A : Type 0} → Option A → Bool
is_open None = true
is_open (Some x) = false

-- the match holds every header
abbrev pub is_everything : MatchOf → Bool
is_everything m =
    each (is_open m.in_port) (is_open m.dl_src) (is_open m.dl_dst) (is_open m.dl_vlan) (is_open m.dl_vlan_pcp)
    (is_open m.dl_type) (is_open m.nw_tos) (is_open m.nw_proto) (is_open m.nw_src) (is_open m.nw_dst)
    (is_open m.tp_src) (is_open m.tp_dst)

-- the rule, narrowed to what the match holds too, or none where no header is in both
abbrev pub rule_met : Rule → MatchOf → Option Rule
rule_met a n = option_map (λ m. record a { m = m }) (meet a.m n)

-- some port of the virtual switch is hidden from the member
abbrev pub hides : List ℕ → LeafTable → Bool
hides ports t = list_any (λ p. not (has_port t.visible p)) ports

-- a box, cut into one part for each visible port
abbrev pub cut : List ℕ → MatchOf → List MatchOf
cut visible box = filter_map (λ p. meet box (at_port p)) visible

-- where the member acts: its region, cut by the visible ports where a port is hidden
abbrev pub cells : List ℕ → LeafTable → List MatchOf
cells ports t = if hides ports t then flat_map (cut t.visible) t.region else t.region

-- the rule in each cell that it meets
abbrev pub in_cells : List MatchOf → Rule → List Rule
in_cells cells a = filter_map (rule_met a) cells

-- the rule of an entry, for any header
abbrev pub entry_rule : LeafTable → LeafEntry → Rule
entry_rule t e = record {
  m = e.m;
  level = e.level;
  touched = true;
  outs = e.effects.outs;
  tail = e.effects.tail;
  ancestry = record { member = t.member; kind = 2 + e.serial } ∷ [];
}

-- the rule of a miss, for any header
abbrev pub miss_rule : LeafTable → Rule
miss_rule t = record {
  m = everything;
  level = 1;
  touched = false;
  outs = miss_outs t;
  tail = Nothing;
  ancestry = record { member = t.member; kind = 1 } ∷ [];
}

-- the rule of what the member may not act on, below all others
abbrev pub outside_rule : LeafTable → Rule
outside_rule t = record {
  m = everything;
  level = 0;
  touched = false;
  outs = [];
  tail = Nothing;
  ancestry = record { member = t.member; kind = 0 } ∷ [];
}

-- something is outside: no box holds everything, or a port is hidden
abbrev pub has_outside : List ℕ → LeafTable → Bool
has_outside ports t = not (list_any is_everything t.region) || hides ports t

-- the rules of a member's table at a virtual switch of these ports
abbrev pub leaf_rules : List ℕ → LeafTable → List Rule
leaf_rules ports t =
    (if has_outside ports t then outside_rule t ∷ [] else [])
    ++ flat_map (in_cells (cells ports t)) (miss_rule t ∷ map (entry_rule t) t.entries)
