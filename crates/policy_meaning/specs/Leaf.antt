-- What a member's table means for a header: outside, an entry's effects, or a miss.
use Rattle.std.specs.Prelude.{ℕ, Bool, true, false, ◌==◌, ◌&&◌, Option, Some, None, List, [], ◌∷◌, if◌then◌else◌}
use Rattle.std.specs.List.{list_any}
use Rattle.of10_match.specs.Fields.{HeaderOf}
use Rattle.of10_match.specs.Highest.{highest}
use Rattle.of10_match.specs.Matching.{holds}
use Rattle.of10_actions.specs.Rewriting.{no_rewrite}
use Rattle.of10_actions.specs.declared.effects.Out.{Out}
use Rattle.of10_actions.specs.declared.effects.Tail.TheVariants.{Nothing}
use Rattle.of10_actions.specs.declared.effects.Dest.TheVariants.{Tell}
use Rattle.policy_meaning.specs.declared.leaf.LeafEntry.{LeafEntry}
use Rattle.policy_meaning.specs.declared.leaf.LeafTable.{LeafTable}
use Rattle.policy_meaning.specs.declared.meaning.Meaning.{Meaning}

-- the port is one of these
abbrev pub has_port : List ℕ → ℕ → Bool
has_port ports p = list_any (λ q. q == p) ports

-- a box of the member's region holds the header, and the member sees the port by which it came
abbrev pub is_inside : LeafTable → HeaderOf → Bool
is_inside t h = list_any (λ box. holds box h) t.region && has_port t.visible h.in_port

-- the entry of the highest rank that holds the header
abbrev pub best_entry : List LeafEntry → HeaderOf → Option LeafEntry
best_entry es h = highest (λ (e : LeafEntry). holds e.m h) (λ (e : LeafEntry). e.rank) es

-- nothing is done
abbrev pub outside : Meaning
outside = record { touched = false; outs = []; tail = Nothing }

-- of a packet that no entry holds the member is told, with the reason NO_MATCH, where its grant has misses
abbrev pub miss_outs : LeafTable → List Out
miss_outs t = if t.misses then record { rewrite = no_rewrite; dest = Tell t.member 0 } ∷ [] else []

-- what is done by the best entry, or where there is none
abbrev pub by_entry : LeafTable → Option LeafEntry → Meaning
by_entry t None = record { touched = false; outs = miss_outs t; tail = Nothing }
by_entry t (Some e) = record { touched = true; outs = e.effects.outs; tail = e.effects.tail }

-- what a member's table does to the packets of a header
abbrev pub leaf_meaning : LeafTable → HeaderOf → Meaning
leaf_meaning t h = if is_inside t h then by_entry t (best_entry t.entries h) else outside
