-- Entries of rules, and a table after changes, computed.
use Rattle.std.specs.Prelude.{◌≡◌, ℕ, true, false, Option, Some, None, List, [], ◌∷◌, map, option_map}
use Rattle.of10_match.specs.Fields.{MatchOf}
use Rattle.of10_match.specs.Matching.{at_port, everything}
use Rattle.of10_actions.specs.Fields.{RewriteOf}
use Rattle.of10_actions.specs.Rewriting.{no_rewrite}
use Rattle.of10_actions.specs.declared.action.Action.{Action}
use Rattle.of10_actions.specs.declared.action.Action.TheVariants.{Output, SetNwDst, SetTpDst}
use Rattle.of10_actions.specs.declared.effects.Dest.{Dest}
use Rattle.of10_actions.specs.declared.effects.Dest.TheVariants.{Port, Flood, Ingress, Tell}
use Rattle.of10_actions.specs.declared.effects.Out.{Out}
use Rattle.switch_meaning.specs.Placing.{entry_of}
use Rattle.switch_meaning.specs.Tables.{table_after_all}
use Rattle.switch_meaning.specs.WorkedFlood.{spot}
use Rattle.switch_meaning.specs.declared.entry.Change.TheVariants.{Add, DeleteStrict, Delete}
use Rattle.switch_meaning.specs.declared.entry.FlatRule.{FlatRule}
use Rattle.switch_meaning.specs.declared.entry.FlowEntry.{FlowEntry}
use Rattle.switch_meaning.specs.declared.entry.PhysEntry.{PhysEntry}
use Rattle.switch_meaning.specs.declared.entry.Site.{Site}
use Rattle.switch_meaning.specs.declared.wiring.Outside.{Outside}
use Rattle.switch_meaning.specs.declared.wiring.Wiring.{Wiring}

-- the port of a virtual switch that is the port of that number of the one switch
abbrev pub same_port : ℕ → Outside
same_port p = record { v = 0; port = p; at = spot 0 p; tag = None }

-- four ports of one switch
abbrev pub one_switch : Wiring
one_switch = record { outside = map same_port (1 ∷ 2 ∷ 3 ∷ 4 ∷ []); cables = []; next_hops = [] }

-- the virtual switch, with rules for each port
abbrev pub port_site : Site
port_site = record { v = 0; switch = 0; spread = false; whole = false }

-- the same with one rule for all ports
abbrev pub whole_site : Site
whole_site = record { v = 0; switch = 0; spread = false; whole = true }

-- an out that goes there as the rewrite makes the packet
abbrev pub to : RewriteOf → Dest → Out
to r dest = record { rewrite = r; dest = dest }

-- a rule of a level, with these outs
abbrev pub rule : MatchOf → ℕ → List Out → FlatRule
rule m level outs = record { m = m; level = level; outs = outs; ancestry = [] }

-- priority and actions of the entry that a rule becomes
abbrev pub placed : Site → FlatRule → Option (ℕ × List Action)
placed site r = option_map (λ (e : PhysEntry). (e.priority, e.actions)) (entry_of one_switch site r)

-- nw_dst 2.0.0.1
abbrev pub to_server : RewriteOf
to_server = record no_rewrite { nw_dst = Some 0x02000001 }

-- the same, with the port 80
abbrev pub to_service : RewriteOf
to_service = record to_server { tp_dst = Some 80 }

-- the balancer's set, and then its output
abbrev pub BalancerIsPlaced : Type 0
BalancerIsPlaced = placed port_site (rule (at_port 2) 36 (to to_server (Port 0 1) ∷ []))
    ≡ Some (37, SetNwDst 0x02000001 ∷ Output 1 0 ∷ [])

-- three hops that end at the port where the packet came in
abbrev pub IngressIsWritten : Type 0
IngressIsWritten = placed port_site (rule (at_port 1) 2336 (to no_rewrite (Port 0 1) ∷ []))
    ≡ Some (2337, Output 0xfff8 0 ∷ [])

-- two are told, which is one copy, the first; a field is set where its value changes, and only for a port
abbrev pub OneCopyFirst : Type 0
OneCopyFirst =
    placed port_site
    (rule (at_port 1) 4 (to no_rewrite (Port 0 2) ∷ to to_server (Tell 3 1) ∷ to to_service (Port 0 3)
    ∷ to to_service (Port 0 4) ∷ to to_service (Tell 4 0) ∷ []))
    ≡ Some (5, Output 0xfffd 65535 ∷ Output 2 0 ∷ SetNwDst 0x02000001 ∷ SetTpDst 80 ∷ Output 3 0 ∷ Output 4 0 ∷ [])

-- one rule for all ports: with a port named nothing is sent back to it but to the ingress; else every out is written
abbrev pub WholeIsPlaced : Type 0
WholeIsPlaced =
    let outs = to no_rewrite (Flood 0 1) ∷ to no_rewrite (Flood 0 2) ∷ to no_rewrite Ingress ∷ [] in
    (placed whole_site (rule (at_port 1) 4 outs) ≡ Some (5, Output 2 0 ∷ Output 0xfff8 0 ∷ []))
    × (placed whole_site (rule everything 4 outs) ≡ Some (5, Output 1 0 ∷ Output 2 0 ∷ Output 0xfff8 0 ∷ []))

-- an entry of a table
abbrev pub entry : MatchOf → ℕ → List Action → FlowEntry
entry m priority actions = record { m = m; priority = priority; actions = actions }

-- an entry takes the place of one with its match and priority; only that one is deleted strictly
abbrev pub TableIsChanged : Type 0
TableIsChanged =
    table_after_all (entry everything 0 [] ∷ [])
    (Delete everything ∷ Add (entry (at_port 1) 7 []) ∷ Add (entry (at_port 1) 7 (Output 2 0 ∷ []))
    ∷ Add (entry (at_port 1) 8 []) ∷ Add (entry (at_port 2) 7 []) ∷ DeleteStrict (at_port 1) 8 ∷ Delete (at_port 2)
    ∷ [])
    ≡ entry (at_port 1) 7 (Output 2 0 ∷ []) ∷ []
