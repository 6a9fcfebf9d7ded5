-- What a PACKET_OUT of a member gives (section 5.3.6 of the standard): its actions are done as if the packet had come
-- by
-- its in_port, and where the list ends at a link port or at TABLE, the policy takes the packet up.
use Rattle.std.specs.Prelude.{ℕ, nat_lt, Option, Some, None, if◌then◌else◌, List, [], ◌∷◌, filter_map, option_map}
use Rattle.std.specs.Prelude.{slice_get}
use Rattle.std.specs.Option.{option_or}
use Rattle.of10_match.specs.Fields.{HeaderOf}
use Rattle.of10_actions.specs.Effects.{effects_of, set_by}
use Rattle.of10_actions.specs.Fields.{RewriteOf}
use Rattle.of10_actions.specs.Numbers.{MAX}
use Rattle.of10_actions.specs.Rewriting.{and_then, no_rewrite}
use Rattle.of10_actions.specs.declared.action.Action.{Action}
use Rattle.of10_actions.specs.declared.effects.Dest.{Dest}
use Rattle.of10_actions.specs.declared.effects.Out.{Out}
use Rattle.of10_actions.specs.declared.effects.PortView.{PortView}
use Rattle.of10_actions.specs.declared.effects.Tail.{Tail}
use Rattle.of10_msgs.specs.declared.message.PacketOut.{PacketOut}
use Rattle.grants.specs.Rows.{is_to_table}
use Rattle.grants.specs.declared.grant.Grant.{Grant}
use Rattle.policy_meaning.specs.HopFact.{leaving}
use Rattle.policy_meaning.specs.Hops.{leads}
use Rattle.policy_meaning.specs.Networks.{ground_of}
use Rattle.policy_meaning.specs.Walk.{both_walked, nowhere, port_out, telling, walk, what_follows}
use Rattle.policy_meaning.specs.declared.network.Link.{Link}
use Rattle.policy_meaning.specs.declared.network.Onward.{Onward}
use Rattle.policy_meaning.specs.declared.walking.PortOut.{PortOut}
use Rattle.policy_meaning.specs.declared.walking.Walked.{Walked}
use Rattle.packet_map.specs.Networks.{links_of, network_of}
use Rattle.packet_map.specs.declared.world.World.{World}

-- the port by which the packet came; the numbers above those of ports stand for none
abbrev pub ingress_of : ℕ → Option ℕ
ingress_of in_port = if nat_lt in_port MAX then Some in_port else None

-- the packet that leaves by an out: where it came by no port, none is left out, and the ingress is none
abbrev pub emitted : ℕ → Option ℕ → RewriteOf → Dest → Option PortOut
emitted v (Some in_port) r dest = port_out v in_port r dest
emitted v None r dest = leaving r dest

-- what outs give; who is told is told the in_port as it was given
abbrev pub given : ℕ → Option ℕ → ℕ → List Out → Walked
given v ingress in_port outs = record {
  outs = filter_map (λ (o : Out). emitted v ingress o.rewrite o.dest) outs;
  told = filter_map (λ (o : Out). telling in_port o.rewrite o.dest) outs;
}

-- the rewrite in force at an output to TABLE, if there is one
abbrev pub table_from : RewriteOf → List Action → Option RewriteOf
table_from r [] = None
table_from r (action ∷ actions) = if is_to_table action then Some r else table_from (and_then r (set_by action)) actions

-- the place of the in_port itself, with a rewrite
abbrev pub at_table : ℕ → ℕ → RewriteOf → Onward
at_table v in_port r = record { rewrite = r; place = record { v = v; port = in_port } }

-- where the policy takes the packet up: beyond the link, or at the in_port
abbrev pub taken_up : List Link → ℕ → Tail → PacketOut → Option Onward
taken_up links v tail m = option_or (leads tail links m.in_port)
    (option_map (at_table v m.in_port) (table_from no_rewrite m.actions))

-- what a PACKET_OUT of the member of this number, which sees these ports, gives for data of this header
abbrev pub sent_by : World → ℕ → PortView → PacketOut → HeaderOf → Walked
sent_by w member view m h =
    both_walked (given view.v (ingress_of m.in_port) m.in_port (effects_of view member m.actions).outs)
    (what_follows (taken_up (links_of w.topology.now view.v) view.v (effects_of view member m.actions).tail m)
    (walk (ground_of (network_of w)) w.hops) h)

-- without a grant there is no member
abbrev pub sent_under : Option Grant → World → ℕ → PacketOut → HeaderOf → Walked
sent_under None w member m h = nowhere
sent_under (Some g) w member m h = sent_by w member g.ports m h

abbrev pub sent_of : World → ℕ → PacketOut → HeaderOf → Walked
sent_of w member m h = sent_under (slice_get w.grants.now member) w member m h
