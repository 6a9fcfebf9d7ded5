-- The way of a packet over virtual switches, by what their expressions do.
use Rattle.std.specs.Prelude.{ℕ, zero, suc, Bool, ◌==◌, ◌&&◌, not, Option, Some, None, List, [], ◌++◌, if◌then◌else◌}
use Rattle.std.specs.Prelude.{map, filter_map}
use Rattle.of10_match.specs.Fields.{HeaderOf}
use Rattle.of10_match.specs.Numbers.{UNTAGGED}
use Rattle.of10_actions.specs.Fields.{RewriteOf}
use Rattle.of10_actions.specs.Rewriting.{apply, and_then}
use Rattle.of10_actions.specs.declared.effects.Out.{Out}
use Rattle.of10_actions.specs.declared.effects.Dest.{Dest}
use Rattle.of10_actions.specs.declared.effects.Dest.TheVariants.{Port, Flood, Ingress, Tell}
use Rattle.policy_meaning.specs.Hops.{leads}
use Rattle.policy_meaning.specs.declared.meaning.Meaning.{Meaning}
use Rattle.policy_meaning.specs.declared.network.Onward.{Onward}
use Rattle.policy_meaning.specs.declared.network.Link.{Link}
use Rattle.policy_meaning.specs.declared.walking.PortOut.{PortOut}
use Rattle.policy_meaning.specs.declared.walking.Told.{Told}
use Rattle.policy_meaning.specs.declared.walking.Walked.{Walked}

-- the virtual switches as a walk sees them: what their expressions do, the links, and which are spread
pub record Ground : Type 0 where
  pub means : ℕ → HeaderOf → Meaning
  pub links : ℕ → List Link
  pub spread : ℕ → Bool

-- nothing leaves, and nobody is told
abbrev pub nowhere : Walked
nowhere = record { outs = []; told = [] }

-- a packet that leaves at a virtual switch by these, where it came in by a port: not by that port, unless to the
-- ingress
abbrev pub port_out : ℕ → ℕ → RewriteOf → Dest → Option PortOut
port_out v in_port r (Port w p) = if (w == v) && (p == in_port) then None
    else Some (record { v = w; port = p; rewrite = r })
port_out v in_port r (Flood w p) = if (w == v) && (p == in_port) then None
    else Some (record { v = w; port = p; rewrite = r })
port_out v in_port r Ingress = Some (record { v = v; port = in_port; rewrite = r })
port_out v in_port r (Tell member reason) = None

-- what a member is told, where the packet came in by a port
abbrev pub telling : ℕ → RewriteOf → Dest → Option Told
telling in_port r (Port w p) = None
telling in_port r (Flood w p) = None
telling in_port r Ingress = None
telling in_port r (Tell member reason) =
    Some (record { member = member; in_port = in_port; reason = reason; rewrite = r })

-- what the outs of a virtual switch give, where the packet came in by a port
abbrev pub here : ℕ → ℕ → List Out → Walked
here v in_port outs = record {
  outs = filter_map (λ (o : Out). port_out v in_port o.rewrite o.dest) outs;
  told = filter_map (λ (o : Out). telling in_port o.rewrite o.dest) outs;
}

-- what a walk gives that stands after the rewrite r
abbrev pub walked_after : RewriteOf → Walked → Walked
walked_after r w = record {
  outs = map (λ (o : PortOut). record o { rewrite = and_then r o.rewrite }) w.outs;
  told = map (λ (t : Told). record t { rewrite = and_then r t.rewrite }) w.told;
}

-- one after the other
abbrev pub both_walked : Walked → Walked → Walked
both_walked a b = record { outs = a.outs ++ b.outs; told = a.told ++ b.told }

-- the header that comes to a place over a link, after a rewrite
abbrev pub arriving : RewriteOf → ℕ → HeaderOf → HeaderOf
arriving r port h = record (apply r h) { in_port = port }

-- what follows, where the packet goes on so, or ends
abbrev pub what_follows : Option Onward → (ℕ → HeaderOf → Walked) → HeaderOf → Walked
what_follows None there h = nowhere
what_follows (Some on) there h = walked_after on.rewrite (there on.place.v (arriving on.rewrite on.place.port h))

-- a virtual switch takes the packet: one that is spread drops packets that have a tag
abbrev pub takes : Bool → HeaderOf → Bool
takes spread h = not (spread && not (h.dl_vlan == UNTAGGED))

-- what the packets of a header give that come to a virtual switch, in so many hops
abbrev pub walk : Ground → ℕ → ℕ → HeaderOf → Walked
walk g zero v h = nowhere
walk g (suc n) v h =
    if takes (g.spread v) h
    then both_walked (here v h.in_port (g.means v h).outs)
    (what_follows (leads (g.means v h).tail (g.links v) h.in_port) (walk g n) h)
    else nowhere
