-- What a switch makes of a packet with the actions of an entry.
use Rattle.std.specs.Prelude.{ℕ, ◌==◌, Option, Some, None, if◌then◌else◌, List, [], ◌∷◌, ◌++◌}
use Rattle.of10_match.specs.Fields.{HeaderOf}
use Rattle.of10_match.specs.Numbers.{UNTAGGED}
use Rattle.of10_actions.specs.Rewriting.{apply}
use Rattle.of10_actions.specs.Effects.{set_by}
use Rattle.of10_actions.specs.declared.action.Action.{Action}
use Rattle.of10_actions.specs.declared.action.Action.TheVariants.{Output, SetVlanVid, SetVlanPcp, StripVlan, Enqueue}
use Rattle.of10_actions.specs.Numbers.{IN_PORT, CONTROLLER}
use Rattle.switch_meaning.specs.declared.entry.FlowEntry.{FlowEntry}
use Rattle.switch_meaning.specs.declared.fired.Fired.{Fired}

-- the header after an action on its fields
abbrev pub set_in : Action → HeaderOf → HeaderOf
set_in (SetVlanVid vid) h = record h { dl_vlan = vid }
set_in (SetVlanPcp pcp) h = record h { dl_vlan_pcp = pcp }
set_in StripVlan h = record h { dl_vlan = UNTAGGED }
set_in action h = apply (set_by action) h

-- nothing is sent
abbrev pub unsent : Fired
unsent = record { outs = []; copies = [] }

-- a packet goes out at a port
abbrev pub sent : ℕ → HeaderOf → Fired
sent port h = record { outs = record { port = port; header = h } ∷ []; copies = [] }

-- a copy goes to the controller
abbrev pub copied : HeaderOf → Fired
copied h = record { outs = []; copies = h ∷ [] }

-- an output of a packet: a switch sends nothing back by number, but to IN_PORT
abbrev pub output : ℕ → HeaderOf → Fired
output port h =
    if port == CONTROLLER then copied h
    else (if port == IN_PORT then sent h.in_port h
    else (if port == h.in_port then unsent else sent port h))

-- what an action sends
abbrev pub sent_by : Action → HeaderOf → Fired
sent_by (Output port max_len) h = output port h
sent_by (Enqueue port queue) h = output port h
sent_by action h = unsent

-- one after the other
abbrev pub both_fired : Fired → Fired → Fired
both_fired a b = record { outs = a.outs ++ b.outs; copies = a.copies ++ b.copies }

-- what a list of actions makes of a packet
abbrev pub fire : List Action → HeaderOf → Fired
fire [] h = unsent
fire (action ∷ actions) h = both_fired (sent_by action h) (fire actions (set_in action h))

-- what a switch makes of a packet with the entry that it uses; a packet that no entry holds goes to the controller
abbrev pub fire_entry : Option FlowEntry → HeaderOf → Fired
fire_entry None h = copied h
fire_entry (Some e) h = fire e.actions h
