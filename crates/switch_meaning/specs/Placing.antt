-- The entry that is put on a switch for a rule.
use Rattle.std.specs.Prelude.{ℕ, ◌+◌, Bool, true, false, ◌==◌, ◌&&◌, not, Option, Some, None, if◌then◌else◌, List, []}
use Rattle.std.specs.Prelude.{◌∷◌, ◌++◌, filter, option_map}
use Rattle.std.specs.List.{list_any}
use Rattle.std.specs.Option.{option_and_then, option_eq}
use Rattle.of10_match.specs.Fields.{MatchOf}
use Rattle.of10_match.specs.Matching.{meet, everything}
use Rattle.of10_match.specs.Numbers.{UNTAGGED}
use Rattle.of10_actions.specs.Fields.{RewriteOf}
use Rattle.of10_actions.specs.Rewriting.{no_rewrite, and_then}
use Rattle.of10_actions.specs.declared.action.Action.{Action}
use Rattle.of10_actions.specs.declared.action.Action.TheVariants.{Output, SetVlanVid, StripVlan, SetDlSrc, SetDlDst}
use Rattle.of10_actions.specs.declared.action.Action.TheVariants.{SetNwSrc, SetNwDst, SetNwTos, SetTpSrc, SetTpDst}
use Rattle.of10_actions.specs.declared.effects.Dest.{Dest}
use Rattle.of10_actions.specs.declared.effects.Dest.TheVariants.{Port, Flood, Ingress, Tell}
use Rattle.of10_actions.specs.declared.effects.Out.{Out}
use Rattle.of10_actions.specs.Numbers.{IN_PORT, CONTROLLER}
use Rattle.of10_actions.specs.Same.{same_action}
use Rattle.switch_meaning.specs.Wirings.{outside_at, next_hop}
use Rattle.switch_meaning.specs.declared.entry.FlatRule.{FlatRule}
use Rattle.switch_meaning.specs.declared.entry.PhysEntry.{PhysEntry}
use Rattle.switch_meaning.specs.declared.entry.Site.{Site}
use Rattle.switch_meaning.specs.declared.placing.Way.{Way}
use Rattle.switch_meaning.specs.declared.wiring.Outside.{Outside}
use Rattle.switch_meaning.specs.declared.wiring.Wiring.{Wiring}

-- the action that sets a field, unless the one before it did the same
abbrev pub set_unless : Option Action → Option Action → List Action
set_unless now None = []
set_unless None (Some set) = set ∷ []
set_unless (Some done) (Some set) = if same_action done set then [] else set ∷ []

-- the actions that set the fields of a rewrite, field by field in the order in which they are written
abbrev pub field_sets : RewriteOf → List (Option Action)
field_sets r =
    option_map SetDlSrc r.dl_src ∷ option_map SetDlDst r.dl_dst ∷ option_map SetNwSrc r.nw_src
    ∷ option_map SetNwDst r.nw_dst
    ∷ option_map SetNwTos r.nw_tos ∷ option_map SetTpSrc r.tp_src ∷ option_map SetTpDst r.tp_dst ∷ []

-- the sets of one list, without those that the other did already
abbrev pub sets_after : List (Option Action) → List (Option Action) → List Action
sets_after (done ∷ dones) (set ∷ rest) = set_unless done set ++ sets_after dones rest
sets_after _ _ = []

-- the actions that make a packet what one rewrite wants which is what another made it
abbrev pub sets : RewriteOf → RewriteOf → List Action
sets now want = sets_after (field_sets now) (field_sets want)

-- the action that takes the tag that is on for the one that is wanted
abbrev pub retag : Option ℕ → Option ℕ → List Action
retag None None = []
retag (Some t) None = StripVlan ∷ []
retag None (Some u) = SetVlanVid u ∷ []
retag (Some t) (Some u) = if t == u then [] else SetVlanVid u ∷ []

-- the port as it is written: IN_PORT where the packet came by it
abbrev pub written_port : Option ℕ → ℕ → ℕ
written_port ingress port = if option_eq ◌==◌ ingress (Some port) then IN_PORT else port

-- the way to an outside port of another switch: with its tag, by the port of the next hop
abbrev pub way_across : Option ℕ → Option ℕ → Option Way
way_across (Some tag) (Some port) = Some (record { tag = Some tag; port = port })
way_across None port = None
way_across (Some tag) None = None

-- the way from a switch to an outside port
abbrev pub way_to : Wiring → ℕ → Option ℕ → Outside → Option Way
way_to w switch ingress o =
    if o.at.switch == switch then Some (record { tag = None; port = written_port ingress o.at.port })
    else way_across o.tag (next_hop w switch o.at.switch)

-- the way from a switch to where an out goes; a telling has none
abbrev pub way_of : Wiring → ℕ → Option ℕ → Dest → Option Way
way_of w switch ingress (Port v p) = option_and_then (way_to w switch ingress) (outside_at w v p)
way_of w switch ingress (Flood v p) = option_and_then (way_to w switch ingress) (outside_at w v p)
way_of w switch ingress Ingress = Some (record { tag = None; port = IN_PORT })
way_of w switch ingress (Tell member reason) = None

-- a packet goes by a way as r makes it, and then what comes later; r0 and a tag are in force before
abbrev pub going : Option Way → RewriteOf → Option ℕ → RewriteOf → (RewriteOf → Option ℕ → List Action) → List Action
going None now tag r later = later now tag
going (Some way) now tag r later =
    sets now r ++ (retag tag way.tag ++ (Output way.port 0 ∷ later (and_then now r) way.tag))

-- the actions of the outs to ports, where a rewrite and a tag are in force
abbrev pub actions_from : Wiring → ℕ → Option ℕ → RewriteOf → Option ℕ → List Out → List Action
actions_from w switch ingress now tag [] = []
actions_from w switch ingress now tag (o ∷ os) =
    going (way_of w switch ingress o.dest) now tag o.rewrite (λ now tag. actions_from w switch ingress now tag os)

-- the out tells a member
abbrev pub is_telling : Dest → Bool
is_telling (Port v p) = false
is_telling (Flood v p) = false
is_telling Ingress = false
is_telling (Tell member reason) = true

-- somebody is told
abbrev pub tells : List Out → Bool
tells outs = list_any (λ (o : Out). is_telling o.dest) outs

-- the list of actions of a rule's outs: one copy to the controller first, where somebody is told
abbrev pub actions_of : Wiring → ℕ → Option ℕ → List Out → List Action
actions_of w switch ingress outs =
    (if tells outs then Output CONTROLLER 65535 ∷ [] else []) ++ actions_from w switch ingress no_rewrite None outs

-- the out goes to the port by which the packet came
abbrev pub is_silent : ℕ → Option ℕ → Dest → Bool
is_silent v in_port (Port w p) = (w == v) && option_eq ◌==◌ in_port (Some p)
is_silent v in_port (Flood w p) = (w == v) && option_eq ◌==◌ in_port (Some p)
is_silent v in_port Ingress = false
is_silent v in_port (Tell member reason) = false

-- the outs that are written: of a rule for all ports none to the port that its match names
abbrev pub outs_written : Site → FlatRule → List Out
outs_written site r = if site.whole then filter (λ (o : Out). not (is_silent site.v r.m.in_port o.dest)) r.outs
    else r.outs

-- the physical port that a rule names, if it names one
abbrev pub ingress_of : Wiring → Site → FlatRule → Option ℕ
ingress_of w site r = option_and_then (λ p. option_map (λ (o : Outside). o.at.port) (outside_at w site.v p)) r.m.in_port

-- the match of packets without a tag
abbrev pub untagged : MatchOf
untagged = record everything { dl_vlan = Some UNTAGGED }

-- the match of a rule on its switch, or none where no header is left: a spread virtual switch takes no tagged packets
abbrev pub match_written : Wiring → Site → FlatRule → Option MatchOf
match_written w site r =
    option_map (λ (m : MatchOf). record m { in_port = ingress_of w site r })
    (if site.spread then meet r.m untagged else Some r.m)

-- the entry of a rule on its switch, with this match
abbrev pub entry_with : Wiring → Site → FlatRule → MatchOf → PhysEntry
entry_with w site r m = record {
  m = m;
  priority = r.level + 1;
  actions = actions_of w site.switch (ingress_of w site r) (outs_written site r);
  ancestry = r.ancestry;
}

-- the entry of a rule on its switch, or none where no header is left
abbrev pub entry_of : Wiring → Site → FlatRule → Option PhysEntry
entry_of w site r = option_map (entry_with w site r) (match_written w site r)
