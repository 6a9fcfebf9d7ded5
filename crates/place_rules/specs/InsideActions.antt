-- The actions of outs, of which some may be left out.
use Rattle.std.specs.Prelude.{ℕ, Bool, ◌+◌, ◌&&◌, not, Option, None, if◌then◌else◌, List, [], ◌∷◌, filter}
use Rattle.of10_actions.specs.Fields.{RewriteOf}
use Rattle.of10_actions.specs.Numbers.{CONTROLLER}
use Rattle.of10_actions.specs.declared.action.Action.{Action}
use Rattle.of10_actions.specs.declared.action.Action.TheVariants.{Output}
use Rattle.of10_actions.specs.declared.effects.Dest.{Dest}
use Rattle.of10_actions.specs.declared.effects.Out.{Out}
use Rattle.of10_match.specs.Fields.{MatchOf}
use Rattle.policy_meaning.specs.declared.rule.Rule.{Rule}
use Rattle.switch_meaning.specs.Placing.{actions_of, going, is_silent, way_of}
use Rattle.switch_meaning.specs.declared.entry.PhysEntry.{PhysEntry}
use Rattle.switch_meaning.specs.declared.entry.Site.{Site}
use Rattle.switch_meaning.specs.declared.placing.Way.{Way}
use Rattle.switch_meaning.specs.declared.wiring.Wiring.{Wiring}

-- the outs that are written: of a rule for all ports none to the port that its match names
abbrev pub outs_kept : Site → Option ℕ → List Out → List Out
outs_kept site in_port outs = if site.whole then filter (λ (o : Out). not (is_silent site.v in_port o.dest)) outs
    else outs

-- a copy to the controller, where somebody is told
abbrev pub copy_if : Bool → List Action
copy_if told = if told then Output CONTROLLER 65535 ∷ [] else []

-- the way to where an out goes, unless it is left out
abbrev pub way_kept : Wiring → Site → Option ℕ → Option ℕ → Dest → Option Way
way_kept w site in_port ingress dest = if site.whole && is_silent site.v in_port dest then None
    else way_of w site.switch ingress dest

-- the actions of outs that go by these ways
abbrev pub actions_by : (Dest → Option Way) → RewriteOf → Option ℕ → List Out → List Action
actions_by way now tag [] = []
actions_by way now tag (o ∷ os) = going (way o.dest) now tag o.rewrite (λ now tag. actions_by way now tag os)

-- the entry of a rule at a site, with this match
abbrev pub entry_by : Wiring → Site → Option ℕ → MatchOf → Rule → PhysEntry
entry_by w site ingress m r =
    record {
      m = m;
      priority = r.level + 1;
      actions = actions_of w site.switch ingress (outs_kept site r.m.in_port r.outs);
      ancestry = r.ancestry;
    }
