-- What a list of actions does for a member at its ports.
use Rattle.std.specs.Prelude.{ℕ, List, [], ◌∷◌, ◌++◌, map, Some, ◌==◌, ◌||◌, if◌then◌else◌}
use Rattle.std.specs.List.{list_any, AllByRecursion}
use Rattle.of10_actions.specs.Fields.{RewriteOf}
use Rattle.of10_actions.specs.Numbers.{ACTION, IN_PORT, NORMAL, FLOOD, ALL, CONTROLLER}
use Rattle.of10_actions.specs.Rewriting.{and_then, no_rewrite, Extends}
use Rattle.of10_actions.specs.declared.action.Action.{Action}
use Rattle.of10_actions.specs.declared.action.Action.TheVariants.{Output, SetDlSrc, SetDlDst, SetNwSrc, SetNwDst}
use Rattle.of10_actions.specs.declared.action.Action.TheVariants.{SetNwTos, SetTpSrc, SetTpDst}
use Rattle.of10_actions.specs.declared.effects.Dest.{Dest}
use Rattle.of10_actions.specs.declared.effects.Dest.TheVariants.{Port, Flood, Ingress, Tell}
use Rattle.of10_actions.specs.declared.effects.Effects.{Effects}
use Rattle.of10_actions.specs.declared.effects.Out.{Out}
use Rattle.of10_actions.specs.declared.effects.PortView.{PortView}
use Rattle.of10_actions.specs.declared.effects.Tail.{Tail}
use Rattle.of10_actions.specs.declared.effects.Tail.TheVariants.{Nothing, Pass, Link}

-- the fields that an action sets
abbrev pub set_by : Action → RewriteOf
set_by (SetDlSrc address) = record no_rewrite { dl_src = Some address }
set_by (SetDlDst address) = record no_rewrite { dl_dst = Some address }
set_by (SetNwSrc address) = record no_rewrite { nw_src = Some address }
set_by (SetNwDst address) = record no_rewrite { nw_dst = Some address }
set_by (SetNwTos tos) = record no_rewrite { nw_tos = Some tos }
set_by (SetTpSrc port) = record no_rewrite { tp_src = Some port }
set_by (SetTpDst port) = record no_rewrite { tp_dst = Some port }
set_by _ = no_rewrite

-- each visible outside port, in order
abbrev pub flood_of : PortView → List Dest
flood_of ports = map (λ port. Flood ports.v port) ports.outside

-- where the copies of an output to this number go; a number that names no visible port has none
abbrev pub dests_of : PortView → ℕ → ℕ → List Dest
dests_of ports member port =
    if port == IN_PORT then Ingress ∷ []
    else if (port == FLOOD) || (port == ALL) then flood_of ports
    else if port == CONTROLLER then Tell member ACTION ∷ []
    else if list_any (λ outside. outside == port) ports.outside then Port ports.v port ∷ []
    else []

-- the tail that an output to this number is, with the rewrite in force
abbrev pub tail_of : PortView → RewriteOf → ℕ → Tail
tail_of ports r port =
    if port == NORMAL then Pass r
    else if list_any (λ link. link == port) ports.links then Link r port
    else Nothing

-- outs with the rewrite in force
abbrev pub outs_of : RewriteOf → List Dest → List Out
outs_of r dests = map (λ dest. record { rewrite = r; dest = dest }) dests

-- these outs, and then what comes later
abbrev pub outs_before : List Out → Effects → Effects
outs_before outs later = record { outs = outs ++ later.outs; tail = later.tail }

-- a tail, which ends the list; where it is none, these outs and then what comes later
abbrev pub ends_or : Tail → List Out → Effects → Effects
ends_or Nothing outs later = outs_before outs later
ends_or (Pass r) outs later = record { outs = []; tail = Pass r }
ends_or (Link r port) outs later = record { outs = []; tail = Link r port }

-- what the actions do from here on, where r is in force
abbrev pub effects_from : PortView → ℕ → RewriteOf → List Action → Effects
effects_from ports member r [] = record { outs = []; tail = Nothing }
effects_from ports member r (Output port max_len ∷ actions) =
    ends_or (tail_of ports r port) (outs_of r (dests_of ports member port)) (effects_from ports member r actions)
effects_from ports member r (action ∷ actions) = effects_from ports member (and_then r (set_by action)) actions

abbrev pub effects_of : PortView → ℕ → List Action → Effects
effects_of ports member actions = effects_from ports member no_rewrite actions

-- the rewrite of a tail sets each field that r sets
abbrev pub TailExtends : Tail → RewriteOf → Type 0
TailExtends Nothing r = Unit {0}
TailExtends (Pass s) r = Extends s r
TailExtends (Link s port) r = Extends s r

-- each rewrite extends the one before it, of which r is the first
abbrev pub EachExtends : RewriteOf → List Out → Type 0
EachExtends r [] = Unit {0}
EachExtends r (out ∷ outs) = Extends out.rewrite r × EachExtends out.rewrite outs

-- the effects build up: each rewrite extends the one before it, and the tail's extends all
pub record BuildsUp (effects : Effects) : Type 0 where
  pub outs : EachExtends no_rewrite effects.outs
  pub tail : AllByRecursion (λ out. TailExtends effects.tail out.rewrite) effects.outs
