-- Rules of a virtual switch as they stand at one of its ports, and where they lead from there.
use Rattle.std.specs.Prelude.{ℕ, Bool, false, ◌==◌, Option, Some, None, List, [], ◌∷◌, if◌then◌else◌, option_map}
use Rattle.of10_match.specs.Fields.{MatchOf}
use Rattle.of10_match.specs.Matching.{at_port}
use Rattle.of10_actions.specs.Fields.{RewriteOf}
use Rattle.of10_actions.specs.declared.effects.Tail.{Tail}
use Rattle.of10_actions.specs.declared.effects.Tail.TheVariants.{Nothing, Pass, Link}
use Rattle.pull_back.specs.Pulling.{image}
use Rattle.policy_meaning.specs.Hops.{at_node}
use Rattle.policy_meaning.specs.LeafRules.{rule_met}
use Rattle.policy_meaning.specs.declared.network.Place.{Place}
use Rattle.policy_meaning.specs.declared.rule.Rule.{Rule}
use Rattle.hop_rules.specs.declared.exits.Exit.{Exit}
use Rattle.hop_rules.specs.declared.standing.Departure.{Departure}

-- a rule as it stands at a port, or none where it holds nothing that comes by that port
abbrev pub standing : Place → Rule → Option Rule
standing at a = option_map (at_node at.v at.port) (rule_met a (at_port at.port))

-- the exit at a link port
abbrev pub exit_of : List Exit → ℕ → Option Exit
exit_of [] port = None
exit_of (e ∷ es) port = if e.port == port then Some e else exit_of es port

-- the way over an exit, after a rewrite
abbrev pub departing : RewriteOf → Exit → Departure
departing r e = record { rewrite = r; exit = e }

-- where a packet goes on that has this tail: over a link
abbrev pub over : List Exit → Tail → Option Departure
over exits Nothing = None
over exits (Pass r) = None
over exits (Link r to) = option_map (departing r) (exit_of exits to)

-- the link leads back by this port
abbrev pub leads_back : ℕ → Tail → Bool
leads_back port Nothing = false
leads_back port (Pass r) = false
leads_back port (Link r to) = to == port

-- where a packet goes on that came by a port and has this tail: over a link, but not back by that port
abbrev pub leaving : List Exit → ℕ → Tail → Option Departure
leaving exits port tail = if leads_back port tail then None else over exits tail

-- what is known, where they arrive, of the packets that a match holds and that leave so
abbrev pub asked : MatchOf → Departure → MatchOf
asked m l = record (image l.rewrite m) { in_port = Some l.exit.peer.port }
