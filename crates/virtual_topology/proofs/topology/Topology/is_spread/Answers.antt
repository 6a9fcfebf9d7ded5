use Rattle.std.proofs.Common.{◌∙◌, false, ap}
use Rattle.std.specs.Option.{option_map_or}
use Rattle.virtual_topology.specs.declared.standing.Standing.{Standing}
use Rattle.virtual_topology.specs.Wires.{is_spread_of}
use Rattle.virtual_topology.proofs.Standings.{standing_read}
use Rattle.virtual_topology.proofs.topology.Topology.is_spread.Goals as goal

pub returns-in-None : goal.returns-in-None
returns-in-None c =
    ap (λ o. option_map_or (λ (s : Standing). s.spread) o false) c.in-None.ensures.value
    ∙ (standing_read (λ (s : Standing). s.spread) c.self.inside.plan c.self.inside.standings c.args.v
    c.self.invariant.standings_is ∙ ap (λ plan. is_spread_of plan c.args.v) c.self.view_is)

pub returns-in-Some : goal.returns-in-Some
returns-in-Some c =
    ap (λ o. option_map_or (λ (s : Standing). s.spread) o false) c.in-Some.ensures.value
    ∙ (standing_read (λ (s : Standing). s.spread) c.self.inside.plan c.self.inside.standings c.args.v
    c.self.invariant.standings_is ∙ ap (λ plan. is_spread_of plan c.args.v) c.self.view_is)
