use Rattle.std.proofs.Common.{◌≡◌, ◌∙◌, ◌+◌, ◌≤◌, List, ap, length, refl, subst, sym}
use Rattle.std.specs.Prelude.{sum_by}
use Rattle.std.specs.List.{refill}
use Rattle.std.proofs.lemmas.List.{length-map}
use Rattle.std.proofs.lemmas.Result.{IfOk-weaker}
use Rattle.hop_rules.specs.Levels.{AreTurnedNodes, IsTurned, node_cost}
use Rattle.hop_rules.specs.Nodes.{NodeOf}
use Rattle.hop_rules.specs.declared.level.Level.{Level}
use Rattle.hop_rules.specs.declared.level.Stand.{Stand}
use Rattle.hop_rules.proofs.Numbering.{refilled}
use Rattle.hop_rules.proofs.level.change_level.Goals as goal

pub returns-clause-turned : goal.returns-clause-turned
returns-clause-turned g c =
    let l = c.args.level.now in
    let nodes = c.change_nodes.new.nodes in
    let gs = c.args.given.now in
    let below = c.args.below.now in
    let e = c.args.event.now in
    let turns = c.args.turns.now in
    let then : Level = record { stands = l.stands; nodes = refill (length l.nodes) l.nodes nodes } in
    IfOk-weaker c.change_nodes.result _ (λ tolds. IsTurned gs below e turns l then tolds)
    (λ tolds h.
    let now = subst (λ (ns : List NodeOf). AreTurnedNodes gs below e turns l.stands ns nodes tolds)
    c.as_mut_slice-nodes.ensures.value
    (subst (λ (ss : List Stand). AreTurnedNodes gs below e turns ss c.as_mut_slice-nodes.result.now nodes tolds)
    c.as_slice-stands.ensures h) in
    let count : length nodes ≡ length l.nodes = sym (length-map nodes (λ (m : NodeOf). m.read)) ∙ ap length now.read
    ∙ length-map l.nodes (λ (m : NodeOf). m.read) in
    record {
      stands = refl;
      nodes =
          subst (λ (ns : List NodeOf). AreTurnedNodes gs below e turns l.stands l.nodes ns tolds)
          (sym (refilled l.nodes nodes count)) now;
    })
    c.change_nodes.ensures.turned

pub returns-clause-steps : goal.returns-clause-steps
returns-clause-steps g c old ev =
    subst (λ (ss : List Stand). c.change_nodes.new.steps ≤ c.args.steps.now + sum_by
    (node_cost c.args.given.now c.args.below.now c.args.event.now c.args.turns.now) ss) c.as_slice-stands.ensures
    (c.change_nodes.ensures.steps old ev)
