use Rattle.std.proofs.Common.{◌∙◌, List, All, ap, map, refl, subst, sym}
use Rattle.grants.specs.declared.grant.Grant.{Grant}
use Rattle.packet_map.specs.Rising.{SeesRising}
use Rattle.hyper_core.proofs.Followed.{grants_rise, same_network}
use Rattle.machine_drafts.specs.Machines.{state_in_held}
use Rattle.hyper_core.specs.Worlds.{grant_of}
use Rattle.hyper_core.proofs.worlds.followed.Goals as goal

pub returns-clause-network : goal.returns-clause-network
returns-clause-network c =
    same_network c.args.setup.now (state_in_held c.args.held.now) c.topology.result.now c.args.tables.now.grants
    c.args.tables.now.tables c.args.held.now.exprs c.topology.ensures c.requires.grants c.requires.tables refl

pub returns-clause-rising : goal.returns-clause-rising
returns-clause-rising c =
    subst (λ (gs : List Grant). All SeesRising gs)
    (ap (map grant_of) c.members-members.ensures.members ∙ sym c.requires.grants)
    (grants_rise c.members-members.result.now c.members-members.ensures.rising)
