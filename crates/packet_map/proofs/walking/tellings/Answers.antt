use Rattle.std.proofs.Common.{ap, ◌∙◌}
use Rattle.of10_match.specs.Fields.{HeaderOf}
use Rattle.policy_meaning.specs.Networks.{ground_of}
use Rattle.policy_meaning.specs.Walk.{walk}
use Rattle.packet_map.specs.Networks.{network_of}
use Rattle.packet_map.proofs.Following.{begun}
use Rattle.packet_map.proofs.walking.tellings.Goals as goal

pub returns : goal.returns
returns c =
    let to = λ (k : HeaderOf). walk (ground_of (network_of c.args.world.now)) c.args.world.now.hops c.args.v k in
    c.in_ok-follow.ensures
    ∙ (begun c.nowhere-walked.result c.new.result (to c.coming_by.result) c.nowhere-walked.ensures c.new.ensures
    ∙ ap to c.coming_by.ensures)
