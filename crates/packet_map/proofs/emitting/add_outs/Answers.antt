use Rattle.policy_meaning.specs.declared.walking.Walked.{Walked}
use Rattle.packet_map.proofs.Giving.{added}
use Rattle.packet_map.proofs.emitting.add_outs.Goals as goal

pub returns : goal.returns
returns c =
    let new : Walked = record { outs = c.add_left.new.left; told = c.add_told.new.told } in
    added c.args.gate.now.v c.args.gate.now.ingress c.args.gate.now.in_port c.args.walked.now new c.args.rewrite.now
    c.args.outs.now c.in_ok-add_left.ensures c.in_ok-add_told.ensures
