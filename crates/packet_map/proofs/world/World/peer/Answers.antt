use Rattle.std.proofs.Common.{ap, ◌∙◌, sym}
use Rattle.std.specs.Prelude.{option_map}
use Rattle.packet_map.proofs.Finding.{peer-found, place_of}
use Rattle.packet_map.proofs.world.World.peer.Goals as goal

pub returns-in_err-v : goal.returns-in_err-v
returns-in_err-v c = c.from_residual.ensures
    ∙ (ap (option_map place_of) c.in_err-v.ensures ∙ sym (peer-found c.args.self.now.topology.now c.args.v c.args.port))

pub returns : goal.returns
returns c = ap (option_map place_of) c.in_ok-v.ensures
    ∙ sym (peer-found c.args.self.now.topology.now c.args.v c.args.port)
