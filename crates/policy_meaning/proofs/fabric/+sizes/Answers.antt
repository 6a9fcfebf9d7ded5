use Rattle.std.proofs.Common.{◌≡◌, suc, ◌-◌, arith, sym, ap, ◌∙◌, Some}
use Rattle.policy_meaning.specs.Hops.{hop_size}
use Rattle.policy_meaning.specs.Networks.{fabric_of}
use Rattle.policy_meaning.proofs.NodeSteps.{none-far, size-on}
use Rattle.policy_meaning.proofs.fabric.+sizes.Goals as goal

pub hop_size-returns-in-Some : goal.hop_size-returns-in-Some
hop_size-returns-in-Some t c =
    let more : c.args.hops ≡ suc (c.args.hops - 1) = omega arith in
    size-on c.args.network.now c.requires c.args.hops (c.args.hops - 1) c.args.v _ more
    (sym c.in-Some.ensures.value ∙ ap Some (sym c.switch.view_is)) c.expression_size.result c.peers_size.result
    c.size_concat.result c.expression_size.ensures c.peers_size.ensures c.size_concat.ensures

pub peers_size-loop-link-init : goal.peers_size-loop-link-init
peers_size-loop-link-init t c =
    (omega arith, none-far (hop_size (fabric_of c.args.network.now) c.args.hops) c.as_slice-link-items.result.now)
