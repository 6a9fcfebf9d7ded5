use Rattle.std.proofs.Common.{◌≡◌, ◌-◌, ◌<◌, ◌^◌, arith, suc, sym}
use Rattle.policy_meaning.specs.Hops.{hop_size}
use Rattle.policy_meaning.specs.Networks.{fabric_of}
use Rattle.policy_meaning.proofs.NodeSteps.{own-fits}
use Rattle.hyper_core.proofs.views.count_rules.Goals as goal

pub switch_rules-requires-clause-size : goal.switch_rules-requires-clause-size
switch_rules-requires-clause-size c =
    let net = c.args.setting.now.network in
    let hops = c.args.setting.now.hops in
    let some = c.requires.hops in
    let more : hops ≡ suc (hops - 1) = omega (arith, some) in
    let most = c.requires.sizes c.args.v in
    let fits : hop_size (fabric_of net) hops c.args.v < 2 ^ 64 = omega (arith, most) in
    own-fits net c.requires.tables hops (hops - 1) c.args.v c.in-Some.switch.now more (sym c.in-Some.ensures.value) fits
