use Rattle.std.proofs.Common.{◌≡◌, ◌-◌, ◌≤◌, List, arith, ap, length, rules, subst, suc, sym, ◌∙◌}
use Rattle.std.specs.Prelude.{filter_map, flat_map}
use Rattle.std.proofs.lemmas.List.{take_all}
use Rattle.of10_match.specs.Matching.{at_port}
use Rattle.alg_priority.specs.Levels.{capped}
use Rattle.policy_meaning.specs.Hops.{at_node, hop_size, hops_on, leads, node, peers_size}
use Rattle.policy_meaning.specs.LeafRules.{rule_met}
use Rattle.policy_meaning.specs.Networks.{fabric_of}
use Rattle.policy_meaning.specs.Switches.{SwitchOf}
use Rattle.policy_meaning.specs.declared.network.Link.{Link}
use Rattle.policy_meaning.specs.declared.rule.Rule.{Rule}
use Rattle.policy_meaning.proofs.NodeSteps.{node-on, own-fits, pairs-fit, peer-fits, room-fits}
use Rattle.policy_meaning.proofs.fabric.+nodes.Goals as goal

pub add_onward-add_hops-requires : goal.add_onward-add_hops-requires
add_onward-add_hops-requires t c =
    let on = c.in-Some.on in
    let peer : hop_size (fabric_of c.args.network.now) c.args.hops on.place.v ≤ c.args.size =
    rw c.in-Some.is at c.requires.peer in
    pairs-fit c.args.network.now c.requires.tables c.args.hops on.place.v on.place.port c.args.size
    c.args.here.now.level c.in_ok-there-in-Some.there c.in_ok-there-in-Some.ensures peer c.requires.room

pub node_rules-switch_rules-requires-clause-size : goal.node_rules-switch_rules-requires-clause-size
node_rules-switch_rules-requires-clause-size t c =
    let more : c.args.hops ≡ suc (c.args.hops - 1) = omega arith in
    own-fits c.args.network.now c.requires.tables c.args.hops (c.args.hops - 1) c.args.v c.in-Some.switch.now more
    (sym c.in-Some.ensures.value) c.requires.size

pub node_rules-add_onward-requires : goal.node_rules-add_onward-requires
node_rules-add_onward-requires t c =
    let more : c.args.hops ≡ suc (c.args.hops - 1) = omega arith in
    let switch = c.in-Some.switch.now in
    let links = ap (λ (z : SwitchOf). z.links) c.switch.view_is in
    let size = subst (λ (z : List Link). c.peers_size-size.result
    ≡ capped (peers_size (hop_size (fabric_of c.args.network.now) (c.args.hops - 1)) z)) links
    c.peers_size-size.ensures in
    let items = c.as_slice-rule-items.result.now in
    let rule = c.rule-item.result in
    let leading = subst (λ (z : List Link). c.leads-onward.result ≡ leads rule.tail z c.args.port) links
    c.leads-onward.ensures in
    let is_met : items ≡ filter_map (λ (a : Rule). rule_met a (at_port c.args.port)) c.in_ok-all.all =
    c.as_slice-rule-items.ensures ∙ c.in_ok-met.ensures in
    let there = ap (λ (xs : List Rule). filter_map (λ (a : Rule). rule_met a (at_port c.args.port)) xs)
    c.in_ok-all.ensures in
    let peer = peer-fits c.args.network.now c.requires.tables c.args.hops (c.args.hops - 1) c.args.v switch more
    (sym c.in-Some.ensures.value) c.requires.size c.peers_size-size.result c.args.port rule.tail
    c.leads-onward.result size leading in
    let room = room-fits c.args.network.now c.requires.tables c.args.hops (c.args.hops - 1) c.args.v switch more
    (sym c.in-Some.ensures.value) c.requires.size c.peers_size-size.result c.args.port items c.loop-rule.rule-index
    rule size (is_met ∙ there) c.loop-rule-test.true c.rule-item.is in
    (search rules, (c.requires.tables, (peer, rw c.in_ok-here.ensures room)))

pub node_rules-returns : goal.node_rules-returns
node_rules-returns t c =
    let more : c.args.hops ≡ suc (c.args.hops - 1) = omega arith in
    let switch = c.in-Some.switch.now in
    let links = ap (λ (z : SwitchOf). z.links) c.switch.view_is in
    let size = subst (λ (z : List Link). c.peers_size-size.result
    ≡ capped (peers_size (hop_size (fabric_of c.args.network.now) (c.args.hops - 1)) z)) links
    c.peers_size-size.ensures in
    let items = c.as_slice-rule-items.result.now in
    let past : length items ≤ c.loop-rule.rule-index = c.loop-rule-test.false in
    let made = λ (l : List Link). λ (xs : List Rule). flat_map
    (λ (a : Rule). hops_on (leads a.tail l c.args.port) (node (fabric_of c.args.network.now) (c.args.hops - 1))
    c.peers_size-size.result (at_node c.args.v c.args.port a)) xs in
    node-on c.args.network.now c.requires.tables c.args.hops (c.args.hops - 1) c.args.v switch more
    (sym c.in-Some.ensures.value) c.requires.size c.peers_size-size.result c.args.port c.loop-rule.rules items
    c.in_ok-all.all size c.in_ok-all.ensures
    (c.as_slice-rule-items.ensures ∙ c.in_ok-met.ensures)
    (subst (λ (z : List Link). c.loop-rule.rules ≡ made z items) links
    (c.loop-rule.invariant ∙ ap (λ (xs : List Rule). made c.switch.inside.links xs)
    (take_all c.loop-rule.rule-index items past)))
