use Rattle.std.proofs.Common.{◌≡◌, suc, ◌-◌, ◌++◌, ◌∷◌, [], List, ap, subst, sym, ◌∙◌, arith, None, Some, OnOk}
use Rattle.of10_match.specs.Fields.{HeaderOf}
use Rattle.of10_actions.specs.declared.effects.Tail.{Tail}
use Rattle.policy_meaning.specs.Hops.{leads}
use Rattle.packet_map.specs.Networks.{links_of, network_of, numbered_switch}
use Rattle.packet_map.proofs.Finding.{switch-at}
use Rattle.explain_path.specs.Traces.{trace}
use Rattle.explain_path.specs.declared.trace.HopTrace.{HopTrace}
use Rattle.explain_path.proofs.Tracing.{ends-here, goes-on, not-taken, not-there}
use Rattle.explain_path.proofs.explaining.+follow.Goals as goal

pub returns-in_default : goal.returns-in_default
returns-in_default t c =
    let w = c.args.world.now in
    let k : c.args.hops ≡ suc (c.args.hops - 1) = omega arith in
    not-there (network_of w) c.args.hops (c.args.hops - 1) c.args.v c.args.header.now c.args.traces.now k
    (switch-at w.topology.now w.exprs.now c.args.v None (sym c.in_default.ensures.value))

pub returns-then-not-takes : goal.returns-then-not-takes
returns-then-not-takes t c =
    let w = c.args.world.now in
    let k : c.args.hops ≡ suc (c.args.hops - 1) = omega arith in
    not-taken (network_of w) c.args.hops (c.args.hops - 1) c.args.v c.args.header.now c.args.traces.now k
    (numbered_switch w.topology.now (c.args.v, c.in-Some.expr.now))
    (switch-at w.topology.now w.exprs.now c.args.v (Some c.in-Some.expr.now) (sym c.in-Some.ensures.value))
    (sym c.takes.ensures ∙ c.if-not-takes.true)

pub returns-in-None : goal.returns-in-None
returns-in-None t c =
    let w = c.args.world.now in
    let h = c.args.header.now in
    let ts = c.args.traces.now in
    let links = links_of w.topology.now c.args.v in
    let k : c.args.hops ≡ suc (c.args.hops - 1) = omega arith in
    let led = subst (λ (x : HeaderOf). leads c.in_ok-trace.field-0.tail links x.in_port ≡ None) c.header.view_is
    (sym c.onward.ensures ∙ c.in-None.is) in
    ends-here (network_of w) c.args.hops (c.args.hops - 1) c.args.v h ts k
    (numbered_switch w.topology.now (c.args.v, c.in-Some.expr.now))
    (switch-at w.topology.now w.exprs.now c.args.v (Some c.in-Some.expr.now) (sym c.in-Some.ensures.value))
    c.push.new.self c.push.new.self (sym c.takes.ensures ∙ c.if-not-takes.false)
    (c.in_ok-push.ensures.pushed ∙ ap (λ (x : HopTrace). ts ++ x ∷ []) c.in_ok-trace.ensures.trace)
    (subst (λ (z : Tail). leads z links h.in_port ≡ None) c.in_ok-trace.ensures.tail led)

pub returns-in-Some-onward : goal.returns-in-Some-onward
returns-in-Some-onward t c =
    let w = c.args.world.now in
    let h = c.args.header.now in
    let ts = c.args.traces.now in
    let links = links_of w.topology.now c.args.v in
    let on = c.in-Some-onward.on in
    let to = λ (x : HeaderOf). c.push.new.self ++ trace (network_of w) (c.args.hops - 1) on.place.v x in
    let k : c.args.hops ≡ suc (c.args.hops - 1) = omega arith in
    let led = subst (λ (x : HeaderOf). leads c.in_ok-trace.field-0.tail links x.in_port ≡ Some on) c.header.view_is
    (sym c.onward.ensures ∙ c.in-Some-onward.is) in
    let same : to c.arriving-next.result ≡ ts ++ trace (network_of w) c.args.hops c.args.v h =
    goes-on (network_of w) c.args.hops (c.args.hops - 1) c.args.v h ts k
    (numbered_switch w.topology.now (c.args.v, c.in-Some.expr.now))
    (switch-at w.topology.now w.exprs.now c.args.v (Some c.in-Some.expr.now) (sym c.in-Some.ensures.value))
    c.push.new.self (to c.arriving-next.result) (sym c.takes.ensures ∙ c.if-not-takes.false) on
    (c.in_ok-push.ensures.pushed ∙ ap (λ (x : HopTrace). ts ++ x ∷ []) c.in_ok-trace.ensures.trace)
    (subst (λ (z : Tail). leads z links h.in_port ≡ Some on) c.in_ok-trace.ensures.tail led)
    (ap to c.arriving-next.ensures) in
    subst (λ (z : List HopTrace). OnOk c.follow.result (c.follow.new.traces ≡ z)) same c.follow.ensures
