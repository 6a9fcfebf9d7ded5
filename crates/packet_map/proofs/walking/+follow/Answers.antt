use Rattle.std.proofs.Common.{◌≡◌, suc, ◌-◌, subst, sym, ◌∙◌, arith, None, Some, refl, OnOk}
use Rattle.policy_expr.specs.Policy.{policy_of}
use Rattle.policy_meaning.specs.Hops.{leads}
use Rattle.policy_meaning.specs.Networks.{ground_of}
use Rattle.policy_meaning.specs.Walk.{walk}
use Rattle.policy_meaning.specs.declared.walking.Walked.{Walked}
use Rattle.packet_map.specs.Acting.{with_more}
use Rattle.packet_map.specs.Networks.{links_of, meant, network_of, numbered_switch}
use Rattle.packet_map.specs.declared.acted.Acted.{Acted}
use Rattle.packet_map.specs.declared.hop.Hop.{Hop}
use Rattle.packet_map.proofs.Finding.{switch-at}
use Rattle.packet_map.proofs.Following.{ends-here, goes-on, not-taken, not-there}
use Rattle.packet_map.proofs.walking.+follow.Goals as goal

pub returns-in_default : goal.returns-in_default
returns-in_default t c =
    let w = c.args.world.now in
    let hop = c.args.hop.now in
    let k : c.args.hops ≡ suc (c.args.hops - 1) = omega arith in
    not-there (network_of w) c.args.hops hop.v hop.header c.args.walked.now hop.rewrite (c.args.hops - 1) k
    (switch-at w.topology.now w.exprs.now hop.v None (sym c.in_default.ensures.value))

pub returns-then-not-takes : goal.returns-then-not-takes
returns-then-not-takes t c =
    let w = c.args.world.now in
    let hop = c.args.hop.now in
    let k : c.args.hops ≡ suc (c.args.hops - 1) = omega arith in
    not-taken (network_of w) c.args.hops hop.v hop.header c.args.walked.now hop.rewrite (c.args.hops - 1)
    (numbered_switch w.topology.now (hop.v, c.in-Some.expr.now)) k
    (switch-at w.topology.now w.exprs.now hop.v (Some c.in-Some.expr.now) (sym c.in-Some.ensures.value))
    (sym c.takes.ensures ∙ c.if-not-takes.true)

pub returns-in-None : goal.returns-in-None
returns-in-None t c =
    let w = c.args.world.now in
    let hop = c.args.hop.now in
    let links = links_of w.topology.now hop.v in
    let m = meant w (policy_of c.in-Some.expr.now) hop.header in
    let k : c.args.hops ≡ suc (c.args.hops - 1) = omega arith in
    let led = subst (λ (x : Hop). leads c.in_ok-acted.acted.tail (links_of w.topology.now x.v) x.header.in_port ≡ None)
    c.hop.view_is (sym c.onward.ensures ∙ c.in-None.is) in
    ends-here (network_of w) c.args.hops (c.args.hops - 1) hop.v hop.header
    (numbered_switch w.topology.now (hop.v, c.in-Some.expr.now)) m c.args.walked.now c.evaluate.new.walked
    c.evaluate.new.walked hop.rewrite k
    (switch-at w.topology.now w.exprs.now hop.v (Some c.in-Some.expr.now) (sym c.in-Some.ensures.value))
    (sym c.takes.ensures ∙ c.if-not-takes.false) refl c.in_ok-acted.ensures.walked
    (subst (λ (a : Acted). leads a.tail links hop.header.in_port ≡ None) c.in_ok-acted.ensures.acted led)

pub returns-in-Some-onward : goal.returns-in-Some-onward
returns-in-Some-onward t c =
    let w = c.args.world.now in
    let hop = c.args.hop.now in
    let links = links_of w.topology.now hop.v in
    let m = meant w (policy_of c.in-Some.expr.now) hop.header in
    let on = c.in-Some-onward.on in
    let next = c.onward-in-Some-onward.result in
    let g = ground_of (network_of w) in
    let k : c.args.hops ≡ suc (c.args.hops - 1) = omega arith in
    let led = subst (λ (x : Hop). leads c.in_ok-acted.acted.tail (links_of w.topology.now x.v) x.header.in_port
    ≡ Some on) c.hop.view_is (sym c.onward.ensures ∙ c.in-Some-onward.is) in
    let more = with_more c.evaluate.new.walked next.rewrite (walk g (c.args.hops - 1) next.v next.header) in
    let same : more ≡ with_more c.args.walked.now hop.rewrite (walk g c.args.hops hop.v hop.header) =
    goes-on (network_of w) c.args.hops (c.args.hops - 1) hop.v hop.header
    (numbered_switch w.topology.now (hop.v, c.in-Some.expr.now)) m c.args.walked.now c.evaluate.new.walked more
    hop.rewrite k
    (switch-at w.topology.now w.exprs.now hop.v (Some c.in-Some.expr.now) (sym c.in-Some.ensures.value))
    (sym c.takes.ensures ∙ c.if-not-takes.false) refl c.in_ok-acted.ensures.walked on
    (subst (λ (a : Acted). leads a.tail links hop.header.in_port ≡ Some on) c.in_ok-acted.ensures.acted led)
    (λ i. with_more c.evaluate.new.walked (c.onward-in-Some-onward.ensures.rewrite i)
    (walk g (c.args.hops - 1) (c.onward-in-Some-onward.ensures.v i) (c.onward-in-Some-onward.ensures.header i))) in
    subst (λ (z : Walked). OnOk c.follow.result (c.follow.new.walked ≡ z)) same c.follow.ensures
