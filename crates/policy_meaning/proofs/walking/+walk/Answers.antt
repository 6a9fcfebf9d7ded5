use Rattle.std.proofs.Common.{◌≡◌, suc, ◌-◌, IfOk, ap, subst, sym, ◌∙◌, arith, None, Some}
use Rattle.of10_match.specs.Fields.{HeaderOf}
use Rattle.policy_meaning.specs.Hops.{leads as leads_of}
use Rattle.policy_meaning.specs.Walk.{here as here_of, walk as walk_of, arriving as arriving_of}
use Rattle.policy_meaning.specs.Networks.{ground_of}
use Rattle.policy_meaning.specs.declared.walking.Walked.{Walked}
use Rattle.policy_meaning.proofs.Stepping.{walk-ends, walk-on}
use Rattle.policy_meaning.proofs.walking.+walk.Goals as goal

pub returns : goal.returns
returns t c =
    let came : c.header.inside.in_port ≡ c.args.header.now.in_port =
    ap (λ (k : HeaderOf). k.in_port) c.header.view_is in
    let on = c.in-Some-leads.on in
    let next : c.in_ok-next-in-Some-leads.next ≡ walk_of (ground_of c.args.network.now) (c.args.hops - 1) on.place.v
    (arriving_of on.rewrite on.place.port c.args.header.now) =
    rw (← c.arriving.ensures) c.in_ok-next-in-Some-leads.ensures in
    let more : c.args.hops ≡ suc (c.args.hops - 1) = omega arith in
    subst (λ (z : Walked). IfOk c.both_walked.result (λ walked. walked ≡ z))
    (walk-on c.args.network.now c.args.hops (c.args.hops - 1) c.args.v c.args.header.now _ c.in_ok-meaning.meaning
    c.in_ok-walked.walked c.in_ok-next-in-Some-leads.next on
    more (sym c.in-Some.ensures.value ∙ ap Some (sym c.switch.view_is)) (sym c.takes.ensures ∙ c.if-not-takes.false)
    c.in_ok-meaning.ensures
    (subst (λ p. c.in_ok-walked.walked ≡ here_of c.args.v p c.in_ok-meaning.meaning.outs) came c.in_ok-walked.ensures)
    (subst (λ p. leads_of c.in_ok-meaning.meaning.tail c.switch.inside.links p ≡ Some on) came
    (sym c.leads.ensures ∙ c.in-Some-leads.is)) next)
    c.both_walked.ensures

pub returns-in-None : goal.returns-in-None
returns-in-None t c =
    let came : c.header.inside.in_port ≡ c.args.header.now.in_port =
    ap (λ (k : HeaderOf). k.in_port) c.header.view_is in
    let more : c.args.hops ≡ suc (c.args.hops - 1) = omega arith in
    walk-ends c.args.network.now c.args.hops (c.args.hops - 1) c.args.v c.args.header.now _ c.in_ok-meaning.meaning
    c.in_ok-walked.walked
    more (sym c.in-Some.ensures.value ∙ ap Some (sym c.switch.view_is)) (sym c.takes.ensures ∙ c.if-not-takes.false)
    c.in_ok-meaning.ensures
    (subst (λ p. c.in_ok-walked.walked ≡ here_of c.args.v p c.in_ok-meaning.meaning.outs) came c.in_ok-walked.ensures)
    (subst (λ p. leads_of c.in_ok-meaning.meaning.tail c.switch.inside.links p ≡ None) came
    (sym c.leads.ensures ∙ c.in-None.is))
