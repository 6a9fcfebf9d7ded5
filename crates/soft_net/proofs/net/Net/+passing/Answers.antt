use Rattle.std.proofs.Common.{◌≡◌, ◌∙◌, ◌-◌, Some, None, ap, sym}
use Rattle.std.specs.BTreeMap.{is_at}
use Rattle.std.specs.Ordering.{nat_cmp}
use Rattle.std.specs.Prelude.{option_map}
use Rattle.soft_net.specs.Nets.{NetOf, both, passed_on, switch_at, switch_of, taken_up}
use Rattle.soft_net.proofs.Netting.{lookup_numbered}
use Rattle.soft_net.proofs.Onward.{both_nothing, one_went, took}
use Rattle.soft_net.proofs.Outcomes.{on_ok}
use Rattle.soft_net.proofs.net.Net.+passing.Goals as goal

pub spread-loop-packet-preserved : goal.spread-loop-packet-preserved
spread-loop-packet-preserved t c =
    one_went c.args.self.now.plan (taken_up c.args.self.now c.args.turns) c.args.switch c.loop-packet.yielded
    c.in-Some.packet c.note.new.self c.loop-packet.all c.go.new.all c.loop-packet.invariant c.in_ok-go.ensures

pub take_up-returns-in_ok-passed-in-Some : goal.take_up-returns-in_ok-passed-in-Some
take_up-returns-in_ok-passed-in-Some t c =
    let n = c.args.self.now in
    let s = c.args.switch in
    let all = c.args.all.now in
    let seen = switch_of c.in-Some.at.now in
    let at : switch_at n s ≡ Some seen =
    ap (λ (m : NetOf). switch_at m s) (sym c.self.view_is)
    ∙ (lookup_numbered (is_at (nat_cmp s)) c.self.inside.switches.entries
    ∙ ap (option_map switch_of) (sym c.in-Some.ensures.value)) in
    let on = taken_up n (c.args.turns - 1) in
    on_ok (c.spread.new.all ≡ both all (passed_on n.plan on s c.in_ok-passed-in-Some.passed))
    (c.spread.new.all ≡ both all (taken_up n c.args.turns s c.args.port c.args.frame.now)) c.spread.result
    (λ e. e ∙ ap (both all) (ap (passed_on n.plan on s) c.in_ok-passed-in-Some.ensures
    ∙ sym (took n c.args.turns s c.args.port c.args.frame.now (Some seen) c.if-turns-eq0.false at)))
    c.spread.ensures

pub take_up-returns-in-None : goal.take_up-returns-in-None
take_up-returns-in-None t c =
    let n = c.args.self.now in
    let s = c.args.switch in
    let at : switch_at n s ≡ None =
    ap (λ (m : NetOf). switch_at m s) (sym c.self.view_is)
    ∙ (lookup_numbered (is_at (nat_cmp s)) c.self.inside.switches.entries
    ∙ ap (option_map switch_of) (sym c.in-None.ensures.value)) in
    sym (both_nothing c.args.all.now)
    ∙ ap (both c.args.all.now) (sym (took n c.args.turns s c.args.port c.args.frame.now None c.if-turns-eq0.false at))
