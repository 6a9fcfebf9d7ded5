use Rattle.std.proofs.Common.{◌≡◌, ◌∙◌, ℕ, Some, None, ap, ap₂, sym}
use Rattle.std.specs.BTreeMap.{is_at}
use Rattle.std.specs.Ordering.{nat_cmp}
use Rattle.std.specs.Prelude.{option_map}
use Rattle.soft_net.specs.Nets.{NetOf, both, passed_on, sends_at, switch_at, switch_of, taken_up}
use Rattle.soft_net.specs.declared.cabled.NetPassed.{NetPassed}
use Rattle.soft_net.specs.declared.passed.Passed.{Passed}
use Rattle.soft_net.proofs.Netting.{lookup_numbered}
use Rattle.soft_net.proofs.net.Net.send.Goals as goal

pub returns-in_ok-spread-in-Some : goal.returns-in_ok-spread-in-Some
returns-in_ok-spread-in-Some c =
    let n = c.args.self.now in
    let s = c.args.switch in
    let at : switch_at n s ≡ Some (switch_of c.in-Some.at.now) =
    ap (λ (m : NetOf). switch_at m s) (sym c.self.view_is)
    ∙ (lookup_numbered (is_at (nat_cmp s)) c.self.inside.switches.entries
    ∙ ap (option_map switch_of) (sym c.in-Some.ensures.value)) in
    let P : ℕ → Passed → NetPassed = λ k passed. passed_on n.plan (taken_up n k) s passed in
    c.in_ok-spread-in-Some.ensures
    ∙ (ap (λ (a : NetPassed). both a (P c.turns.result c.in_ok-sent-in-Some.sent)) c.new-passed.ensures
    ∙ (ap₂ P c.turns.ensures.turns c.in_ok-sent-in-Some.ensures ∙ ap (sends_at n s c.args.body.now) (sym at)))

pub returns-in-None : goal.returns-in-None
returns-in-None c =
    let n = c.args.self.now in
    let s = c.args.switch in
    let at : switch_at n s ≡ None =
    ap (λ (m : NetOf). switch_at m s) (sym c.self.view_is)
    ∙ (lookup_numbered (is_at (nat_cmp s)) c.self.inside.switches.entries
    ∙ ap (option_map switch_of) (sym c.in-None.ensures.value)) in
    c.new-passed.ensures ∙ ap (sends_at n s c.args.body.now) (sym at)
