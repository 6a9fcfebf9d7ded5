use Rattle.std.proofs.Common.{◌≡◌, ◌∙◌, ℕ, List, Option, ap, sym}
use Rattle.std.specs.BTreeMap.{is_at}
use Rattle.std.specs.Ordering.{nat_cmp}
use Rattle.soft_net.specs.Nets.{NetOf, SwitchOf, answers_at, changed_switch, heard, net_answers}
use Rattle.soft_net.proofs.Netting.{lookup_numbered}
use Rattle.soft_net.proofs.Outcomes.{if_ok, on_err, on_ok}
use Rattle.soft_net.proofs.net.Net.apply.Goals as goal

pub returns-clause-answers : goal.returns-clause-answers
returns-clause-answers c =
    let A : Option SwitchOf → List _ = λ o. answers_at c.args.message.now o in
    if_ok _ (λ answers. answers ≡ net_answers c.args.self.now c.args.switch c.args.message.now) c.hear_in.result
    (λ answers e. e ∙ (ap A (sym (lookup_numbered (is_at (nat_cmp c.args.switch)) c.self.inside.switches.entries))
    ∙ ap (λ (n : NetOf). net_answers n c.args.switch c.args.message.now) c.self.view_is)) c.hear_in.ensures.answers

pub returns-clause-net : goal.returns-clause-net
returns-clause-net c =
    let V : List (ℕ × SwitchOf) → NetOf = λ ps. record { plan = c.self.inside.topology; switches = ps } in
    on_ok _ _ c.hear_in.result
    (λ e. ap V e ∙ ap (changed_switch c.args.switch (heard c.args.message.now.body)) c.self.view_is)
    c.hear_in.ensures.heard

pub returns-clause-memory : goal.returns-clause-memory
returns-clause-memory c =
    let V : List (ℕ × SwitchOf) → NetOf = λ ps. record { plan = c.self.inside.topology; switches = ps } in
    on_err _ _ c.hear_in.result (λ e. ap V e ∙ c.self.view_is) c.hear_in.ensures.memory
