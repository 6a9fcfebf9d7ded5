use Rattle.std.proofs.Common.{◌≡◌, ◌∙◌, sym, ap, ap₂, List, ℕ, Option, Some}
use Rattle.std.specs.BTreeMap.{is_at}
use Rattle.std.specs.Map.{lookup}
use Rattle.std.specs.Ordering.{nat_cmp}
use Rattle.std.specs.Prelude.{option_map}
use Rattle.of10_stats.specs.declared.reply.PortStat.{PortStat}
use Rattle.soft_net.specs.Nets.{SwitchOf, answers_at, heard, numbered, switch_of}
use Rattle.soft_net.specs.Tables.{TableOf}
use Rattle.soft_net.specs.declared.answer.Answer.{Answer}
use Rattle.soft_net.specs.declared.switch.SoftSwitch.{SoftSwitch}
use Rattle.soft_net.proofs.Netting.{numbered_kept, numbered_none, numbered_set}
use Rattle.soft_net.proofs.Outcomes.{if_ok, on_err, on_ok}
use Rattle.soft_net.proofs.stations.hear_in.Goals as goal

pub returns-in-Some-clause-answers : goal.returns-in-Some-clause-answers
returns-in-Some-clause-answers c =
    let test = is_at (nat_cmp c.args.switch) in
    let A : Option SoftSwitch → List Answer = λ o. answers_at c.args.message.now (option_map switch_of o) in
    let found : Some c.in-Some.at.now ≡ lookup test c.args.switches.now.entries = c.in-Some.ensures.value in
    if_ok (λ answers. answers ≡ A (Some c.in-Some.at.now))
    (λ answers. answers ≡ A (lookup test c.args.switches.now.entries)) c.hear.result (λ answers e. e ∙ ap A found)
    c.hear.ensures.answers

pub returns-in-Some-clause-heard : goal.returns-in-Some-clause-heard
returns-in-Some-clause-heard c =
    let S : TableOf → List (ℕ × PortStat) → SwitchOf = λ t ps. record { table = t; ports = ps } in
    on_ok _ _ c.hear.result
    (λ e. ap numbered (c.get_mut.follows.holds c.hear.new.self).0
    ∙ numbered_set (is_at (nat_cmp c.args.switch)) (heard c.args.message.now.body) c.args.switches.now.entries
    c.in-Some.at.now c.hear.new.self (sym c.in-Some.ensures.value)
    (ap₂ S e (ap (λ m. m.entries) c.hear.ensures.ports))) c.hear.ensures.table

pub returns-in-Some-clause-memory : goal.returns-in-Some-clause-memory
returns-in-Some-clause-memory c =
    let S : TableOf → List (ℕ × PortStat) → SwitchOf = λ t ps. record { table = t; ports = ps } in
    on_err _ _ c.hear.result
    (λ e. ap numbered (c.get_mut.follows.holds c.hear.new.self).0
    ∙ numbered_kept (is_at (nat_cmp c.args.switch)) c.args.switches.now.entries c.in-Some.at.now c.hear.new.self
    (sym c.in-Some.ensures.value) (ap₂ S e (ap (λ m. m.entries) c.hear.ensures.ports))) c.hear.ensures.memory

pub returns-in-None-clause-heard : goal.returns-in-None-clause-heard
returns-in-None-clause-heard c =
    ap (λ m. numbered m.entries) c.get_mut.follows.holds-at-none
    ∙ sym (numbered_none (is_at (nat_cmp c.args.switch)) (heard c.args.message.now.body) c.args.switches.now.entries
    (sym c.in-None.ensures.value))
