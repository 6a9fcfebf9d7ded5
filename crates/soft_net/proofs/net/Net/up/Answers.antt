use Rattle.std.proofs.Common.{◌∙◌, ℕ, List, Option, Some, ap, sym}
use Rattle.std.specs.Prelude.{option_map}
use Rattle.soft_net.specs.Nets.{NetOf, SwitchOf, numbered, switch_of, with_switch}
use Rattle.soft_net.proofs.Netting.{numbered_inserted}
use Rattle.soft_net.proofs.net.Net.up.Goals as goal

pub returns-in_ok-insert-in-Some-clause-up : goal.returns-in_ok-insert-in-Some-clause-up
returns-in_ok-insert-in-Some-clause-up c =
    let s = c.args.switch in
    let V : List (ℕ × SwitchOf) → NetOf = λ ps. record { plan = c.self.inside.topology; switches = ps } in
    ap V (ap numbered c.in_ok-insert-in-Some.ensures.entries
    ∙ numbered_inserted c.self.inside.switches.entries s c.in-Some.fresh)
    ∙ (ap (λ (n : NetOf). with_switch s (Some (switch_of c.in-Some.fresh)) n) c.self.view_is
    ∙ ap (λ (o : Option SwitchOf). with_switch s o c.args.self.now)
    (sym (ap (option_map switch_of) c.in-Some.is) ∙ c.in_ok-fresh.ensures))
