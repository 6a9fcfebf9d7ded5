use Rattle.std.proofs.Common.{ℕ, ◌∙◌, List, ap}
use Rattle.soft_net.specs.Nets.{NetOf, SwitchOf, changed_switch, counted}
use Rattle.soft_net.proofs.net.Net.count_one.Goals as goal

pub returns : goal.returns
returns c =
    let V : List (ℕ × SwitchOf) → NetOf = λ ps. record { plan = c.self.inside.topology; switches = ps } in
    ap V c.count_in.ensures ∙ ap (changed_switch c.args.hit.switch (counted c.args.hit.hit)) c.self.view_is
