use Rattle.std.proofs.Common.{ℕ, ◌∙◌, List, ap}
use Rattle.std.specs.BTreeMap.{is_at}
use Rattle.std.specs.Ordering.{nat_cmp}
use Rattle.soft_net.specs.Nets.{NetOf, SwitchOf, numbered, with_down}
use Rattle.soft_net.proofs.Netting.{numbered_removed}
use Rattle.soft_net.proofs.net.Net.down.Goals as goal

pub returns : goal.returns
returns c =
    let V : List (ℕ × SwitchOf) → NetOf = λ ps. record { plan = c.self.inside.topology; switches = ps } in
    ap V (ap numbered c.remove.ensures.entries
    ∙ numbered_removed (is_at (nat_cmp c.args.switch)) c.self.inside.switches.entries)
    ∙ ap (with_down c.args.switch) c.self.view_is
