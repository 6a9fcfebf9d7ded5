use Rattle.std.proofs.Common.{◌∙◌, sym, ap}
use Rattle.std.specs.BTreeMap.{is_at}
use Rattle.std.specs.Map.{set_value}
use Rattle.std.specs.Ordering.{nat_cmp}
use Rattle.soft_net.specs.Counting.{sent}
use Rattle.soft_net.proofs.Written.{none_changed, set_changed}
use Rattle.soft_net.proofs.counting.count_sent.Goals as goal

pub returns-in-Some : goal.returns-in-Some
returns-in-Some c =
    let ps = c.args.ports.now.entries in
    let test = is_at (nat_cmp c.args.port) in
    (c.get_mut.follows.holds c.sent.result).0 ∙ (ap (λ w. set_value test ps w) c.sent.ensures
    ∙ set_changed test (sent c.args.bytes) ps c.in-Some.stat.now (sym c.in-Some.ensures.value))

pub returns-in-None : goal.returns-in-None
returns-in-None c =
    ap (λ m. m.entries) c.get_mut.follows.holds-at-none
    ∙ sym (none_changed (is_at (nat_cmp c.args.port)) (sent c.args.bytes) c.args.ports.now.entries
    (sym c.in-None.ensures.value))
