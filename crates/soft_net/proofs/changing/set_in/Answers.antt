use Rattle.std.proofs.Common.{◌∙◌, sym, ap}
use Rattle.std.specs.BTreeMap.{is_at}
use Rattle.std.specs.Ordering.{nat_cmp}
use Rattle.soft_net.specs.Changes.{with_actions}
use Rattle.soft_net.proofs.Written.{none_changed, set_changed}
use Rattle.soft_net.proofs.changing.set_in.Goals as goal

pub returns-in-Some : goal.returns-in-Some
returns-in-Some c =
    let ps = c.args.entries.now.entries in
    let v = c.in-Some.entry.now in
    let test = is_at (nat_cmp c.args.serial) in
    (c.get_mut.follows.holds (with_actions c.args.actions v)).0
    ∙ set_changed test (with_actions c.args.actions) ps v (sym c.in-Some.ensures.value)

pub returns-in-None : goal.returns-in-None
returns-in-None c =
    ap (λ m. m.entries) c.get_mut.follows.holds-at-none
    ∙ sym (none_changed (is_at (nat_cmp c.args.serial)) (with_actions c.args.actions) c.args.entries.now.entries
    (sym c.in-None.ensures.value))
