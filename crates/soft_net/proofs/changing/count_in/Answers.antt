use Rattle.std.proofs.Common.{ℕ, ◌∙◌, sym, ap, ap₂}
use Rattle.std.specs.BTreeMap.{is_at}
use Rattle.std.specs.Map.{set_value}
use Rattle.std.specs.Ordering.{nat_cmp}
use Rattle.soft_net.specs.Counting.{counted}
use Rattle.soft_net.specs.declared.entry.SoftEntry.{SoftEntry}
use Rattle.soft_net.proofs.Written.{none_changed, set_changed}
use Rattle.soft_net.proofs.changing.count_in.Goals as goal

pub returns-in-Some : goal.returns-in-Some
returns-in-Some c =
    let ps = c.args.entries.now.entries in
    let v = c.in-Some.entry.now in
    let test = is_at (nat_cmp c.args.serial) in
    let W : ℕ → ℕ → SoftEntry = λ p b. record v { packets = p; bytes = b } in
    (c.get_mut.follows.holds (W c.saturating_add-entry.result c.saturating_add-entry-in-Some.result)).0
    ∙ (ap (λ w. set_value test ps w) (ap₂ W c.saturating_add-entry.ensures c.saturating_add-entry-in-Some.ensures)
    ∙ set_changed test (counted c.args.bytes) ps v (sym c.in-Some.ensures.value))

pub returns-in-None : goal.returns-in-None
returns-in-None c =
    ap (λ m. m.entries) c.get_mut.follows.holds-at-none
    ∙ sym (none_changed (is_at (nat_cmp c.args.serial)) (counted c.args.bytes) c.args.entries.now.entries
    (sym c.in-None.ensures.value))
