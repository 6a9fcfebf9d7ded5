use Rattle.std.proofs.Common.{◌≡◌, ◌∙◌, ◌==◌, Bool, true, false, not, sym, ap, subst, refl, length, map, OnOk, if◌then◌else◌}
use Rattle.std.specs.List.{list_any}
use Rattle.soft_net.specs.Changes.{added, with_actions}
use Rattle.soft_net.specs.Tables.{TableOf, changed_all, is_meant}
use Rattle.soft_net.proofs.Keeping.{not_true}
use Rattle.soft_net.proofs.Selected.{any_meant, changed_are}
use Rattle.soft_net.proofs.switch.SoftSwitch.modify.Goals as goal

not_false : (b : Bool) → not b ≡ false → b ≡ true
not_false true e = refl
not_false false e = sym e

pub returns-then-is_empty-clause-table : goal.returns-then-is_empty-clause-table
returns-then-is_empty-clause-table c =
    let t = c.args.self.now.table in
    let m = c.args.m.now in
    let p = is_meant c.args.selection.now in
    let none = not_true (list_any p t.entries) (sym (any_meant p t.entries)
    ∙ (ap (λ ss. length ss == 0) (sym c.in_ok-serials.ensures.serials) ∙ (sym c.is_empty.ensures ∙ c.if-is_empty.true))) in
    let M : Bool → Type 0 = λ b. OnOk c.add.result (c.add.new.self.table
    ≡ (if b then record t { entries = map (λ e. if p e then with_actions m.actions e else e) t.entries } else added t m)) in
    subst M (sym none) c.add.ensures.table

pub returns-clause-table : goal.returns-clause-table
returns-clause-table c =
    let t = c.args.self.now.table in
    let m = c.args.m.now in
    let p = is_meant c.args.selection.now in
    let some = not_false (list_any p t.entries) (sym (any_meant p t.entries)
    ∙ (ap (λ ss. length ss == 0) (sym c.in_ok-serials.ensures.serials) ∙ (sym c.is_empty.ensures ∙ c.if-is_empty.false))) in
    let M : Bool → TableOf = λ b. if b
    then record t { entries = map (λ e. if p e then with_actions m.actions e else e) t.entries } else added t m in
    c.in_ok-set_all.ensures.changed
    ∙ (ap (λ ss. changed_all ss (with_actions m.actions) t) (c.as_slice.ensures ∙ c.in_ok-serials.ensures.serials)
    ∙ (changed_are (with_actions m.actions) (λ e. refl) (λ e. refl) p t c.meant.ensures.rising ∙ sym (ap M some)))
