use Rattle.std.proofs.Common.{◌≡◌, ◌∙◌, ◌==◌, ◌&&◌, ℕ, Bool, true, false, not, List, length, map, sym, ap, ap₂, subst}
use Rattle.std.proofs.Common.{refl, IfOk, IfErr, OnOk, Option, None, if◌then◌else◌}
use Rattle.std.specs.List.{list_any, AllByRecursion}
use Rattle.member_table.specs.Changes.{IsInRange}
use Rattle.member_table.specs.Planning.{addition, changing, modification}
use Rattle.member_table.specs.Refusals.{IsFaultOf, refusal_of}
use Rattle.member_table.specs.Tables.{TableOf, identity_in, is_meant, outputs_to}
use Rattle.member_table.specs.Timeouts.{serials_of}
use Rattle.member_table.specs.declared.change.Change.{Change}
use Rattle.member_table.specs.declared.change.Modified.{Modified}
use Rattle.member_table.specs.declared.entry.Identity.{Identity}
use Rattle.member_table.specs.declared.fault.TableFault.{TableFault}
use Rattle.of10_msgs.specs.declared.message.FlowMod.{FlowMod}
use Rattle.member_table.proofs.Plans.{any_port, each_in_range, something_passes}
use Rattle.member_table.proofs.table.Table.plan_actions.Goals as goal

not_true : (b : Bool) → not b ≡ true → b ≡ false
not_true true e = sym e
not_true false e = refl

not_false : (b : Bool) → not b ≡ false → b ≡ true
not_false true e = refl
not_false false e = sym e

-- whether something is meant, by the list of what is meant
any_meant : (strict b : Bool) (k k' : Identity) (t : TableOf) (items : List ℕ) → k ≡ k'
    → items ≡ serials_of (λ e. is_meant strict k e && outputs_to 65535 e) t.entries → (length items == 0) ≡ b
    → not (list_any (is_meant strict k') t.entries) ≡ b
any_meant strict b k k' t items s e n =
    sym (something_passes (is_meant strict k') t.entries)
    ∙ (ap (λ ns. length ns == 0)
    (sym (e ∙ (any_port (is_meant strict k) t.entries ∙ ap (λ q. serials_of (is_meant strict q) t.entries) s))) ∙ n)

unmeant : (strict : Bool) (t : TableOf) (m : FlowMod) (now : ℕ)
    → list_any (is_meant strict (identity_in m)) t.entries ≡ false → modification strict t m now ≡ addition t m now
unmeant strict t m now n =
    ap (λ b. if b then changing m.actions (serials_of (is_meant strict (identity_in m)) t.entries)
    else addition t m now) n

pub returns-then-is_empty-clause-change : goal.returns-then-is_empty-clause-change
returns-then-is_empty-clause-change c =
    let t = c.args.self.now.table in
    let none =
    not_true _ (any_meant c.args.strict true c.args.asked.now (identity_in c.args.m.now) t c.in_ok-meant.meant.items
    c.requires.identity c.in_ok-meant.ensures (ap (λ ns. length ns == 0) (sym c.as_slice.ensures.value)
    ∙ sym c.if-is_empty.ensures)) in
    let P : Change → Type 0 = λ n. IfOk c.plan_entry.result (λ change. change ≡ n) in
    subst P (sym (unmeant c.args.strict t c.args.m.now c.args.now none)) c.plan_entry.ensures.change

pub returns-then-is_empty-clause-accepted : goal.returns-then-is_empty-clause-accepted
returns-then-is_empty-clause-accepted c =
    let t = c.args.self.now.table in
    let none =
    not_true _ (any_meant c.args.strict true c.args.asked.now (identity_in c.args.m.now) t c.in_ok-meant.meant.items
    c.requires.identity c.in_ok-meant.ensures (ap (λ ns. length ns == 0) (sym c.as_slice.ensures.value)
    ∙ sym c.if-is_empty.ensures)) in
    let P : Option TableFault → Type 0 = λ o. OnOk c.plan_entry.result (o ≡ None) in
    subst P (sym (ap (λ b. if b then None else refusal_of (identity_in c.args.m.now) t) none))
    c.plan_entry.ensures.accepted

pub returns-then-is_empty-clause-fault : goal.returns-then-is_empty-clause-fault
returns-then-is_empty-clause-fault c =
    let t = c.args.self.now.table in
    let none =
    not_true _ (any_meant c.args.strict true c.args.asked.now (identity_in c.args.m.now) t c.in_ok-meant.meant.items
    c.requires.identity c.in_ok-meant.ensures (ap (λ ns. length ns == 0) (sym c.as_slice.ensures.value)
    ∙ sym c.if-is_empty.ensures)) in
    let P : Option TableFault → Type 0 = λ o. IfErr c.plan_entry.result (IsFaultOf o) in
    subst P (sym (ap (λ b. if b then None else refusal_of (identity_in c.args.m.now) t) none))
    c.plan_entry.ensures.fault

pub returns-clause-change : goal.returns-clause-change
returns-clause-change c =
    let t = c.args.self.now.table in
    let m = c.args.m.now in
    let some =
    not_false _ (any_meant c.args.strict false c.args.asked.now (identity_in m) t c.in_ok-meant.meant.items
    c.requires.identity c.in_ok-meant.ensures (ap (λ ns. length ns == 0) (sym c.as_slice.ensures.value)
    ∙ sym c.if-is_empty.ensures)) in
    let serials = c.as_slice-2.ensures.value
    ∙ (c.in_ok-meant.ensures
    ∙ (any_port (is_meant c.args.strict c.args.asked.now) t.entries
    ∙ ap (λ k. serials_of (is_meant c.args.strict k) t.entries) c.requires.identity)) in
    let Changed : List ℕ → List Modified = λ ss. map (λ s. record { serial = s; actions = m.actions }) ss in
    ap₂ (λ rs ms. record { added = None; removed = rs; modified = ms }) c.new.ensures
    (c.in_ok-changes.ensures ∙ ap Changed serials)
    ∙ sym (ap (λ b. if b then changing m.actions (serials_of (is_meant c.args.strict (identity_in m)) t.entries)
    else addition t m c.args.now) some)

pub returns-clause-accepted : goal.returns-clause-accepted
returns-clause-accepted c =
    let t = c.args.self.now.table in
    let some =
    not_false _ (any_meant c.args.strict false c.args.asked.now (identity_in c.args.m.now) t
    c.in_ok-meant.meant.items c.requires.identity c.in_ok-meant.ensures
    (ap (λ ns. length ns == 0) (sym c.as_slice.ensures.value) ∙ sym c.if-is_empty.ensures)) in
    ap (λ b. if b then None else refusal_of (identity_in c.args.m.now) t) some

pub returns-clause-ready : goal.returns-clause-ready
returns-clause-ready c =
    let C : List Modified → Type 0 = AllByRecursion IsInRange in
    record {
      added = tt;
      modified = subst C (sym c.in_ok-changes.ensures)
          (each_in_range c.args.m.now.actions c.as_slice-2.result.now c.requires.in_range);
    }
