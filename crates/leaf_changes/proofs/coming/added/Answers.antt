use Rattle.std.proofs.Common.{◌∙◌, ap, sym, Option, None, Some, option_map}
use Rattle.std.specs.Prelude.{if◌then◌else◌}
use Rattle.member_table.specs.declared.entry.Entry.{Entry}
use Rattle.member_state.specs.Leaves.{leaf_by}
use Rattle.leaf_changes.specs.Touched.{staying}
use Rattle.leaf_changes.proofs.coming.added.Goals as goal

pub returns-then-is_dropped : goal.returns-then-is_dropped
returns-then-is_dropped c =
    let p = c.args.planned.now in
    let e = c.in-Some.entry in
    sym (ap (λ (o : Option Entry). option_map (leaf_by p.levels c.args.member c.args.ports.now) (staying p.dropped o))
    c.in-Some.is
    ∙ ap (λ b. option_map (leaf_by p.levels c.args.member c.args.ports.now) (if b then None else Some e))
    (sym c.is_dropped.ensures ∙ c.if-is_dropped.true))

pub returns : goal.returns
returns c =
    let p = c.args.planned.now in
    let e = c.in-Some.entry in
    ap Some c.in_ok-leaf_entry.ensures
    ∙ sym (ap (λ (o : Option Entry). option_map (leaf_by p.levels c.args.member c.args.ports.now) (staying p.dropped o))
    c.in-Some.is
    ∙ ap (λ b. option_map (leaf_by p.levels c.args.member c.args.ports.now) (if b then None else Some e))
    (sym c.is_dropped.ensures ∙ c.if-is_dropped.false))
