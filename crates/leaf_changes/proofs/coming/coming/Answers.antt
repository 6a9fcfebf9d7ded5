use Rattle.std.proofs.Common.{◌∙◌, ◌++◌, List, Option, sym, ap₂}
use Rattle.std.specs.Prelude.{filter_map, option_to_list}
use Rattle.member_table.specs.declared.entry.Entry.{Entry}
use Rattle.member_state.specs.Leaves.{leaf_by}
use Rattle.policy_meaning.specs.declared.leaf.LeafEntry.{LeafEntry}
use Rattle.leaf_changes.specs.Touched.{changed_in, staying}
use Rattle.leaf_changes.proofs.Lists.{map_added}
use Rattle.leaf_changes.proofs.coming.coming.Goals as goal

pub returns : goal.returns
returns c =
    let p = c.args.planned.now in
    let f : Entry → LeafEntry = leaf_by p.levels c.args.member c.args.ports.now in
    let changed : List Entry = filter_map (changed_in c.args.kept.now.state.table.entries p) p.change.modified in
    c.in_ok-push_some.ensures.pushed
    ∙ (ap₂ (λ (xs : List LeafEntry) (o : Option LeafEntry). xs ++ option_to_list o) c.in_ok-entries.ensures
    c.in_ok-added.ensures
    ∙ sym (map_added f changed (staying p.dropped p.change.added)))
