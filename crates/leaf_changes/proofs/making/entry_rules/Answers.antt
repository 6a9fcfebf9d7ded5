use Rattle.std.proofs.Common.{◌∙◌, filter, ap}
use Rattle.policy_meaning.specs.LeafRules.{leaf_rules}
use Rattle.leaf_changes.specs.Told.{is_of_entry, table_with}
use Rattle.leaf_changes.proofs.Rules.{entries_only}
use Rattle.leaf_changes.proofs.making.entry_rules.Goals as goal

pub returns : goal.returns
returns c =
    let ports = c.args.ports.now in
    c.from_vec.ensures
    ∙ (c.keep_entries.ensures
    ∙ (ap (filter is_of_entry)
    (c.into_vec-rules.ensures ∙ (c.in_ok-rules.ensures ∙ ap (leaf_rules ports) c.in_ok-table.ensures))
    ∙ entries_only ports (table_with c.args.member c.args.grant.now c.args.size c.args.entries)))
