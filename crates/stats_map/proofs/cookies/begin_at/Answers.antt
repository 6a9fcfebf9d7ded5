use Rattle.std.proofs.Common.{refl, ap, ◌∙◌}
use Rattle.std.specs.BTreeMap.{is_at}
use Rattle.std.specs.Map.{lookup}
use Rattle.cv_io.specs.declared.leaf.Leaf.{Leaf}
use Rattle.std.specs.Prelude.{List}
use Rattle.switch_meaning.specs.Counts.{Cookie}
use Rattle.stats_map.specs.Counting.{place_cmp}
use Rattle.stats_map.proofs.Adding.{on-err}
use Rattle.stats_map.proofs.Beginning.{begin-seen, begin-sums, more-seen, more-sums}
use Rattle.stats_map.proofs.Rows.{nothing}
use Rattle.stats_map.proofs.cookies.begin_at.Goals as goal

-- a cookie of which nothing was reported
abbrev made : List Leaf → Cookie
made ancestry = record { ancestry = ancestry; numbers = record { packets = 0; bytes = 0 } }

pub returns-in_err-add_leaves-clause-sums : goal.returns-in_err-add_leaves-clause-sums
returns-in_err-add_leaves-clause-sums c = more-sums c.args.live.now.entries c.args.sums.now.entries
    c.add_leaves.new.sums.entries c.add_leaves.ensures.more c.args.live.now.entries refl c.requires

pub returns-in_err-add_leaves-clause-memory : goal.returns-in_err-add_leaves-clause-memory
returns-in_err-add_leaves-clause-memory c =
    on-err c.from_residual.result _
    (more-seen c.args.live.now.entries c.args.sums.now.entries c.add_leaves.new.sums.entries
    c.add_leaves.ensures.more c.args.live.now.entries refl)

pub returns-in_err-copy-clause-sums : goal.returns-in_err-copy-clause-sums
returns-in_err-copy-clause-sums c = more-sums c.args.live.now.entries c.args.sums.now.entries
    c.add_leaves.new.sums.entries c.add_leaves.ensures.more c.args.live.now.entries refl c.requires

pub returns-in_err-copy-clause-memory : goal.returns-in_err-copy-clause-memory
returns-in_err-copy-clause-memory c =
    on-err c.from_residual-in_err-copy.result _
    (more-seen c.args.live.now.entries c.args.sums.now.entries c.add_leaves.new.sums.entries
    c.add_leaves.ensures.more c.args.live.now.entries refl)

pub returns-in_err-insert-clause-sums : goal.returns-in_err-insert-clause-sums
returns-in_err-insert-clause-sums c =
    more-sums c.args.live.now.entries c.args.sums.now.entries c.add_leaves.new.sums.entries c.add_leaves.ensures.more
    c.insert.new.self.entries c.in_err-insert.ensures.err c.requires

pub returns-in_err-insert-clause-memory : goal.returns-in_err-insert-clause-memory
returns-in_err-insert-clause-memory c =
    on-err c.from_residual-in_err-insert.result _
    (more-seen c.args.live.now.entries c.args.sums.now.entries c.add_leaves.new.sums.entries c.add_leaves.ensures.more
    c.insert.new.self.entries c.in_err-insert.ensures.err)

pub returns-clause-sums : goal.returns-clause-sums
returns-clause-sums c =
    let none = nothing (lookup (is_at (place_cmp c.args.place)) c.args.live.now.entries) c.contains_key.result
    c.contains_key.ensures c.if-contains_key.false in
    let fresh = c.new.ensures ∙ ap made c.in_ok-copy.ensures in
    begin-sums c.args.live.now.entries c.args.sums.now.entries c.add_leaves.new.sums.entries c.add_leaves.ensures.more
    c.args.place c.new.result c.as_slice.result.now c.args.ancestry.now fresh
    c.as_slice.ensures c.len.ensures.ordered none c.in_ok-add_leaves.ensures.there c.requires c.insert.new.self.entries
    c.change_each.new.sums.entries c.in_ok-insert.ensures.entries c.change_each.ensures

pub returns-clause-installed : goal.returns-clause-installed
returns-clause-installed c =
    let none = nothing (lookup (is_at (place_cmp c.args.place)) c.args.live.now.entries) c.contains_key.result
    c.contains_key.ensures c.if-contains_key.false in
    let fresh = c.new.ensures ∙ ap made c.in_ok-copy.ensures in
    begin-seen c.args.live.now.entries c.args.sums.now.entries c.add_leaves.new.sums.entries c.add_leaves.ensures.more
    c.args.place c.new.result c.as_slice.result.now c.args.ancestry.now fresh
    c.as_slice.ensures c.len.ensures.ordered none c.in_ok-add_leaves.ensures.there c.requires c.insert.new.self.entries
    c.change_each.new.sums.entries c.in_ok-insert.ensures.entries c.change_each.ensures
