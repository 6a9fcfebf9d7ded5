use Rattle.std.proofs.Common.{None, Some, rules}
use Rattle.pull_back.proofs.Exactness.{exact_at, some_at, none_at}
use Rattle.pull_back.proofs.pulling.pull.Goals as goal

pub returns-then-can_pull-clause-exact : goal.returns-then-can_pull-clause-exact
returns-then-can_pull-clause-exact c =
    exact_at c.args.rewrite.now c.args.m.now (Some c.asked_before.result) (search rules)

pub returns-then-can_pull-clause-none : goal.returns-then-can_pull-clause-none
returns-then-can_pull-clause-none c =
    some_at c.args.rewrite.now c.args.m.now c.asked_before.result (search rules) (search rules)

pub returns-else-can_pull-clause-exact : goal.returns-else-can_pull-clause-exact
returns-else-can_pull-clause-exact c = exact_at c.args.rewrite.now c.args.m.now None (search rules)

pub returns-else-can_pull-clause-none : goal.returns-else-can_pull-clause-none
returns-else-can_pull-clause-none c =
    none_at c.args.rewrite.now c.args.m.now (search rules)
