use Rattle.switch_meaning.proofs.Batched.{batch-gives-table, fresh-gives-table, order-is-free}
use Rattle.switch_meaning.proofs.ByKey.{installed-has-one-a-key, sorted-by-key}
use Rattle.switch_meaning.proofs.laws.batching.Goals as goal

pub returns-clause-from_table : goal.returns-clause-from_table
returns-clause-from_table c = batch-gives-table

pub returns-clause-from_any : goal.returns-clause-from_any
returns-clause-from_any c = fresh-gives-table

pub returns-clause-any_order : goal.returns-clause-any_order
returns-clause-any_order c = order-is-free

pub returns-clause-by_key : goal.returns-clause-by_key
returns-clause-by_key c = sorted-by-key

pub returns-clause-installed : goal.returns-clause-installed
returns-clause-installed c = installed-has-one-a-key
