use Rattle.std.proofs.Common.{◌∙◌, ◌++◌, sym}
use Rattle.shared_list.proofs.Runs.{joined_more}
use Rattle.shared_list.proofs.list.SharedList.listed.Goals as goal

pub loop-run-preserved : goal.loop-run-preserved
loop-run-preserved g c =
    let items = c.as_slice-run-items.result.now in
    let before = c.loop-run.invariant in
    let copied = c.in_ok-copy.ensures ∙ c.deref.ensures in
    c.in_ok-append.ensures.appended
    ∙ ((λ i. before i ++ copied i)
    ∙ sym (joined_more items c.loop-run.run-index c.run-item.result c.loop-run-test.true c.run-item.is))
