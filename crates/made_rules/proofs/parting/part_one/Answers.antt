use Rattle.made_rules.proofs.Parted.{gone-last}
use Rattle.made_rules.proofs.parting.part_one.Goals as goal

pub returns-in_ok-push-in-Greater-clause-parted : goal.returns-in_ok-push-in-Greater-clause-parted
returns-in_ok-push-in-Greater-clause-parted c all others p =
    gone-last all others _ _ _ _ c.deref.result.now _ _ c.deref-2.result.now _ c.in-Some.old c.order_of_last.result
    c.deref.ensures.value c.deref-2.ensures.value c.order_of_last.ensures
    c.requires.come c.in-Some.ensures.items c.in_ok-push-in-Greater.ensures.items c.in-Greater.is p
