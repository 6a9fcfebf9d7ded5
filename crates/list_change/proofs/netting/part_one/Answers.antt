use Rattle.list_change.proofs.Parted.{both-taken, come-taken, gone-taken}
use Rattle.list_change.proofs.netting.part_one.Goals as goal

pub returns-in_ok-push-in-Greater-clause-parted : goal.returns-in_ok-push-in-Greater-clause-parted
returns-in_ok-push-in-Greater-clause-parted g c all others p =
    gone-taken g.met.T.Ord.total all others _ _ _ _ _ _ _ c.order_of_last.result c.deref.ensures.value
    c.deref-2.ensures.value c.order_of_last.ensures
    _ _ c.in-Some.was c.requires.come c.in-Some.ensures.items c.in_ok-push-in-Greater.ensures.items c.in-Greater.is p

pub returns-in_ok-push-in-Less-clause-parted : goal.returns-in_ok-push-in-Less-clause-parted
returns-in_ok-push-in-Less-clause-parted g c all others p =
    come-taken g.met.T.Ord.total all others _ _ _ _ _ _ _ c.order_of_last.result c.deref.ensures.value
    c.deref-2.ensures.value c.order_of_last.ensures
    _ _ c.in-Some-pop.is' c.requires.gone c.in-Some-pop.ensures.items c.in_ok-push-in-Less.ensures.items c.in-Less.is p

pub returns-in_ok-push-in-Equal-clause-parted : goal.returns-in_ok-push-in-Equal-clause-parted
returns-in_ok-push-in-Equal-clause-parted g c all others p =
    both-taken g.met.T.Ord.total all others _ _ _ _ _ _ _ c.order_of_last.result c.deref.ensures.value
    c.deref-2.ensures.value c.order_of_last.ensures
    _ _ _ c.in-Some-Some.was c.in-Some-Some.is' c.in-Some-Some.ensures.items c.in-Some-Some.ensures'.items
    c.in_ok-push-in-Equal.ensures.items c.in-Equal.is p
