use Rattle.std.proofs.Common.{length, arith, ◌<◌, ◌^◌}
use Rattle.std.proofs.lemmas.Result.{IfOk-weaker}
use Rattle.rule_ancestry.proofs.Descending.{descended}
use Rattle.rule_ancestry.proofs.store.Store.descend.Goals as goal

pub returns : goal.returns
returns g c =
    let short : length c.self.inside.slab.slots < 2 ^ 64 = let a = c.capacity-room.ensures.slots in let b =
    c.capacity-room.type_inv in omega arith in
    IfOk-weaker c.linked.result _ _
    (λ ids e. descended g.R.Name.Ord.cmp g.R.Filed.borne c.args.name g.met.R.Name.Ord.total c.args.self.now
    c.self.inside.slab.slots c.self.inside.links ids.items c.self.view_is c.self.invariant short
    c.len-count.ensures.ordered e) c.linked.ensures
