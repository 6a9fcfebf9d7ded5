use Rattle.bench_parts.proofs.map.walks.count_over.Goals as goal

pub count-requires : goal.count-requires
count-requires c = c.sees_rising.ensures.0 c.if-not-sees_rising.false
