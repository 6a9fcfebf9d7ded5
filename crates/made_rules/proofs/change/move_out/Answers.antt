use Rattle.std.proofs.Common.{ap, sym, ◌∙◌, ◌++◌, ◌∷◌, []}
use Rattle.made_rules.proofs.Changes.{out-item, out-rest, out-there}
use Rattle.made_rules.proofs.change.move_out.Goals as goal

pub returns-in-Some-clause-rest : goal.returns-in-Some-clause-rest
returns-in-Some-clause-rest c item rest p =
    out-rest c.args.store.now c.remove.new.self rest c.args.id item c.len-count.ensures.rising p
    c.in-Some.ensures.others

pub returns-in-Some-clause-left : goal.returns-in-Some-clause-left
returns-in-Some-clause-left c item rest p =
    c.push_reserved.ensures.items
    ∙ ap (λ m. c.args.left.now.items ++ m ∷ [])
    (out-item c.args.store.now rest c.args.id item c.in-Some.made c.len-count.ensures.rising p
    (sym c.in-Some.ensures.item))

pub returns-in_default-clause-rest : goal.returns-in_default-clause-rest
returns-in_default-clause-rest c item rest p =
    out-rest c.args.store.now c.remove.new.self rest c.args.id item c.len-count.ensures.rising p
    c.in_default.ensures.others

pub returns-in_default-clause-left : goal.returns-in_default-clause-left
returns-in_default-clause-left c item rest p =
    absurd (out-there c.args.store.now rest c.args.id item c.len-count.ensures.rising p (sym c.in_default.ensures.item))
