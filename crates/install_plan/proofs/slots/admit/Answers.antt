use Rattle.install_plan.proofs.Finding.{known-more}
use Rattle.install_plan.proofs.slots.admit.Goals as goal

pub returns-in_err-insert-clause-known : goal.returns-in_err-insert-clause-known
returns-in_err-insert-clause-known c = λ known q t. c.insert.ensures.still q (known q t)

pub returns-clause-known : goal.returns-clause-known
returns-clause-known c = λ known.
    known-more c.args.finder.now c.insert.new.self c.args.slots.now.entries c.open.new.slots.entries c.args.key.now
    c.in_ok-insert.ensures.there c.insert.ensures.still c.open.ensures.only known
