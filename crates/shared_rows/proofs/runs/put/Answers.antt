use Rattle.std.proofs.Common.{◌<◌, length, subst, sym}
use Rattle.shared_rows.proofs.Placing.{back_is, front_was, have_more, one_more}
use Rattle.shared_rows.proofs.runs.put.Goals as goal

pub returns-clause-long : goal.returns-clause-long
returns-clause-long c =
    one_more c.args.runs.now c.insert.new.self c.args.place c.in_ok-run.run' c.requires.place
    c.in_ok-insert.ensures.inserted

pub returns-clause-front : goal.returns-clause-front
returns-clause-front c =
    front_was c.args.runs.now c.insert.new.self c.args.place c.in_ok-run.run' c.requires.place
    c.in_ok-insert.ensures.inserted

pub returns-clause-back : goal.returns-clause-back
returns-clause-back c =
    back_is c.args.runs.now c.insert.new.self c.args.place c.in_ok-run.run' c.requires.place
    c.in_ok-insert.ensures.inserted c.args.rows c.in_ok-run.ensures.ok

pub returns-clause-each : goal.returns-clause-each
returns-clause-each c have =
    have_more c.args.runs.now c.insert.new.self c.args.place c.in_ok-run.run' c.requires.place
    c.in_ok-insert.ensures.inserted
    (subst (λ rows. 0 < length rows) (sym c.in_ok-run.ensures.ok) c.requires.some) have
