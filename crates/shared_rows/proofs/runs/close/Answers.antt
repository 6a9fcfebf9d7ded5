use Rattle.std.proofs.Common.{◌≡◌, ◌∙◌, ◌++◌, [], ap, drop, length, sym, take}
use Rattle.std.proofs.lemmas.Bool.Decides.{Decides-eqb}
use Rattle.std.proofs.lemmas.List.{nil_from_length}
use Rattle.shared_rows.specs.InsideRuns.{joined}
use Rattle.shared_rows.proofs.Placing.{closed, closed_twice, joined_split}
use Rattle.shared_rows.proofs.runs.close.Goals as goal

pub returns-then-is_empty-clause-rows : goal.returns-then-is_empty-clause-rows
returns-then-is_empty-clause-rows c =
    let none : c.args.rows ≡ [] =
    nil_from_length c.args.rows ((Decides-eqb (length c.args.rows) 0).0 (sym c.is_empty.ensures ∙ c.if-is_empty.true))
    in
    joined_split c.args.place c.args.runs.now
    ∙ ap (λ ws. joined (take c.args.place c.args.runs.now) ++ (ws ++ joined (drop c.args.place c.args.runs.now)))
    (sym none)

pub returns-then-len-le-MOST-clause-rows : goal.returns-then-len-le-MOST-clause-rows
returns-then-len-le-MOST-clause-rows c =
    closed c.args.runs.now c.put.new.runs c.args.place c.args.rows c.in_ok-put.ensures.front c.in_ok-put.ensures.back

pub returns-clause-rows : goal.returns-clause-rows
returns-clause-rows c =
    closed_twice c.args.runs.now c.put-2.new.runs c.put-3.new.runs c.args.place 16 c.args.rows c.from_vec-2.result
    c.from_vec.result
    (c.from_vec-2.ensures ∙ (c.in_ok-second.ensures.items ∙ ap (take 16) c.into_vec-first.ensures))
    (c.from_vec.ensures ∙ (c.in_ok-second.ensures.tail ∙ ap (drop 16) c.into_vec-first.ensures))
    c.in_ok-put-2.ensures.front c.in_ok-put-2.ensures.back c.in_ok-put-3.ensures.front c.in_ok-put-3.ensures.back
