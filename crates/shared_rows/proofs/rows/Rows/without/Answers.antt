use Rattle.std.proofs.Common.{◌∙◌, ◌++◌, ap, drop, filter, not, subst, sym, take}
use Rattle.std.specs.Prelude.{find}
use Rattle.install_plan.specs.declared.written.Written.{Written}
use Rattle.policy_meaning.specs.LeafFact.{EachPair}
use Rattle.shared_rows.specs.Rows.{IsLower, has_key}
use Rattle.shared_rows.specs.InsideRuns.{joined}
use Rattle.shared_rows.proofs.Lists.{pairs_back, pairs_front}
use Rattle.shared_rows.proofs.Put.{found_among, left_among, rows_rise}
use Rattle.shared_rows.proofs.rows.Rows.without.Goals as goal

pub returns-clause-row : goal.returns-clause-row
returns-clause-row c lower' =
    let e = c.args.entry.now in
    let lower = subst (EachPair IsLower) (sym c.self.view_is) lower' in
    let have = c.self.invariant in
    let rows = c.in_ok-place.field-0.rows in
    let front = joined (take c.in_ok-place.field-0.place c.open.new.runs) in
    let back = joined (drop c.in_ok-place.field-0.place c.open.new.runs) in
    let split = c.in_ok-place.ensures.rows in
    let all : EachPair IsLower (front ++ (rows ++ back)) = subst (EachPair IsLower) split lower in
    let inner : EachPair IsLower rows = pairs_front IsLower rows back (pairs_back IsLower front (rows ++ back) all) in
    c.take_out-row.ensures.row inner
    ∙ (sym (found_among e front rows back (c.in_ok-place.ensures.apart lower have)
    (c.in_ok-place.ensures.behind (rows_rise _ lower) have))
    ∙ ap (find (has_key e)) (sym split ∙ c.self.view_is))

pub returns-clause-rows : goal.returns-clause-rows
returns-clause-rows c lower' =
    let e = c.args.entry.now in
    let lower = subst (EachPair IsLower) (sym c.self.view_is) lower' in
    let have = c.self.invariant in
    let rows = c.in_ok-place.field-0.rows in
    let front = joined (take c.in_ok-place.field-0.place c.open.new.runs) in
    let back = joined (drop c.in_ok-place.field-0.place c.open.new.runs) in
    let split = c.in_ok-place.ensures.rows in
    let all : EachPair IsLower (front ++ (rows ++ back)) = subst (EachPair IsLower) split lower in
    let inner : EachPair IsLower rows = pairs_front IsLower rows back (pairs_back IsLower front (rows ++ back) all) in
    c.in_ok-close.ensures.rows
    ∙ (ap (λ ws. front ++ (ws ++ back)) (c.take_out-row.ensures.rows inner)
    ∙ (sym (left_among e front rows back (c.in_ok-place.ensures.apart lower have)
    (c.in_ok-place.ensures.behind (rows_rise _ lower) have))
    ∙ ap (filter (λ (w : Written). not (has_key e w))) (sym split ∙ c.self.view_is)))
