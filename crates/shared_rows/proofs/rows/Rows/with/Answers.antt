use Rattle.std.proofs.Common.{◌≡◌, ◌∙◌, ◌++◌, [], ◌∷◌, true, false, ap, drop, subst, sym, take}
use Rattle.std.specs.List.{AllByRecursion}
use Rattle.install_plan.specs.declared.written.Written.{Written}
use Rattle.shared_rows.specs.Rows.{NotAfter, Rise, by_key, is_past}
use Rattle.shared_rows.specs.InsideRuns.{joined}
use Rattle.shared_rows.proofs.Lists.{pairs_back, pairs_front}
use Rattle.shared_rows.proofs.Put.{put_among}
use Rattle.shared_rows.proofs.rows.Rows.with.Goals as goal

pub returns : goal.returns
returns c up =
    let row = c.args.row in
    let rise = subst Rise (sym c.self.view_is) up in
    let have = c.self.invariant in
    let rows = c.in_ok-place.field-0.rows in
    let front = joined (take c.in_ok-place.field-0.place c.open.new.runs) in
    let back = joined (drop c.in_ok-place.field-0.place c.open.new.runs) in
    let n = c.count_up_to-behind.result in
    let split = c.in_ok-place.ensures.rows in
    let all : Rise (front ++ (rows ++ back)) = subst Rise split rise in
    let inner : Rise rows = pairs_front NotAfter rows back (pairs_back NotAfter front (rows ++ back) all) in
    let lower =
    subst (λ xs. Rise xs → AllByRecursion (λ (w : Written). is_past row.entry w ≡ false) (take n xs)) c.as_slice.ensures
    c.count_up_to-behind.ensures.before inner in
    let higher =
    subst (λ xs. Rise xs → AllByRecursion (λ (w : Written). is_past row.entry w ≡ true) (drop n xs)) c.as_slice.ensures
    c.count_up_to-behind.ensures.behind inner in
    c.in_ok-close.ensures.rows
    ∙ (ap (λ ws. front ++ (ws ++ back)) c.in_ok-insert.ensures.inserted
    ∙ (sym (put_among row front rows back n all (c.in_ok-place.ensures.before rise have) lower higher
    (c.in_ok-place.ensures.behind rise have))
    ∙ ap (λ xs. by_key (xs ++ row ∷ [])) (sym split ∙ c.self.view_is)))
