use Rattle.std.proofs.Common.{◌≡◌, ◌+◌, ◌<◌, true, false, drop, length, subst, sym, take}
use Rattle.std.specs.List.{AllByRecursion}
use Rattle.install_plan.specs.declared.written.Written.{Written}
use Rattle.policy_meaning.specs.LeafFact.{EachPair}
use Rattle.shared_rows.specs.Rows.{IsLower, Rise, has_key, is_past}
use Rattle.shared_rows.specs.InsideRuns.{HaveRows, joined}
use Rattle.shared_rows.proofs.Placing.{back_stays, front_stays, have_others, opened, within}
use Rattle.shared_rows.proofs.runs.open.Goals as goal

pub returns-clause-place : goal.returns-clause-place
returns-clause-place c =
    let p = c.place_for-place.result in
    let lt = subst (λ xs. p < length xs) c.as_slice.ensures c.place_for-place.ensures.within in
    within c.args.runs.now c.remove.new.self p lt c.remove.ensures.items

pub returns-clause-rows : goal.returns-clause-rows
returns-clause-rows c =
    let p = c.place_for-place.result in
    let lt = subst (λ xs. p < length xs) c.as_slice.ensures c.place_for-place.ensures.within in
    opened c.args.runs.now c.remove.new.self p lt c.remove.ensures.items c.remove.result c.in_ok-rows.rows
    c.remove.ensures.item c.in_ok-rows.ensures

pub returns-clause-before : goal.returns-clause-before
returns-clause-before c rise have =
    let p = c.place_for-place.result in
    let lt = subst (λ xs. p < length xs) c.as_slice.ensures c.place_for-place.ensures.within in
    let all = subst (λ xs. Rise (joined xs) → HaveRows xs
    → AllByRecursion (λ (w : Written). is_past c.args.entry.now w ≡ false) (joined (take p xs))) c.as_slice.ensures
    c.place_for-place.ensures.before rise have in
    subst (λ xs. AllByRecursion (λ (w : Written). is_past c.args.entry.now w ≡ false) (joined xs))
    (sym (front_stays c.args.runs.now c.remove.new.self p lt c.remove.ensures.items)) all

pub returns-clause-behind : goal.returns-clause-behind
returns-clause-behind c rise have =
    let p = c.place_for-place.result in
    let lt = subst (λ xs. p < length xs) c.as_slice.ensures c.place_for-place.ensures.within in
    let all = subst (λ xs. Rise (joined xs) → HaveRows xs
    → AllByRecursion (λ (w : Written). is_past c.args.entry.now w ≡ true) (joined (drop (p + 1) xs))) c.as_slice.ensures
    c.place_for-place.ensures.behind rise have in
    subst (λ xs. AllByRecursion (λ (w : Written). is_past c.args.entry.now w ≡ true) (joined xs))
    (sym (back_stays c.args.runs.now c.remove.new.self p lt c.remove.ensures.items)) all

pub returns-clause-apart : goal.returns-clause-apart
returns-clause-apart c lower have =
    let p = c.place_for-place.result in
    let lt = subst (λ xs. p < length xs) c.as_slice.ensures c.place_for-place.ensures.within in
    let all = subst (λ xs. EachPair IsLower (joined xs) → HaveRows xs
    → AllByRecursion (λ (w : Written). has_key c.args.entry.now w ≡ false) (joined (take p xs))) c.as_slice.ensures
    c.place_for-place.ensures.apart lower have in
    subst (λ xs. AllByRecursion (λ (w : Written). has_key c.args.entry.now w ≡ false) (joined xs))
    (sym (front_stays c.args.runs.now c.remove.new.self p lt c.remove.ensures.items)) all

pub returns-clause-each : goal.returns-clause-each
returns-clause-each c have =
    let p = c.place_for-place.result in
    let lt = subst (λ xs. p < length xs) c.as_slice.ensures c.place_for-place.ensures.within in
    have_others c.args.runs.now c.remove.new.self p lt c.remove.ensures.items have
