use Rattle.std.proofs.Common.{◌≡◌, ◌∙◌, ◌+◌, ℕ, List, false, ap, drop, subst, sym, take}
use Rattle.std.specs.Prelude.{slice_get}
use Rattle.std.specs.List.{AllByRecursion}
use Rattle.install_plan.specs.declared.written.Written.{Written}
use Rattle.policy_meaning.specs.LeafFact.{EachPair}
use Rattle.switch_meaning.specs.declared.entry.PhysEntry.{PhysEntry}
use Rattle.shared_rows.specs.InsideRuns.{at_key}
use Rattle.shared_rows.specs.Rows.{IsLower, has_key}
use Rattle.shared_rows.proofs.Counting.{all_left, found, is_there, left, none}
use Rattle.shared_rows.proofs.runs.take_out.Goals as goal

-- what was counted in the rows as they were lent
abbrev LackInFront : PhysEntry → ℕ → List Written → Type 0
LackInFront e k ws = EachPair IsLower ws → AllByRecursion (λ (w : Written). has_key e w ≡ false) (take k ws)

abbrev LackBehind : PhysEntry → ℕ → List Written → Type 0
LackBehind e k ws = EachPair IsLower ws → AllByRecursion (λ (w : Written). has_key e w ≡ false) (drop (k + 1) ws)

pub returns-then-not-is_at-clause-row : goal.returns-then-not-is_at-clause-row
returns-then-not-is_at-clause-row c lower =
    let e = c.args.entry.now in
    let k = c.count_before-place.result in
    let front = subst (LackInFront e k) c.as_slice.ensures c.count_before-place.ensures.apart lower in
    let behind = subst (LackBehind e k) c.as_slice.ensures c.count_before-place.ensures.others lower in
    let at = ap (λ ws. at_key e (slice_get ws k)) (sym c.as_slice-2.ensures)
    ∙ sym c.is_at.ensures ∙ c.if-not-is_at.true in
    none e c.args.rows.now k front behind at

pub returns-then-not-is_at-clause-rows : goal.returns-then-not-is_at-clause-rows
returns-then-not-is_at-clause-rows c lower =
    let e = c.args.entry.now in
    let k = c.count_before-place.result in
    let front = subst (LackInFront e k) c.as_slice.ensures c.count_before-place.ensures.apart lower in
    let behind = subst (LackBehind e k) c.as_slice.ensures c.count_before-place.ensures.others lower in
    let at = ap (λ ws. at_key e (slice_get ws k)) (sym c.as_slice-2.ensures)
    ∙ sym c.is_at.ensures ∙ c.if-not-is_at.true in
    all_left e c.args.rows.now k front behind at

pub remove-requires : goal.remove-requires
remove-requires c =
    let e = c.args.entry.now in
    let k = c.count_before-place.result in
    let at = ap (λ ws. at_key e (slice_get ws k)) (sym c.as_slice-2.ensures)
    ∙ sym c.is_at.ensures ∙ c.if-not-is_at.false in
    is_there e c.args.rows.now k at

pub returns-clause-row : goal.returns-clause-row
returns-clause-row c lower =
    let e = c.args.entry.now in
    let k = c.count_before-place.result in
    let front = subst (LackInFront e k) c.as_slice.ensures c.count_before-place.ensures.apart lower in
    let behind = subst (LackBehind e k) c.as_slice.ensures c.count_before-place.ensures.others lower in
    let at = ap (λ ws. at_key e (slice_get ws k)) (sym c.as_slice-2.ensures)
    ∙ sym c.is_at.ensures ∙ c.if-not-is_at.false in
    found e c.args.rows.now k front behind c.remove.result c.remove.ensures.item at

pub returns-clause-rows : goal.returns-clause-rows
returns-clause-rows c lower =
    let e = c.args.entry.now in
    let k = c.count_before-place.result in
    let front = subst (LackInFront e k) c.as_slice.ensures c.count_before-place.ensures.apart lower in
    let behind = subst (LackBehind e k) c.as_slice.ensures c.count_before-place.ensures.others lower in
    let at = ap (λ ws. at_key e (slice_get ws k)) (sym c.as_slice-2.ensures)
    ∙ sym c.is_at.ensures ∙ c.if-not-is_at.false in
    c.remove.ensures.items ∙ left e c.args.rows.now k front behind c.remove.result c.remove.ensures.item at
