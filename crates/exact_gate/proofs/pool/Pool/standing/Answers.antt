use Rattle.std.proofs.Common.{◌≡◌, ◌∙◌, List, sym, ap}
use Rattle.std.proofs.lemmas.Result.{IfOk-weaker}
use Rattle.switch_meaning.specs.declared.entry.PhysEntry.{PhysEntry}
use Rattle.exact_gate.specs.Standing.{standing}
use Rattle.exact_gate.proofs.Pooled.{each_passes, none_found, none_passes}
use Rattle.exact_gate.proofs.pool.Pool.standing.Goals as goal

pub returns-in-None : goal.returns-in-None
returns-in-None c =
    let k = c.args.key.now in
    c.new.ensures
    ∙ sym (ap (λ (xs : List PhysEntry). standing xs k) (sym c.self.view_is)
    ∙ none_found k c.self.inside.buckets.entries c.self.inside.finder c.self.inside.next c.self.invariant.0
    c.self.invariant.1 c.in-None.ensures.value)

pub returns-then-is_passed : goal.returns-then-is_passed
returns-then-is_passed c =
    let k = c.args.key.now in
    c.new-then-is_passed.ensures
    ∙ sym (ap (λ (xs : List PhysEntry). standing xs k) (sym c.self.view_is)
    ∙ none_passes k c.self.inside.buckets.entries c.self.inside.finder c.self.inside.next c.self.invariant.0
    c.self.invariant.1 c.in-Some.bucket.now c.in-Some.ensures.value (sym c.is_passed.ensures ∙ c.if-is_passed.true))

pub returns : goal.returns
returns c =
    let k = c.args.key.now in
    let is = sym (ap (λ (xs : List PhysEntry). standing xs k) (sym c.self.view_is)
    ∙ each_passes k c.self.inside.buckets.entries c.self.inside.finder c.self.inside.next c.self.invariant.0
    c.self.invariant.1 c.in-Some.bucket.now c.in-Some.ensures.value
    (sym c.is_passed.ensures ∙ c.if-is_passed.false)) in
    IfOk-weaker c.copies.result (λ list. list ≡ c.as_slice.result.now) (λ list. list ≡ standing c.args.self.now k)
    (λ list e. e ∙ (c.as_slice.ensures ∙ is)) c.copies.ensures
