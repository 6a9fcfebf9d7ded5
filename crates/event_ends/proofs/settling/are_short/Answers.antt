use Rattle.std.proofs.Common.{◌≡◌, ℕ, zero, suc, ◌+◌, ◌≤◌, List, [], ◌∷◌, drop, length, IfSome, slice_get, subst, sym}
use Rattle.std.proofs.Common.{arith}
use Rattle.std.proofs.lemmas.List.{drop_all}
use Rattle.member_replies.specs.Statistics.{AreShort}
use Rattle.member_table.specs.declared.entry.Entry.{Entry}
use Rattle.event_ends.proofs.settling.are_short.Goals as goal

-- one more is short
one_more : (es : List Entry) (i : ℕ) → IfSome (slice_get es i) (λ (e : Entry). length e.actions ≤ 64)
    → AreShort (drop (suc i) es) → AreShort (drop i es)
one_more [] zero h rest = tt
one_more [] (suc i) h rest = tt
one_more (e ∷ es) zero h rest = (h, rest)
one_more (e ∷ es) (suc i) h rest = one_more es i h rest

pub loop-place-preserved : goal.loop-place-preserved
loop-place-preserved c =
    λ rest.
    let es = c.args.table.now.table.entries in
    let i = c.loop-place.place in
    let next : i + 1 ≡ suc i = omega arith in
    c.loop-place.invariant
    (one_more es i (c.is_short.ensures c.if-not-is_short.false) (subst (λ (k : ℕ). AreShort (drop k es)) next rest))

pub returns : goal.returns
returns c =
    λ yes.
    let es = c.args.table.now.table.entries in
    c.loop-place.invariant
    (subst AreShort (sym (drop_all c.loop-place.place es (omega arith))) tt)
