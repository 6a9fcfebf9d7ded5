use Rattle.std.proofs.Common.{ℕ, ◌≤◌, ◌<◌, List, length, take, subst, refl, arith}
use Rattle.std.proofs.lemmas.List.{take_all}
use Rattle.std.proofs.lemmas.List.Elements.{All-more}
use Rattle.cv_io.specs.Text.{IsAsciiText}
use Rattle.cv_io.proofs.text.Text.from_bytes.Goals as goal

-- what holds of as many items as there are holds of the list
whole : (n : ℕ) (xs : List ℕ) → length xs ≤ n → IsAsciiText (take n xs) → IsAsciiText xs
whole n xs most h = subst IsAsciiText (take_all n xs most) h

pub loop-at-preserved : goal.loop-at-preserved
loop-at-preserved c = All-more (λ b. b < 128) _ _ 0 c.loop-at-test.true c.loop-at.invariant c.if-byte-ge128.false

pub invariant_of-result : goal.invariant_of-result
invariant_of-result c = subst IsAsciiText c.as_slice-byte-items.ensures
    (whole c.loop-at.at _ (omega (arith, c.loop-at-test.false)) c.loop-at.invariant)

pub returns-clause-ascii : goal.returns-clause-ascii
returns-clause-ascii c = (λ _. invariant_of-result c, λ _. refl)
