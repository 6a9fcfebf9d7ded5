use Rattle.std.proofs.Common.{◌≡◌, ◌-◌, ◌+◌, ◌++◌, ℕ, List, length, take, drop, arith, ap, subst, ◌∙◌}
use Rattle.std.proofs.lemmas.List.{take_rest}
use Rattle.std.proofs.lemmas.Result.{err_from_is_err_and}
use Rattle.of10_frames.specs.Wire.{length_field}
use Rattle.of10_frames.specs.Frames.{BeginsWithFrame, IsFrame}
use Rattle.of10_frames.proofs.Fronts.{begins, given_out}
use Rattle.of10_frames.proofs.framer.Framer.next.Goals as goal

-- what the code looks at are the bytes that are kept
kept_is : (items all : List ℕ) (given : ℕ) (kept : List ℕ) → all ≡ items → drop given items ≡ kept
    → take (length all - given) (drop given all) ≡ kept
kept_is items all given kept e h = take_rest all given ∙ (ap (drop given) e ∙ h)

begun : (c : goal.After-from_residual) → BeginsWithFrame c.args.self.now
begun c =
    let k = kept_is _ c.deref.result.now c.self.inside.given _ c.deref.ensures.value c.self.view_is in
    subst BeginsWithFrame k
    (begins _ (omega (arith, c.length_of-length.ensures, c.from-size.ensures, c.if-size-lt-HEADER.false))
    (omega (arith, c.length_of-length.ensures, c.from-size.ensures, c.if-kept-size.false)))

found : (c : goal.After-self-1) → IsFrame c.in_ok-frame.frame
    × (c.args.self.now ≡ c.in_ok-frame.frame ++ drop (c.self.inside.given + c.from-size.result)
    c.self.inside.buffer.items)
found c =
    let k = kept_is _ c.deref.result.now c.self.inside.given _ c.deref.ensures.value c.self.view_is in
    given_out c.self.inside.buffer.items c.self.inside.given c.from-size.result c.args.self.now c.in_ok-frame.frame
    c.self.view_is
    (omega (arith, c.from-size.ensures, c.length_of-length.ensures, ap length_field k)) c.if-size-lt-HEADER.false
    (omega (arith, c.if-kept-size.false, ap length k)) (c.in_ok-frame.ensures ∙ ap (take c.from-size.result) k)

pub returns-in_err-frame-clause-none : goal.returns-in_err-frame-clause-none
returns-in_err-frame-clause-none c =
    let p = err_from_is_err_and c.from_residual.result c.from_residual.ensures.1 in
    rw p.1 (λ e. absurd (cc), λ u. absurd (u.0 (begun c)))

pub returns-in_err-frame-clause-cause : goal.returns-in_err-frame-clause-cause
returns-in_err-frame-clause-cause c =
    let p = err_from_is_err_and c.from_residual.result c.from_residual.ensures.1 in
    rw (p.1, p.2) (begun c)

pub returns-clause-frame : goal.returns-clause-frame
returns-clause-frame c = found c

pub returns-clause-none : goal.returns-clause-none
returns-clause-none c = (
  λ e. absurd (cc),
  λ u. absurd
      (u.0 (
        c.in_ok-frame.frame,
        drop (c.self.inside.given + c.from-size.result) c.self.inside.buffer.items,
        (found c).0,
        (found c).1,
      )),
)
