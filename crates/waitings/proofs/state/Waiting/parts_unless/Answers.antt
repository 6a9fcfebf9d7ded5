use Rattle.std.proofs.Common.{◌≡◌, subst, sym}
use Rattle.std.specs.Prelude.{IfOk}
use Rattle.waitings.specs.Waitings.{unless_more, without_part}
use Rattle.waitings.proofs.Same.{parts_left}
use Rattle.waitings.proofs.state.Waiting.parts_unless.Goals as goal

pub returns : goal.returns
returns c =
    subst (λ more. IfOk c.without.result
    (λ parts. record c.args.self.now { parts = parts } ≡ unless_more more c.args.switch c.args.xid c.args.self.now))
    (sym c.if-more.false)
    (subst (λ k. IfOk c.without.result (λ parts. record c.args.self.now { parts = parts }
    ≡ without_part c.args.switch k c.args.self.now)) c.from-number.ensures
    (parts_left c.without.result c.args.switch c.from-number.result c.args.self.now c.without.ensures))
