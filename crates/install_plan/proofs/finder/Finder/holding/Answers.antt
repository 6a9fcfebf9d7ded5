use Rattle.std.proofs.Common.{◌≡◌, sym, subst}
use Rattle.std.specs.Prelude.{flat_map}
use Rattle.std.proofs.lemmas.Result.{IfOk-weaker}
use Rattle.install_plan.specs.InsideFinder.{AreHeld, Numbers, keys_under}
use Rattle.install_plan.proofs.Finding.{are-held}
use Rattle.install_plan.proofs.finder.Finder.holding.Goals as goal

pub returns : goal.returns
returns c =
    let h = c.args.header.now in
    let items = c.self.inside.index.items in
    let found = flat_map (keys_under items) c.in_ok-numbers.numbers in
    let held = are-held c.self.inside.numbers.entries items c.self.inside.next h c.in_ok-numbers.numbers
    c.self.invariant c.len.ensures.once c.in_ok-numbers.ensures.ids in
    IfOk-weaker c.keys_of.result (λ keys. keys ≡ found) (AreHeld c.args.self.now h)
    (λ keys e. subst (AreHeld c.args.self.now h) (sym e)
    (subst (λ (ns : Numbers). AreHeld ns h found) c.self.view_is held)) c.keys_of.ensures
