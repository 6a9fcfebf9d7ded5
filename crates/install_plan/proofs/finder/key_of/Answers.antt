use Rattle.std.proofs.Common.{List, ℕ, ◌<◌, ◌^◌, cond, Some, None, sym, ap, ◌∙◌, arith, lt-ltb}
use Rattle.install_plan.specs.InsideFinder.{key_in}
use Rattle.install_plan.proofs.finder.key_of.Goals as goal

pub returns-then-item-lt65536 : goal.returns-then-item-lt65536
returns-then-item-lt65536 c =
    let i = c.args.item.now in
    let lt : i.rank < 2 ^ 16 = omega (arith, c.if-item-lt65536.true) in
    ap (λ (bytes : List ℕ). Some (record { priority = i.rank; bytes = bytes })) c.write.ensures.value
    ∙ sym (ap (λ b. cond b (Some (key_in i)) None) (lt-ltb i.rank (2 ^ 16) lt))
