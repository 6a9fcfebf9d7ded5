use Rattle.std.proofs.Common.{◌≡◌, ◌∙◌, ◌++◌, ◌∷◌, ◌+◌, ◌-◌, [], List, arith, get_or, length, sym, ap}
use Rattle.switch_meaning.specs.declared.entry.PhysEntry.{PhysEntry}
use Rattle.exact_gate.proofs.Logged.{come-again, last-taken}
use Rattle.exact_gate.proofs.log.restore_last.Goals as goal

pub returns-clause-same : goal.returns-clause-same
returns-clause-same c =
    let all = c.args.log.now.gone in
    let x = c.index-as_slice-last.result in
    let last = c.len-last.result - 1 in
    let len = c.len-last.ensures in
    let there = c.requires.there in
    let more : last + 1 ≡ length all = omega (arith, len, there) in
    let at : x ≡ get_or all last x = c.index-as_slice-last.is
    ∙ ap (λ (xs : List PhysEntry). get_or xs last x) c.as_slice.ensures in
    come-again c.args.pool.now c.insert.new.self c.truncate.new.self c.args.log.now.come x all
    (last-taken all last x more at ∙ ap (λ (xs : List PhysEntry). xs ++ x ∷ []) (sym c.truncate.ensures))
    c.requires.come c.in_ok-insert.ensures.entries
