use Rattle.std.proofs.Common.{◌≡◌, ◌∙◌, ◌||◌, ◌++◌, ◌∷◌, [], sym, ap}
use Rattle.match_index.proofs.Lists.{either_then}
use Rattle.switch_meaning.specs.Same.{same_entry}
use Rattle.switch_meaning.specs.declared.entry.PhysEntry.{PhysEntry}
use Rattle.exact_gate.specs.Standing.{stands_in}
use Rattle.exact_gate.proofs.Logged.{has-come, is-coming}
use Rattle.exact_gate.proofs.Standing.{there-already}
use Rattle.exact_gate.proofs.log.enter.Goals as goal

pub returns-then-has-clause-come : goal.returns-then-has-clause-come
returns-then-has-clause-come c e = there-already c.args.pool.now c.args.entry.now e (sym c.has.ensures ∙ c.if-has.true)

pub returns-clause-same : goal.returns-clause-same
returns-clause-same c =
    let come = c.args.log.now.come in
    let now = c.in_ok-push.ensures.pushed ∙ ap (λ (x : PhysEntry). come ++ x ∷ []) c.in_ok-copy.ensures in
    let absent = sym c.has.ensures ∙ c.if-has.false in
    either_then ((e : PhysEntry) → stands_in c.insert.new.self e
    ≡ (stands_in c.args.pool.now e || same_entry e c.args.entry.now)) (c.insert.new.self ≡ c.args.pool.now) _
    c.insert.result
    (has-come c.args.pool.now c.insert.new.self c.args.log.now.gone come c.args.entry.now c.push.new.self now absent)
    (is-coming c.args.pool.now c.insert.new.self c.args.log.now.gone come c.args.entry.now c.push.new.self now absent)
    c.insert.ensures.entries c.insert.ensures.memory
