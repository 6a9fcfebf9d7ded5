use Rattle.std.proofs.Common.{◌≡◌, ◌||◌, ◌∙◌, ℕ, [], List, Option, None, is_some, option_map, ap, ap₂, sym, subst}
use Rattle.std.proofs.lemmas.Result.{err_from_is_err_and}
use Rattle.level_map.specs.Levels.{IsLevelling, Levels, level_of}
use Rattle.member_table.specs.Tables.{TableOf}
use Rattle.member_table.specs.declared.change.Change.{Change}
use Rattle.member_table.specs.declared.entry.Entry.{Entry}
use Rattle.member_state.specs.Changes.{levels_with, with_table}
use Rattle.member_state.specs.Denials.{IsFaultOf, budget_row}
use Rattle.member_state.specs.Plans.{IsReady, after_planned, ranks_of}
use Rattle.member_state.specs.States.{HeldState, IsKept, MemberStateOf, held_by}
use Rattle.member_state.specs.declared.planned.Planned.{Planned}
use Rattle.member_state.proofs.Plans.{fresh, fresh_ready}
use Rattle.member_state.proofs.Ranks.{comes_with}
use Rattle.member_state.proofs.Rows.{denied_by_levels, not_denied, rank_at, with_levelling, with_some}
use Rattle.member_state.proofs.judging.judged.Goals as goal

pub returns-in_err-placed-clause-fault : goal.returns-in_err-placed-clause-fault
returns-in_err-placed-clause-fault c =
    let l = c.args.levels.now in
    let x : MemberStateOf = record { table = c.args.table.now.table; levels = l } in
    let fault = c.in_err-placed.field-0.0 in
    let rank = ap (λ (ch : Change). option_map (λ (e : Entry). e.rank) ch.added) c.in_ok-change.ensures.change
    ∙ rank_at c.args.table.now.table c.args.m.now c.args.now in
    let here = subst (λ (o : Option ℕ). IsFaultOf (budget_row l o) fault) rank c.in_err-placed.ensures.fault in
    let p = err_from_is_err_and c.from_residual-in_err-placed.result c.from_residual-in_err-placed.ensures.1 in
    rw (p.1, p.2)
    (denied_by_levels c.args.g.now c.args.v.now x c.args.m.now fault c.in_ok-check_flow.ensures.denied
    c.in_ok-change.ensures.accepted here)

pub returns-clause-accepted : goal.returns-clause-accepted
returns-clause-accepted c =
    let l = c.args.levels.now in
    let x : MemberStateOf = record { table = c.args.table.now.table; levels = l } in
    let rank = ap (λ (ch : Change). option_map (λ (e : Entry). e.rank) ch.added) c.in_ok-change.ensures.change
    ∙ rank_at c.args.table.now.table c.args.m.now c.args.now in
    not_denied c.args.g.now c.args.v.now x c.args.m.now c.in_ok-check_flow.ensures.denied
    c.in_ok-change.ensures.accepted
    (subst (λ (o : Option ℕ). budget_row l o ≡ None) rank c.in_ok-placed.ensures.accepted)

pub returns-clause-planned : goal.returns-clause-planned
returns-clause-planned c =
    let l = c.args.levels.now in
    let x : MemberStateOf = record { table = c.args.table.now.table; levels = l } in
    let placed = c.in_ok-placed.ensures.placed
    ∙ ap (λ (ch : Change). levels_with ch.added l) c.in_ok-change.ensures.change in
    ap (λ (p : Planned). after_planned x p c.args.now) c.of.ensures
    ∙ (fresh x c.in_ok-change.change c.in_ok-ranks.ranks c.in_ok-placed.placed c.args.now
    ∙ ap₂ (λ (u : TableOf) (k : Levels). with_table u (record x { levels = k })) c.in_ok-change.ensures.planned placed)

pub returns-clause-ready : goal.returns-clause-ready
returns-clause-ready c =
    let l = c.args.levels.now in
    let h : HeldState = held_by c.plan.new.table l in
    let change = c.in_ok-change.change in
    let placed = c.in_ok-placed.placed in
    let kept = subst (λ (t : TableOf). IsKept (record { table = t; levels = l })) (sym c.plan.ensures.table)
    c.requires.kept in
    let levelling = subst (λ (k : Levels). IsLevelling k.size k.ranked) (sym c.in_ok-placed.ensures.placed)
    (with_levelling l change.added c.requires.kept.levels c.in_ok-placed.ensures.accepted) in
    let some : (q : ℕ) → is_some (level_of placed q) ≡ (comes_with change.added q || is_some (level_of l q)) = λ q. ap
    (λ (k : Levels). is_some (level_of k q)) c.in_ok-placed.ensures.placed ∙ with_some l change.added q in
    let ranks = c.in_ok-ranks.ensures ∙ ap (ranks_of c.plan.new.table.table.entries) c.as_slice.ensures in
    let same = c.of.ensures
    ∙ ap (λ (rs : List ℕ). record { change = change; ranks = rs; dropped = []; touched = []; levels = placed })
    ranks in
    subst (IsReady h) (sym same)
    (fresh_ready h c.len.ensures.sound kept change placed c.in_ok-change.ensures.ready levelling some)
