use Rattle.std.proofs.Common.{◌∷◌, ◌∙◌, ◌+◌, ◌≤◌, List, rules, suc, sym, subst, length, map}
use Rattle.std.proofs.lemmas.Result.{IfOk-weaker}
use Rattle.hop_rules.specs.Climbing.{CanClimb, HasClimbed, IsBelow, came_to}
use Rattle.hop_rules.specs.Counts.{steps_from}
use Rattle.hop_rules.specs.Nodes.{NodeOf}
use Rattle.hop_rules.specs.declared.level.Level.{Level}
use Rattle.hop_rules.specs.declared.level.Stand.{Stand}
use Rattle.hop_rules.proofs.Climbs.{at-top, climbed-cost, climbed-on, ended-cost, level-ready, next-below, none-left}
use Rattle.hop_rules.proofs.Climbs.{top-cost, top-was}
use Rattle.hop_rules.proofs.parts.+climb.Goals as goal

pub change_level-requires-clause-count : goal.change_level-requires-clause-count
change_level-requires-clause-count g t c =
    let r = c.requires in
    (top-was r.f r.rules r.es r.n r.old c.args.given.now r.before c.args.below.now c.args.levels.now c.args.top.now
    c.args.event.now c.args.turns.now r.is (none-left _ c.in-None.ensures.cases)).count

pub change_level-requires-clause-ready : goal.change_level-requires-clause-ready
change_level-requires-clause-ready g t c =
    let r = c.requires in
    let m = top-was r.f r.rules r.es r.n r.old c.args.given.now r.before c.args.below.now c.args.levels.now
    c.args.top.now c.args.event.now c.args.turns.now r.is (none-left _ c.in-None.ensures.cases) in
    level-ready r.f r.rules r.es r.n r.old c.args.given.now r.before c.args.below.now c.args.levels.now c.args.top.now
    c.args.event.now c.args.turns.now r.is c.args.top.now m

pub returns-in-None-clause-climbed : goal.returns-in-None-clause-climbed
returns-in-None-clause-climbed g t c f rules es n old before b =
    IfOk-weaker c.change_level.result _
    (λ tolds. HasClimbed f rules es n c.args.given.now c.args.below.now c.args.levels.now c.args.top.now
    c.change_level.new.level tolds)
    (λ tolds h. at-top f rules es n old c.args.given.now before c.args.below.now c.args.levels.now c.args.top.now
    c.args.event.now c.args.turns.now b (none-left _ c.in-None.ensures.cases) c.change_level.new.level tolds h)
    c.change_level.ensures.turned

pub returns-in-None-clause-steps : goal.returns-in-None-clause-steps
returns-in-None-clause-steps g t c f rules es n old before b =
    top-cost f rules es n old c.args.given.now before c.args.below.now c.args.levels.now c.args.top.now c.args.event.now
    c.args.turns.now b (none-left _ c.in-None.ensures.cases) c.args.steps.now c.change_level.new.steps
    c.change_level.ensures.steps

pub change_level-requires-in-Some-clause-count : goal.change_level-requires-in-Some-clause-count
change_level-requires-in-Some-clause-count g t c =
    let r = c.requires in
    let b =
    subst (λ (ls : List Level). IsBelow r.f r.rules r.es r.n r.old c.args.given.now r.before c.args.below.now ls
    c.args.top.now c.args.event.now c.args.turns.now) c.in-Some.ensures.cases.0 r.is in
    b.made.0.0.count

pub change_level-requires-in-Some-clause-ready : goal.change_level-requires-in-Some-clause-ready
change_level-requires-in-Some-clause-ready g t c =
    let r = c.requires in
    let b =
    subst (λ (ls : List Level). IsBelow r.f r.rules r.es r.n r.old c.args.given.now r.before c.args.below.now ls
    c.args.top.now c.args.event.now c.args.turns.now) c.in-Some.ensures.cases.0 r.is in
    level-ready r.f r.rules r.es r.n r.old c.args.given.now r.before c.args.below.now
    (c.in-Some.level.now ∷ c.in-Some.rest.now) c.args.top.now c.args.event.now c.args.turns.now b
    c.in-Some.level.now b.made.0.0

pub climb-requires : goal.climb-requires
climb-requires g t c κs within =
    let r = c.requires in
    let gs = c.args.given.now in
    let below = c.args.below.now in
    let e = c.args.event.now in
    let turns = c.args.turns.now in
    let level = c.in-Some.level.now in
    let rest = c.in-Some.rest.now in
    let then : Level = c.change_level-in-Some.new.level in
    let b = subst (λ (ls : List Level). IsBelow r.f r.rules r.es r.n r.old gs r.before below ls c.args.top.now e turns)
    c.in-Some.ensures.cases.0 r.is in
    let can : CanClimb gs c.as_slice-nodes.result.now rest c.args.top.now e c.deref.result.now = record {
      f = r.f;
      rules = r.rules;
      es = r.es;
      n = suc r.n;
      old = r.old;
      before = level.nodes;
      is =
          subst (λ (ns : List NodeOf). IsBelow r.f r.rules r.es (suc r.n) r.old gs level.nodes ns rest c.args.top.now e
          c.deref.result.now) (sym c.as_slice-nodes.ensures)
          (next-below r.f r.rules r.es r.n r.old gs r.before below level rest c.args.top.now e turns b
          then c.in_ok-tolds-in-Some.tolds c.in_ok-tolds-in-Some.ensures.turned c.deref.result.now
          (c.deref.ensures.value ∙ c.in_ok-turns-in-Some.ensures));
    } in
    (search rules, (within, can))

pub returns-in_ok-turns-in-Some-clause-climbed : goal.returns-in_ok-turns-in-Some-clause-climbed
returns-in_ok-turns-in-Some-clause-climbed g t c f rules es n old before b =
    let gs = c.args.given.now in
    let below = c.args.below.now in
    let e = c.args.event.now in
    let turns = c.args.turns.now in
    let level = c.in-Some.level.now in
    let then : Level = c.change_level-in-Some.new.level in
    let b' = subst (λ (ls : List Level). IsBelow f rules es n old gs before below ls c.args.top.now e turns)
    c.in-Some.ensures.cases.0 b in
    let h = c.in_ok-tolds-in-Some.ensures.turned in
    let next =
    subst (λ (ns : List NodeOf). IsBelow f rules es (suc n) old gs level.nodes ns c.in-Some.rest.now c.args.top.now
    e c.deref.result.now) (sym c.as_slice-nodes.ensures)
    (next-below f rules es n old gs before below level c.in-Some.rest.now c.args.top.now e turns b'
    then c.in_ok-tolds-in-Some.tolds h c.deref.result.now (c.deref.ensures.value ∙ c.in_ok-turns-in-Some.ensures))
    in
    IfOk-weaker c.climb.result
    (λ tolds. HasClimbed f rules es (suc n) gs c.as_slice-nodes.result.now c.climb.new.levels c.args.top.now
    c.climb.new.top tolds)
    (λ tolds. HasClimbed f rules es n gs below (then ∷ c.climb.new.levels) c.args.top.now c.climb.new.top tolds)
    (λ tolds k. climbed-on f rules es n old gs before below level c.in-Some.rest.now c.args.top.now e turns b'
    then c.in_ok-tolds-in-Some.tolds h c.climb.new.levels c.climb.new.top tolds
    (subst (λ (ns : List NodeOf). HasClimbed f rules es (suc n) gs ns c.climb.new.levels c.args.top.now c.climb.new.top
    tolds) c.as_slice-nodes.ensures k))
    (c.climb.ensures.climbed f rules es (suc n) old level.nodes next)

pub returns-in_ok-turns-in-Some-clause-steps : goal.returns-in_ok-turns-in-Some-clause-steps
returns-in_ok-turns-in-Some-clause-steps g t c f rules es n old before b =
    let gs = c.args.given.now in
    let below = c.args.below.now in
    let e = c.args.event.now in
    let turns = c.args.turns.now in
    let level = c.in-Some.level.now in
    let rest = c.in-Some.rest.now in
    let then : Level = c.change_level-in-Some.new.level in
    let now = record f { rules = rules } in
    let ports = map (λ (s : Stand). s.at) c.args.top.now.stands in
    let b' = subst (λ (ls : List Level). IsBelow f rules es n old gs before below ls c.args.top.now e turns)
    c.in-Some.ensures.cases.0 b in
    let next =
    subst (λ (ns : List NodeOf). IsBelow f rules es (suc n) old gs level.nodes ns rest c.args.top.now e
    c.deref.result.now) (sym c.as_slice-nodes.ensures)
    (next-below f rules es n old gs before below level rest c.args.top.now e turns b'
    then c.in_ok-tolds-in-Some.tolds c.in_ok-tolds-in-Some.ensures.turned c.deref.result.now
    (c.deref.ensures.value ∙ c.in_ok-turns-in-Some.ensures)) in
    subst (λ (ls : List Level). c.climb.new.steps ≤ c.args.steps.now + steps_from f now es (came_to gs e) ports n
    (length ls)) (sym c.in-Some.ensures.cases.0)
    (climbed-cost f rules es n old gs before below level rest c.args.top.now e turns b' c.args.steps.now
    c.change_level-in-Some.new.steps c.change_level-in-Some.ensures.steps ports c.climb.new.steps
    (c.climb.ensures.steps f rules es (suc n) old level.nodes next))

pub returns-in_err-tolds-in-Some-clause-steps : goal.returns-in_err-tolds-in-Some-clause-steps
returns-in_err-tolds-in-Some-clause-steps g t c f rules es n old before b =
    let gs = c.args.given.now in
    let e = c.args.event.now in
    let level = c.in-Some.level.now in
    let rest = c.in-Some.rest.now in
    let ports = map (λ (s : Stand). s.at) c.args.top.now.stands in
    let b' =
    subst (λ (ls : List Level). IsBelow f rules es n old gs before c.args.below.now ls c.args.top.now e
    c.args.turns.now) c.in-Some.ensures.cases.0 b in
    subst (λ (ls : List Level). c.change_level-in-Some.new.steps ≤ c.args.steps.now + steps_from f
    (record f { rules = rules }) es (came_to gs e) ports n (length ls)) (sym c.in-Some.ensures.cases.0)
    (ended-cost f rules es n old gs before c.args.below.now level rest c.args.top.now e c.args.turns.now b'
    c.args.steps.now c.change_level-in-Some.new.steps c.change_level-in-Some.ensures.steps ports)

pub returns-in_err-turns-in-Some-clause-steps : goal.returns-in_err-turns-in-Some-clause-steps
returns-in_err-turns-in-Some-clause-steps g t c f rules es n old before b =
    let gs = c.args.given.now in
    let e = c.args.event.now in
    let level = c.in-Some.level.now in
    let rest = c.in-Some.rest.now in
    let ports = map (λ (s : Stand). s.at) c.args.top.now.stands in
    let b' =
    subst (λ (ls : List Level). IsBelow f rules es n old gs before c.args.below.now ls c.args.top.now e
    c.args.turns.now) c.in-Some.ensures.cases.0 b in
    subst (λ (ls : List Level). c.change_level-in-Some.new.steps ≤ c.args.steps.now + steps_from f
    (record f { rules = rules }) es (came_to gs e) ports n (length ls)) (sym c.in-Some.ensures.cases.0)
    (ended-cost f rules es n old gs before c.args.below.now level rest c.args.top.now e c.args.turns.now b'
    c.args.steps.now c.change_level-in-Some.new.steps c.change_level-in-Some.ensures.steps ports)
